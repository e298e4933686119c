use Rattle.cells.proofs.Numbers.{Digits, digit_range, digits_more}
use mathlib.Core.Path.{◌≡◌, sym, subst, ◌∙◌}
use Prim.Native.Nat.{◌+◌, ◌*◌, ◌-◌}
use lib.ListN.{get_or}
use Rattle.cells.proofs.number.read_digits.Goals as goal

pub overflow_sub-digit : goal.overflow_sub-digit
overflow_sub-digit c = (digit_range _ (sym c.is_digit.ensures ∙ c.if-not-is_digit.false)).0

pub loop-digit-preserved : goal.loop-digit-preserved
loop-digit-preserved c =
    let value : c.from.result ≡ get_or c.args.digits.now c.loop-digit.digit-index 0 - 48 = c.from.ensures in
    let more = digits_more c.loop-digit.invariant c.loop-digit-test.true (sym c.is_digit.ensures ∙ c.if-not-is_digit.false) in
    subst (λ d. Digits c.args.digits.now c.args.sign (c.loop-digit.variable * 10 + d) (c.loop-digit.digit-index + 1)) (sym value) more
