-- `writer::put_literal` meets its contract: first a variable, then a negated one, with a minus in front.
-- Assumes nothing.
use native.Mathlib.Omega.{arith}
use Rattle.writer.proofs.Literals.{wrote_variable, wrote_negated}
use Rattle.writer.proofs.put_literal.Goals.{then-code-eq0, else-code-eq0}
use Rattle.writer.proofs.put_literal.Goals as goal

pub returns : goal.returns
returns c =
    elim c.if-code-eq0.branch [
      | then-code-eq0 w ↦
          wrote_variable c.args.code (omega (arith, c.requires)) w.if-code-eq0.true (rw (w.out-is, w.a-is) at c.put_decimal-b.ensures) c.put_byte.ensures
      | else-code-eq0 w ↦
          wrote_negated c.args.code (omega (arith, c.requires)) w.if-code-eq0.false w.put_byte-a.ensures (rw (w.out-is, w.a-is) at c.put_decimal-b.ensures) c.put_byte.ensures
    ]
