-- `writer::decimal_size` meets its contract. The measure is the number.
-- Assumes nothing.
use Prim.Native.Nat.{◌/◌}
use native.Mathlib.Omega.{arith}
use Rattle.writer.proofs.Numerals.{length_more, length_most}
use Rattle.writer.proofs.+decimal_size.Goals as goal

pub overflow_add-result : goal.overflow_add-result
overflow_add-result t c =
    omega (arith, c.decimal_size.ensures, length_most (c.args.n / 10) (omega (arith, c.ranges.n.fits)))

pub returns-else-n-lt10 : goal.returns-else-n-lt10
returns-else-n-lt10 t c = omega (arith, c.decimal_size.ensures, length_more c.args.n c.if-n-lt10.false)
