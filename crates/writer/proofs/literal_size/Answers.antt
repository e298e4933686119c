-- `writer::literal_size` meets its contract.
-- Assumes nothing.
use Prim.Native.Nat.{◌/◌}
use native.Mathlib.Omega.{arith}
use Rattle.writer.proofs.Numerals.{length_most}
use Rattle.writer.proofs.literal_size.Goals as goal

pub overflow_add-result : goal.overflow_add-result
overflow_add-result c =
    omega (arith, c.decimal_size.ensures, length_most (c.args.code / 2) (omega (arith, c.ranges.code.fits)))

pub overflow_add-result-2 : goal.overflow_add-result-2
overflow_add-result-2 c =
    omega (arith, c.decimal_size.ensures, length_most (c.args.code / 2) (omega (arith, c.ranges.code.fits)))
