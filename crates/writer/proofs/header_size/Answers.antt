-- `writer::header_size` meets its contract.
-- Assumes nothing.
use native.Mathlib.Omega.{arith}
use Rattle.writer.proofs.Numerals.{length_most}
use Rattle.writer.proofs.header_size.Goals as goal

pub overflow_add-result : goal.overflow_add-result
overflow_add-result c =
    omega (
      arith,
      c.decimal_size.ensures,
      c.decimal_size-2.ensures,
      length_most c.args.v c.ranges.v.fits,
      length_most c.args.c c.ranges.c.fits,
    )

pub overflow_add-result-2 : goal.overflow_add-result-2
overflow_add-result-2 c =
    omega (
      arith,
      c.decimal_size.ensures,
      c.decimal_size-2.ensures,
      length_most c.args.v c.ranges.v.fits,
      length_most c.args.c c.ranges.c.fits,
    )
