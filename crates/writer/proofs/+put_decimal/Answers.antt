-- `writer::put_decimal` meets its contract. The measure is the number.
-- Assumes nothing.
use mathlib.Core.Path.{sym}
use native.Mathlib.Omega.{arith}
use Rattle.lists.proofs.Written.{wrote_append, wrote_same}
use Rattle.writer.proofs.Numerals.{hundredth_less, decimal_hundreds, length_hundreds}
use Rattle.writer.proofs.+put_decimal.Goals as goal

pub put_short-a-requires : goal.put_short-a-requires
put_short-a-requires t c = (omega (arith, c.if-n-lt10000.true), omega (arith, c.requires, length_hundreds c.args.n c.if-n-lt100.false))

pub put_pair-requires : goal.put_pair-requires
put_pair-requires t c = omega (arith, c.put_short-a.ensures.end, c.requires, length_hundreds c.args.n c.if-n-lt100.false)

pub returns-then-n-lt10000 : goal.returns-then-n-lt10000
returns-then-n-lt10000 t c =
    wrote_same (sym (decimal_hundreds c.args.n c.if-n-lt100.false)) (wrote_append (omega (arith, c.requires)) c.put_short-a.ensures c.put_pair.ensures)

pub put_decimal-b-requires : goal.put_decimal-b-requires
put_decimal-b-requires t c =
    (omega (arith, hundredth_less c.args.n c.if-n-lt100.false), omega (arith, c.requires, length_hundreds c.args.n c.if-n-lt100.false))

pub put_pair-requires-2 : goal.put_pair-requires-2
put_pair-requires-2 t c = omega (arith, c.put_decimal-b.ensures.end, c.requires, length_hundreds c.args.n c.if-n-lt100.false)

pub returns : goal.returns
returns t c =
    wrote_same (sym (decimal_hundreds c.args.n c.if-n-lt100.false)) (wrote_append (omega (arith, c.requires)) c.put_decimal-b.ensures c.put_pair-2.ensures)
