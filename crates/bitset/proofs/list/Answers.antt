-- `bitset::list` meets its contract. One number more is listed or passed over.
-- Assumes nothing.
use Rattle.std.proofs.Common.{sym, ◌∙◌, arith}
use Rattle.lists.proofs.Order.{ne_lt}
use Rattle.bitset.proofs.Loops.{written_room, written_member, written_other, written_full, written_all}
use Rattle.bitset.proofs.list.Goals.{then-has, else-has}
use Rattle.bitset.proofs.list.Goals as goal

pub loop-i-preserved : goal.loop-i-preserved
loop-i-preserved c =
    let u = c.loop-i.invariant in
    let l = c.loop-i-test.true in
    elim c.if-has.branch [
      | then-has w ↦ rw (w.out-is, w.r-is) (written_member u l (ne_lt (written_room u) c.if-r-out.false) (sym c.has.ensures ∙ w.if-has.true))
      | else-has w ↦ rw (w.out-is, w.r-is) (written_other u l (sym c.has.ensures ∙ w.if-has.false))
    ]

pub returns-then-r-out : goal.returns-then-r-out
returns-then-r-out c = written_full c.args.n c.loop-i.invariant (omega (arith, c.end-i-end.ensures)) (omega (arith, c.if-r-out.true))

pub returns : goal.returns
returns c = written_all c.args.n c.loop-i.invariant c.end-i-end.ensures c.loop-i-test.false
