-- `bitset::list` meets its contract. The loop's invariant: the members below i stand at the front.
-- Assumes nothing.
use Rattle.bitset.proofs.Loops.{Written}
use Rattle.bitset.proofs.list.Given as goal

abbrev pub invariant-loop-i : goal.invariant-loop-i
invariant-loop-i l = Written l.ws l.initial.out l.out l.i-end l.r l.i
