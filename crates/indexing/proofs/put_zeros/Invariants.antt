-- `indexing::put_zeros` meets its contract. The loop's invariant: zeros stand from the first place to the place reached.
-- Assumes nothing.
use Rattle.indexing.proofs.Loops.{Zeros}
use Rattle.indexing.proofs.put_zeros.Given as goal

abbrev pub invariant-loop-a : goal.invariant-loop-a
invariant-loop-a l = Zeros l.initial.out l.at l.e l.out l.a
