-- `bitset::subtract` meets its contract. The loop's invariant: the words before k are rid of their partners' members.
-- Assumes nothing.
use Rattle.bitset.specs.Set.{without}
use Rattle.bitset.proofs.Loops.{Combined}
use Rattle.bitset.proofs.subtract.Given as goal

abbrev pub invariant-loop-k : goal.invariant-loop-k
invariant-loop-k l = Combined without l.initial.ws l.vs l.ws l.k
