-- `bitset::unite` meets its contract. The loop's invariant: the words before k are united with their partners.
-- Assumes nothing.
use lib.Bits.{bit_or}
use Rattle.bitset.proofs.Loops.{Combined}
use Rattle.bitset.proofs.unite.Given as goal

abbrev pub invariant-loop-k : goal.invariant-loop-k
invariant-loop-k l = Combined bit_or l.initial.ws l.vs l.ws l.k
