-- `listing::first_true` meets its contract. The loop's invariant: none of the first i variables is true.
-- Assumes nothing.
use Rattle.listing.specs.Walk.{value_of}
use Rattle.listing.proofs.Sought.{Sought}
use Rattle.listing.proofs.first_true.Given as goal

abbrev pub invariant-loop-i : goal.invariant-loop-i
invariant-loop-i l = Sought (value_of l.values) l.v l.k l.i
