-- `indexing::put_members` meets its contract. The loop's invariant: the members below i are written.
-- Assumes nothing.
use mathlib.Core.List.{[], ◌∷◌}
use Rattle.bitset.specs.Set.{contains}
use Rattle.indexing.proofs.Loops.{Picked}
use Rattle.indexing.proofs.put_members.Given as goal

abbrev pub invariant-loop-i : goal.invariant-loop-i
invariant-loop-i l = Picked (contains (l.w ∷ [])) 64 l.initial.out l.at l.out l.a l.i
