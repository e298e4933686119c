-- `indexing::put_members` meets its contract: one number more is looked at.
-- Assumes nothing.
use mathlib.Core.Path.{ap}
use mathlib.Core.List.{[], ◌∷◌}
use Prim.Native.Nat.{ℕ, ◌+◌}
use native.Mathlib.Omega.{arith}
use Rattle.bitset.specs.Set.{contains}
use Rattle.indexing.proofs.Loops.{picked_none, picked_room, picked_more, picked_all, picked_full}
use Rattle.indexing.proofs.put_members.Goals as goal

pub loop-i-init : goal.loop-i-init
loop-i-init c = picked_none (contains (c.args.w ∷ [])) 64 c.args.out.now c.args.at c.requires

pub put_if-a-requires : goal.put_if-a-requires
put_if-a-requires c = picked_room c.loop-i.invariant c.holds.ensures c.loop-i-test.true

pub loop-i-preserved : goal.loop-i-preserved
loop-i-preserved c = picked_more c.loop-i.invariant c.holds.ensures c.loop-i-test.true c.put_if-a.ensures

pub returns-then-a-e : goal.returns-then-a-e
returns-then-a-e c = picked_full c.loop-i.invariant (ap (λ (k : ℕ). c.args.at + k) c.size.ensures.0) (omega (arith, c.if-a-e.true))

pub returns : goal.returns
returns c = picked_all c.loop-i.invariant c.loop-i-test.false
