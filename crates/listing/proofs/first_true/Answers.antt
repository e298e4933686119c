-- `listing::first_true` meets its contract. The loop's invariant: none of the first i variables is true.
-- Assumes nothing.
use Prim.Native.Nat.{◌+◌}
use native.Mathlib.Omega.{arith}
use mathlib.Core.Path.{sym}
use Rattle.listing.proofs.Sought.{value_true, value_false, sought_here, sought_more, sought_all}
use Rattle.listing.proofs.first_true.Goals as goal

pub returns-then-values-v-eq1 : goal.returns-then-values-v-eq1
returns-then-values-v-eq1 c = (
  c.loop-i-test.true,
  sought_here c.loop-i.invariant c.loop-i-test.true (value_true c.args.values.now (c.args.v + c.loop-i.i) (omega (arith, c.requires.0))
      c.if-values-v-eq1.true),
)

pub loop-i-preserved : goal.loop-i-preserved
loop-i-preserved c =
    sought_more c.loop-i.invariant c.loop-i-test.true (value_false c.args.values.now (c.args.v + c.loop-i.i) (omega (arith, c.requires.0))
    c.if-values-v-eq1.false)

pub returns : goal.returns
returns c = sym (sought_all c.loop-i.invariant c.loop-i-test.false)
