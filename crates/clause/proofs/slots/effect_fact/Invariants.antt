use Prim.Native.Nat.{◌-◌}
use Rattle.clause.proofs.Facts.{Between}
use Rattle.clause.proofs.slots.effect_fact.Given as goal

abbrev pub invariant-loop-lo : goal.invariant-loop-lo
invariant-loop-lo l = Between l.facts l.i l.lo l.hi

abbrev pub decreases-loop-lo : goal.decreases-loop-lo
decreases-loop-lo l = l.hi - l.lo
