use Rattle.shape.specs.Views.{table_of}
use Rattle.clause.proofs.Turns.{Steps}
use Rattle.clause.proofs.slots.push_steps.Given as goal

abbrev pub invariant-loop-x : goal.invariant-loop-x
invariant-loop-x l = Steps (table_of l.slot.encoded) l.slot.number l.f l.rising l.initial.out l.out l.x
