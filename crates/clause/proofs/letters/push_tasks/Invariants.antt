use Rattle.clause.proofs.Turns.{AllTasks}
use Rattle.shape.specs.Views.{flat}
use Rattle.clause.proofs.letters.push_tasks.Given as goal

abbrev pub invariant-loop-x : goal.invariant-loop-x
invariant-loop-x l = AllTasks (flat l.node) l.initial.out l.out l.x
