use Rattle.clause.proofs.Turns.{Methods}
use Rattle.shape.specs.Views.{table_of, flat}
use Rattle.clause.proofs.letters.push_methods.Given as goal

abbrev pub invariant-loop-x : goal.invariant-loop-x
invariant-loop-x l = Methods (table_of l.node.encoded) (flat l.node) l.j l.initial.out l.out l.x
