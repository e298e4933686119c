use mathlib.Core.Path.{refl, ap, ◌∙◌}
use mathlib.Core.List.{[], ◌∷◌}
use Rattle.std.proofs.Common.{Some}
use Rattle.places.specs.Flat.{Node as FlatNode}
use Rattle.planning.specs.Clause.{neg}
use Rattle.table.specs.Layout.{task_from}
use Rattle.clause.specs.Parts.{lits_of}
use Rattle.shape.proofs.Structs.{in_node, flat_is}
use Rattle.clause.proofs.Tasks.{named_lits}
use Rattle.clause.proofs.Pushed.{same_lits, then_lits}
use Rattle.clause.proofs.letters.at_child.Goals as goal

pub returns-in-Some : goal.returns-in-Some
returns-in-Some c = rw c.in-Some.is (
    same_lits c.args.out.now
    (ap (λ (n : FlatNode). neg c.args.v ∷ lits_of (task_from (Some c.in-Some.task)) n) (flat_is c.child.result c.child.ensures.0 c.child.ensures.1)
    ∙ named_lits (in_node c.args.node.now) c.args.v c.args.y c.args.i c.in-Some.task c.requires.2 refl)
    (then_lits c.args.out.now (neg c.args.v ∷ []) _ c.push.ensures c.push_task.ensures)
    )
