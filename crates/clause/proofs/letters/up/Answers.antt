use native.Mathlib.Omega.{arith}
use mathlib.Core.Path.{ap}
use mathlib.Core.List.{List}
use Prim.Native.Nat.{ℕ}
use lib.ListN.{length, length-append}
use Rattle.places.specs.Flat.{tasks_at}
use Rattle.planning.specs.Clause.{all_pos}
use Rattle.shape.specs.Views.{flat}
use Rattle.clause.specs.Parts.{codes}
use Rattle.shape.proofs.Structs.{in_node}
use Rattle.clause.proofs.Tasks.{tasks_most}
use Rattle.clause.proofs.letters.up.Goals as goal

pub push-requires : goal.push-requires
push-requires c = (
  omega (
    arith,
    ap (λ (o : List ℕ). length o) c.push_tasks.ensures,
    length-append c.args.out.now (codes (all_pos (tasks_at (flat c.args.node.now)))),
    tasks_most (in_node c.args.node.now),
    c.requires.0,
  ),
  c.requires.1,
)
