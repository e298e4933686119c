use mathlib.Core.Path.{refl, ap, ◌∙◌}
use Rattle.places.specs.ClausePlace.{tasks_n}
use Rattle.shape.proofs.Nodes.{width_is}
use Rattle.shape.proofs.Structs.{in_node, flat_is}
use Rattle.shape.proofs.node.Node.width.Goals as goal

pub returns : goal.returns
returns c = (
  width_is (in_node c.args.self.now) c.args.y c.requires refl (c.tasks.ensures.0 ∙ ap tasks_n (flat_is c.child.result c.child.ensures.0 c.child.ensures.1)),
  c.tasks.ensures.1,
)
