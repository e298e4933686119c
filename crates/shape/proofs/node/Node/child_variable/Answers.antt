use mathlib.Core.Path.{refl, ap, ◌∙◌}
use Prim.Native.Nat.{◌+◌}
use Rattle.places.specs.Flat.{Node as FlatNode}
use Rattle.shape.proofs.Nodes.{child_first}
use Rattle.shape.proofs.Structs.{in_node, flat_is}
use Rattle.shape.proofs.node.Node.child_variable.Goals as goal

pub returns : goal.returns
returns c = (
  child_first (in_node c.args.self.now) c.args.y c.args.i c.requires.0 refl
      (c.own_variable.ensures.0 ∙ ap (λ (n : FlatNode). n.first + c.args.i) (flat_is c.child.result c.child.ensures.0 c.child.ensures.1)),
  c.own_variable.ensures.1,
  c.own_variable.ensures.2,
)
