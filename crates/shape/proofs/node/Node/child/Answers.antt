use mathlib.Core.Path.{refl}
use native.Mathlib.Omega.{arith}
use Rattle.shape.proofs.Nodes.{few_node, few_children, child_is}
use Rattle.shape.proofs.Structs.{in_node}
use Rattle.shape.proofs.node.Node.child.Goals as goal

pub overflow_add-y : goal.overflow_add-y
overflow_add-y c = omega (arith, few_children (in_node c.args.self.now) c.args.y c.requires)

pub node_word-number-requires : goal.node_word-number-requires
node_word-number-requires c = (few_node (in_node c.args.self.now), omega (arith, few_children (in_node c.args.self.now) c.args.y c.requires))

pub invariant_of-result : goal.invariant_of-result
invariant_of-result c = record { there = (child_is (in_node c.args.self.now) c.args.y c.requires c.node_word-number.ensures).1 }

pub returns : goal.returns
returns c = (refl, (child_is (in_node c.args.self.now) c.args.y c.requires c.node_word-number.ensures).0)
