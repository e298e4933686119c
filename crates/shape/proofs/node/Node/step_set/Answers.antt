use native.Mathlib.Omega.{arith}
use Rattle.shape.proofs.Nodes.{few_node, steps_word}
use Rattle.shape.proofs.Structs.{in_node}
use Rattle.shape.proofs.node.Node.step_set.Goals as goal

pub node_word-requires : goal.node_word-requires
node_word-requires c = (few_node (in_node c.args.self.now), omega arith)

pub returns : goal.returns
returns c = steps_word (in_node c.args.self.now) c.node_word.ensures
