use native.Mathlib.Omega.{arith}
use Rattle.shape.proofs.Nodes.{few_node, jobs_word}
use Rattle.shape.proofs.Structs.{in_node}
use Rattle.shape.proofs.node.Node.job_set.Goals as goal

pub node_word-requires : goal.node_word-requires
node_word-requires c = (few_node (in_node c.args.self.now), omega arith)

pub returns : goal.returns
returns c = jobs_word (in_node c.args.self.now) c.node_word.ensures
