-- Five words a node.
use Rattle.indexing.proofs.Nodes.{node_count_lem, node_most}
use native.Mathlib.Omega.{arith}
use Rattle.indexing.proofs.grown.Grown.nodes.Goals as goal

pub returns : goal.returns
returns c = let s = c.args.self.now.stands in (node_count_lem s, omega (arith, node_count_lem s, node_most s))
