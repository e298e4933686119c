-- Four writes, one behind the other.
use Rattle.indexing.proofs.Whole.{node_put}
use Rattle.indexing.proofs.Structs.{here}
use Rattle.indexing.proofs.node.Node.put.Goals as goal

pub returns : goal.returns
returns c =
    node_put (here c.args.self.now) c.requires.1 c.requires.0 c.word.ensures c.put_sets-a.ensures c.put_counts-b.ensures c.put_word-c.ensures
    c.put_children.ensures
