-- Behind the children's numbers there is room for zeros.
use Rattle.indexing.proofs.Children.{zeros_rest, children_put}
use Rattle.indexing.proofs.Structs.{here}
use Rattle.indexing.proofs.node.Node.put_children.Goals as goal

pub put_zeros-requires : goal.put_zeros-requires
put_zeros-requires c = zeros_rest (here c.args.self.now) c.put_numbers-a.ensures c.requires

pub returns : goal.returns
returns c = children_put (here c.args.self.now) c.put_numbers-a.ensures c.requires c.put_zeros.ensures
