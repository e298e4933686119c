use Rattle.shape.proofs.Nodes.{nodes_is, slots_is}
use Rattle.shape.proofs.encoded.Encoded.nodes_in.Goals as goal

pub returns-in-1 : goal.returns-in-1
returns-in-1 c = rw c.in-1.is (nodes_is c.args.self.now.indexed c.nodes.ensures)

pub returns-in-3 : goal.returns-in-3
returns-in-3 c = rw c.in-3.is (slots_is c.args.self.now.indexed c.slots.ensures)
