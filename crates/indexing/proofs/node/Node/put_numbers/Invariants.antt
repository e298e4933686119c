-- The loop's invariant: what is written, and the children found from that node on, are the children of the node.
use Rattle.indexing.specs.Views.{table_of}
use Rattle.indexing.proofs.Children.{Found}
use Rattle.indexing.proofs.node.Node.put_numbers.Given as goal

abbrev pub invariant-loop-number : goal.invariant-loop-number
invariant-loop-number l = Found (table_of l.self.grown) l.self.number l.initial.out l.at l.out l.a l.number
