-- The loop's invariant: the words of the nodes before that one are written, and first is its first variable.
use Rattle.indexing.specs.Views.{table_of}
use Rattle.indexing.proofs.Loops.{Numbered}
use Rattle.indexing.proofs.grown.Grown.put_nodes.Given as goal

abbrev pub invariant-loop-number : goal.invariant-loop-number
invariant-loop-number l = Numbered (table_of l.self) l.initial.out l.at l.out l.a l.first l.number
