-- The loop's invariant: the slots among the nodes before that one are written.
use lib.ListN.{length}
use Rattle.index.specs.Index.{source}
use Rattle.indexing.specs.Views.{table_of}
use Rattle.indexing.proofs.Loops.{Picked, is_slot}
use Rattle.indexing.proofs.grown.Grown.put_slots.Given as goal

abbrev pub invariant-loop-number : goal.invariant-loop-number
invariant-loop-number l = Picked (is_slot (table_of l.self)) (length (source (table_of l.self)).nodes) l.initial.out l.at l.out l.a l.number
