-- The loop's invariant: what the variables of the nodes before that one stand for is written.
use Rattle.index.specs.Index.{meanings, source}
use Rattle.indexing.specs.Views.{table_of}
use Rattle.indexing.proofs.Loops.{Each}
use Rattle.indexing.proofs.grown.Grown.put_meanings.Given as goal

abbrev pub invariant-loop-number : goal.invariant-loop-number
invariant-loop-number l = Each meanings (source (table_of l.self)).nodes l.initial.out l.at l.out l.a l.number
