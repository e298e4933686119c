-- `writer::clause_size` meets its contract. The loop's invariant: n counts the bytes of the literals so far and of the line's end.
-- Assumes nothing.
use Rattle.writer.proofs.Loops.{Counted}
use Rattle.writer.proofs.clause_size.Given as goal

abbrev pub invariant-loop-code : goal.invariant-loop-code
invariant-loop-code l = Counted l.lits l.n l.code-index
