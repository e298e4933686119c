-- `writer::put_clause` meets its contract. The loop's invariant: the literals so far are written, and there is room for the line.
-- Assumes nothing.
use Rattle.writer.proofs.Loops.{Laid}
use Rattle.writer.proofs.put_clause.Given as goal

abbrev pub invariant-loop-code : goal.invariant-loop-code
invariant-loop-code l = Laid l.lits l.initial.out l.at l.out l.a l.code-index
