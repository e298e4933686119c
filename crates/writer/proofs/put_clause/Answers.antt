-- `writer::put_clause` meets its contract: one literal more is written.
-- Assumes nothing.
use Rattle.writer.proofs.Loops.{laid_room, laid_more}
use Rattle.writer.proofs.put_clause.Goals as goal

pub put_literal-a-requires : goal.put_literal-a-requires
put_literal-a-requires c = laid_room c.loop-code.invariant c.loop-code-test.true

pub loop-code-preserved : goal.loop-code-preserved
loop-code-preserved c = laid_more c.loop-code.invariant c.loop-code-test.true c.put_literal-a.ensures
