use Rattle.cursor.proofs.Counts.{sought_past_row, found_here, found_end}
use Rattle.cursor.proofs.seek_row.Goals as goal

pub returns-then-k-c : goal.returns-then-k-c
returns-then-k-c c = found_here c.loop-c.invariant c.loop-c-test.true c.if-k-c.true

pub loop-c-preserved : goal.loop-c-preserved
loop-c-preserved c = sought_past_row c.loop-c.invariant c.loop-c-test.true c.if-k-c.false c.past_row-c.ensures

pub returns : goal.returns
returns c = found_end c.loop-c.invariant c.loop-c-test.false
