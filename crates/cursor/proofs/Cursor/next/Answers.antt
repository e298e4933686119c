use Rattle.cursor.proofs.Moves.{upto_move, hands_out, ends}
use Rattle.cursor.proofs.Cursor.next.Goals as goal

pub returns-then-c : goal.returns-then-c
returns-then-c c = hands_out c.loop-c.invariant c.loop-c-test.true c.if-c.true

pub loop-c-preserved : goal.loop-c-preserved
loop-c-preserved c = upto_move c.loop-c.invariant c.loop-c-test.true c.if-c.false c.past_row-c.ensures

pub returns : goal.returns
returns c = ends c.loop-c.invariant c.loop-c-test.false
