-- `model::row::has_on` meets its contract. One of the variables is true exactly if one from place i on is.
-- Assumes nothing.
use Rattle.planning.specs.Model.{value, truths_in}
use Rattle.model.proofs.Values.{off_here}
use Rattle.model.proofs.row.has_on.Goals as goal

pub loop-i-preserved : goal.loop-i-preserved
loop-i-preserved c = off_here (value (truths_in c.args.values.now)) c.args.v c.args.k c.loop-i.invariant c.loop-i-test.true c.is_on.ensures c.if-is_on.false
