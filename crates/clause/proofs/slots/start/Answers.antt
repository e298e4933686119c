use Rattle.clause.proofs.Pushed.{same_literal}
use Rattle.clause.proofs.Facts.{has_is}
use Rattle.clause.proofs.slots.start.Goals as goal

pub returns : goal.returns
returns c = same_literal c.args.out.now (has_is c.start-facts.result c.args.f c.start-facts.ensures c.has.ensures) c.fact_variable.ensures.0 c.push.ensures
