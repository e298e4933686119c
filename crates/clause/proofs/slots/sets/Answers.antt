use Rattle.clause.proofs.Facts.{has_is}
use Rattle.clause.proofs.slots.sets.Goals as goal

pub returns : goal.returns
returns c = has_is c.sets-facts.result c.args.f c.sets-facts.ensures c.has.ensures
