use Rattle.table.proofs.Lookup.{sets_told}
use Rattle.table.proofs.sets.Goals as goal

pub returns : goal.returns
returns c = sets_told c.args.ws.now c.args.s _ c.step_set.ensures
