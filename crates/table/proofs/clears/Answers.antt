use Rattle.table.proofs.Lookup.{clears_told}
use Rattle.table.proofs.clears.Goals as goal

pub returns : goal.returns
returns c = clears_told c.args.ws.now c.args.s _ c.step_set.ensures
