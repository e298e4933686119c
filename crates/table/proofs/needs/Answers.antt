use Rattle.table.proofs.Lookup.{needs_told}
use Rattle.table.proofs.needs.Goals as goal

pub returns : goal.returns
returns c = needs_told c.args.ws.now c.args.s _ c.step_set.ensures
