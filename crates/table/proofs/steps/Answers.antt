use mathlib.Core.Path.{◌∙◌}
use Rattle.table.proofs.Lookup.{steps_told}
use Rattle.table.proofs.steps.Goals as goal

pub returns : goal.returns
returns c = c.count.ensures ∙ steps_told c.args.ws.now
