use mathlib.Core.Path.{◌∙◌}
use Rattle.table.proofs.Lookup.{facts_told}
use Rattle.table.proofs.facts.Goals as goal

pub returns : goal.returns
returns c = c.count.ensures ∙ facts_told c.args.ws.now
