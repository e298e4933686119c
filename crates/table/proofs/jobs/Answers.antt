use mathlib.Core.Path.{◌∙◌}
use Rattle.table.proofs.Lookup.{jobs_told}
use Rattle.table.proofs.jobs.Goals as goal

pub returns : goal.returns
returns c = c.count.ensures ∙ jobs_told c.args.ws.now
