use mathlib.Core.Path.{◌∙◌}
use Rattle.table.proofs.Lookup.{methods_told}
use Rattle.table.proofs.methods.Goals as goal

pub returns : goal.returns
returns c = c.count.ensures ∙ methods_told c.args.ws.now
