use mathlib.Core.Path.{◌∙◌}
use Rattle.table.proofs.Lookup.{root_told}
use Rattle.table.proofs.root.Goals as goal

pub returns : goal.returns
returns c = c.word.ensures ∙ root_told c.args.ws.now
