use mathlib.Core.Path.{◌∙◌}
use Rattle.table.proofs.Lookup.{depth_told}
use Rattle.table.proofs.depth.Goals as goal

pub returns : goal.returns
returns c = c.word.ensures ∙ depth_told c.args.ws.now
