use mathlib.Core.Path.{ap, ◌∙◌}
use Rattle.bitset.specs.Set.{members}
use Rattle.table.proofs.Lookup.{start_told}
use Rattle.table.proofs.start.Goals as goal

pub returns : goal.returns
returns c = ap members c.set_at.ensures ∙ start_told c.args.ws.now
