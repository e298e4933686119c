use mathlib.Core.Path.{ap, ◌∙◌}
use Prim.Native.Nat.{ℕ, min}
use Rattle.planning.specs.Table.{most_in_body}
use Rattle.table.proofs.Lookup.{size_told}
use Rattle.table.proofs.body_size.Goals as goal

pub returns : goal.returns
returns c = size_told c.args.ws.now c.args.m _ (c.min.ensures ∙ ap (λ (n : ℕ). min n most_in_body) c.method_word.ensures)
