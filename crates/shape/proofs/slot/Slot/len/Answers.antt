use mathlib.Core.Path.{ap, ◌∙◌}
use Prim.Native.Nat.{ℕ}
use lib.ListN.{length}
use Rattle.places.specs.ClausePlace.{effect_facts}
use Rattle.shape.specs.Views.{table_of}
use Rattle.shape.proofs.slot.Slot.len.Goals as goal

pub returns-in-0 : goal.returns-in-0
returns-in-0 c =
    rw c.in-0.is (c.effect_len.ensures ∙ ap (λ (s : ℕ). length (effect_facts (table_of c.args.self.now.encoded) s c.args.y)) c.step.ensures.0)
