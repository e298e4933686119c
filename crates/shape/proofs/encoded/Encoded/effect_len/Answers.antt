use mathlib.Core.Path.{ap, ◌∙◌}
use native.Mathlib.Omega.{arith}
use lib.ListN.{length}
use Rattle.shape.proofs.Slots.{size_of}
use Rattle.shape.proofs.encoded.Encoded.effect_len.Goals as goal

pub returns : goal.returns
returns c = size_of c.effects-facts.result (omega arith) c.size.ensures ∙ ap length c.effects-facts.ensures
