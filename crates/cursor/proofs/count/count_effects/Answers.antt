use native.Mathlib.Omega.{arith}
use Rattle.cursor.proofs.Counts.{effects_count}
use Rattle.cursor.proofs.count.count_effects.Goals as goal

pub overflow_add-result : goal.overflow_add-result
overflow_add-result c =
    omega (
      arith,
      (effects_count c.args.slot.now.encoded.indexed c.args.slot.now.there c.requires c.step-s.ensures.0 c.effect_len.ensures c.effect_len-2.ensures
          c.effect_len-3.ensures).1,
    )

pub overflow_add-result-2 : goal.overflow_add-result-2
overflow_add-result-2 c =
    omega (
      arith,
      (effects_count c.args.slot.now.encoded.indexed c.args.slot.now.there c.requires c.step-s.ensures.0 c.effect_len.ensures c.effect_len-2.ensures
          c.effect_len-3.ensures).1,
    )

pub returns : goal.returns
returns c =
    effects_count c.args.slot.now.encoded.indexed c.args.slot.now.there c.requires c.step-s.ensures.0 c.effect_len.ensures c.effect_len-2.ensures
    c.effect_len-3.ensures
