use native.Mathlib.Omega.{arith}
use Rattle.clause.proofs.Facts.{between_all, only_one, one_word}
use Rattle.clause.proofs.slots.effect_fact.Goals as goal

pub loop-lo-init : goal.loop-lo-init
loop-lo-init c = between_all c.effects-facts.result (omega arith) c.effects-facts.ensures c.requires.2

pub returns : goal.returns
returns c = only_one c.loop-lo.invariant c.loop-lo-test.false (one_word c.effects-facts.result (omega arith) c.effects-facts.ensures)
