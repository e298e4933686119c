use native.Mathlib.Omega.{arith}
use Rattle.shape.specs.Views.{table_of}
use Rattle.shape.proofs.Slots.{few_slot}
use Rattle.shape.proofs.Structs.{in_slot}
use Rattle.clause.proofs.Pushed.{same_lits}
use Rattle.clause.proofs.Cases.{there, effect_after}
use Rattle.clause.proofs.slots.effect.Goals as goal

pub effect_fact-f-requires : goal.effect_fact-f-requires
effect_fact-f-requires c =
    let h = there c.args.slot.now.encoded.indexed c.requires.1 c.args.x c.args.y c.args.i c.requires.2 in
    (c.step.ensures.1, h.in_y, rw (← c.step.ensures.0) at h.in_row)

pub fact_variable-requires : goal.fact_variable-requires
fact_variable-requires c = (omega (arith, few_slot (in_slot c.args.slot.now)), c.effect_fact-f.ensures.1)

pub overflow_add-slot : goal.overflow_add-slot
overflow_add-slot c = omega (arith, few_slot (in_slot c.args.slot.now))

pub fact_variable-requires-else-y-eq0 : goal.fact_variable-requires-else-y-eq0
fact_variable-requires-else-y-eq0 c = (omega (arith, few_slot (in_slot c.args.slot.now)), c.effect_fact-f.ensures.1)

pub returns-else-y-eq0 : goal.returns-else-y-eq0
returns-else-y-eq0 c =
    let h = there c.args.slot.now.encoded.indexed c.requires.1 c.args.x c.args.y c.args.i c.requires.2 in
    same_lits c.args.out.now
    (effect_after (table_of c.args.slot.now.encoded) c.args.slot.now.number c.args.x c.args.y c.args.i c.variable-v.ensures.0 c.step.ensures.0
    c.effect_fact-f.ensures.0 h.in_y c.if-y-eq0.false c.fact_variable-else-y-eq0.ensures.0) c.push_pair-else-y-eq0.ensures
