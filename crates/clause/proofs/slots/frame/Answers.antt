use native.Mathlib.Omega.{arith}
use mathlib.Core.Bool.{not}
use mathlib.Core.List.{[], ◌∷◌}
use Rattle.planning.specs.Clause.{literal}
use Rattle.shape.specs.Views.{table_of}
use Rattle.shape.proofs.Slots.{few_slot}
use Rattle.shape.proofs.Structs.{in_slot}
use Rattle.clause.proofs.Pushed.{same_lits, then_lits}
use Rattle.clause.proofs.Cases.{movers, frame_lits}
use Rattle.clause.proofs.slots.frame.Goals as goal

pub fact_variable-requires : goal.fact_variable-requires
fact_variable-requires c = (omega (arith, few_slot (in_slot c.args.slot.now)), c.requires.1)

pub overflow_add-slot : goal.overflow_add-slot
overflow_add-slot c = omega (arith, few_slot (in_slot c.args.slot.now))

pub fact_variable-requires-2 : goal.fact_variable-requires-2
fact_variable-requires-2 c = (omega (arith, few_slot (in_slot c.args.slot.now)), c.requires.1)

pub returns : goal.returns
returns c =
    let T = table_of c.args.slot.now.encoded in
    let up = c.args.rising in
    let rest = movers T c.args.slot.now.number c.args.f up in
    let after = literal (not up) c.fact_variable-2.result in
    same_lits c.args.out.now (frame_lits T c.args.slot.now.number c.args.f up c.fact_variable.ensures.0 c.fact_variable-2.ensures.0)
    (then_lits c.args.out.now (literal up c.fact_variable.result ∷ []) (after ∷ rest) c.push.ensures
    (then_lits c.push.new.self (after ∷ []) rest c.push-2.ensures c.push_steps.ensures))
