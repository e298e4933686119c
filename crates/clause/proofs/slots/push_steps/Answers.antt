use native.Mathlib.Omega.{arith}
use Rattle.shape.specs.Views.{table_of, steps_of}
use Rattle.shape.proofs.Nodes.{few}
use Rattle.shape.proofs.Structs.{in_slot, first_at}
use Rattle.clause.proofs.Loops.{passed_long}
use Rattle.clause.proofs.Turns.{moving, steps_more, steps_all, slot_variable, slot_step}
use Rattle.clause.proofs.slots.push_steps.Goals as goal

pub meanings_at-requires : goal.meanings_at-requires
meanings_at-requires c = few c.args.slot.now.encoded.indexed

pub moves-requires : goal.moves-requires
moves-requires c =
    (slot_step (in_slot c.args.slot.now) c.node.ensures.1 (first_at c.node.result c.node.ensures.0 c.first-v.ensures) c.size-x-end.ensures.0
    c.loop-x-test.true c.meanings_at.ensures.0 c.word-s.ensures).1

pub push_if-requires : goal.push_if-requires
push_if-requires c = (
  omega (
    arith,
    passed_long (moving (table_of c.args.slot.now.encoded) c.args.slot.now.number c.args.f c.args.rising) (steps_of c.args.slot.now) c.args.out.now
        c.loop-x.x c.loop-x.invariant,
    c.loop-x-test.true,
    c.size-x-end.ensures.1,
    c.requires,
  ),
  omega (arith, c.first-v.ensures.2, c.loop-x-test.true, c.size-x-end.ensures.1),
)

pub loop-x-preserved : goal.loop-x-preserved
loop-x-preserved c =
    let f = first_at c.node.result c.node.ensures.0 c.first-v.ensures in
    steps_more (table_of c.args.slot.now.encoded) c.args.slot.now.number c.args.f c.args.rising c.size-x-end.ensures.0 c.args.out.now c.loop-x.x
    c.loop-x.invariant c.loop-x-test.true
    (slot_variable (in_slot c.args.slot.now) c.node.ensures.1 f c.size-x-end.ensures.0 c.loop-x-test.true).0
    (slot_step (in_slot c.args.slot.now) c.node.ensures.1 f c.size-x-end.ensures.0 c.loop-x-test.true c.meanings_at.ensures.0 c.word-s.ensures).0
    c.moves.ensures c.push_if.ensures

pub returns : goal.returns
returns c =
    steps_all (table_of c.args.slot.now.encoded) c.args.slot.now.number c.args.f c.args.rising c.size-x-end.ensures.0 c.args.out.now c.loop-x.x
    c.loop-x.invariant c.loop-x-test.false
