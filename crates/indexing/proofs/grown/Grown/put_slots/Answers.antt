-- One node more is listed or passed over.
use native.Mathlib.Omega.{arith}
use Rattle.indexing.proofs.Loops.{picked_room, picked_more, slot_test, slots_none, slots_all}
use Rattle.indexing.proofs.Structs.{one}
use Rattle.indexing.specs.Views.{table_of}
use Rattle.indexing.proofs.grown.Grown.put_slots.Goals as goal

pub loop-number-init : goal.loop-number-init
loop-number-init c = slots_none (table_of c.args.self.now) c.args.out.now c.args.at c.requires

pub put_if-a-requires : goal.put_if-a-requires
put_if-a-requires c =
    picked_room c.loop-number.invariant (slot_test (table_of c.args.self.now) c.loop-number.number c.is_inner.ensures)
    (one c.args.self.now c.nodes-number-end.ensures.0 c.loop-number-test.true).inside

pub loop-number-preserved : goal.loop-number-preserved
loop-number-preserved c =
    picked_more c.loop-number.invariant (slot_test (table_of c.args.self.now) c.loop-number.number c.is_inner.ensures)
    (one c.args.self.now c.nodes-number-end.ensures.0 c.loop-number-test.true).inside c.put_if-a.ensures

pub returns : goal.returns
returns c = slots_all (table_of c.args.self.now) c.loop-number.invariant (omega (arith, c.loop-number-test.false, c.nodes-number-end.ensures.0))
