use mathlib.Core.Path.{refl}
use Rattle.shape.proofs.Nodes.{few}
use Rattle.shape.proofs.Slots.{few_slot, slot_is}
use Rattle.shape.proofs.Structs.{in_slot}
use Rattle.shape.proofs.slot.Slot.node.Goals as goal

pub slot_node-number-requires : goal.slot_node-number-requires
slot_node-number-requires c = (few c.args.self.now.encoded.indexed, few_slot (in_slot c.args.self.now))

pub invariant_of-result : goal.invariant_of-result
invariant_of-result c = record { there = (slot_is (in_slot c.args.self.now) c.slot_node-number.ensures).inside }

pub returns : goal.returns
returns c = (refl, slot_is (in_slot c.args.self.now) c.slot_node-number.ensures)
