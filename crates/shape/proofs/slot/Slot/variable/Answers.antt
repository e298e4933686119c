use native.Mathlib.Omega.{arith}
use Rattle.shape.proofs.Slots.{variable_is}
use Rattle.shape.proofs.Structs.{in_slot, first_at}
use Rattle.shape.proofs.slot.Slot.variable.Goals as goal

pub overflow_add-result : goal.overflow_add-result
overflow_add-result c =
    omega (arith, (variable_is (in_slot c.args.self.now) c.node.ensures.1 c.requires (first_at c.node.result c.node.ensures.0 c.first.ensures)).2)

pub returns : goal.returns
returns c = variable_is (in_slot c.args.self.now) c.node.ensures.1 c.requires (first_at c.node.result c.node.ensures.0 c.first.ensures)
