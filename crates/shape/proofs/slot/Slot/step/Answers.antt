use native.Mathlib.Omega.{arith}
use Rattle.shape.proofs.Nodes.{few}
use Rattle.shape.proofs.Slots.{step_at}
use Rattle.shape.proofs.Structs.{in_slot}
use Rattle.shape.proofs.slot.Slot.step.Goals as goal

pub meaning-requires : goal.meaning-requires
meaning-requires c = (few c.args.self.now.encoded.indexed, c.variable.ensures.1, omega (arith, c.variable.ensures.2))

pub returns : goal.returns
returns c = step_at (in_slot c.args.self.now) c.requires c.variable.ensures.0 c.meaning.ensures
