use mathlib.Core.Path.{refl, ap, ◌∙◌}
use lib.ListN.{length}
use Rattle.places.specs.Flat.{Node as FlatNode}
use Rattle.shape.proofs.Slots.{size_is}
use Rattle.shape.proofs.Structs.{in_slot, flat_is}
use Rattle.shape.proofs.slot.Slot.size.Goals as goal

pub returns : goal.returns
returns c =
    size_is (in_slot c.args.self.now) c.node.ensures.1
    (c.steps.ensures.0 ∙ ap (λ (n : FlatNode). length n.steps) (flat_is c.node.result c.node.ensures.0 refl), c.steps.ensures.1)
