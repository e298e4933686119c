use mathlib.Core.Path.{ap, ◌∙◌}
use Rattle.places.specs.ClausePlace.{Group}
use Rattle.shape.proofs.Groups.{known_most, sizes_of}
use Rattle.shape.proofs.Structs.{node_letter, slot_letter}
use Rattle.shape.proofs.encoded.Encoded.xs_in.Goals as goal

pub returns-in-1 : goal.returns-in-1
returns-in-1 c =
    known_most (rw c.in-1.is (c.xs.ensures ∙ ap (λ (G : Group). G.xs) (node_letter c.node.result c.args.g c.node.ensures.0 c.node.ensures.1)))
    (sizes_of c.args.self.now.indexed c.args.r c.args.n c.args.g).xs

pub returns-in-3 : goal.returns-in-3
returns-in-3 c =
    known_most (rw c.in-3.is (c.xs-in-3.ensures ∙ ap (λ (G : Group). G.xs) (slot_letter c.slot.result c.args.g c.slot.ensures.0 c.slot.ensures.1)))
    (sizes_of c.args.self.now.indexed c.args.r c.args.n c.args.g).xs
