use mathlib.Core.Path.{ap, ◌∙◌}
use Rattle.places.specs.ClausePlace.{Group}
use Rattle.shape.proofs.Groups.{known_most, sizes_of}
use Rattle.shape.proofs.Structs.{node_letter}
use Rattle.shape.proofs.encoded.Encoded.ys_in.Goals as goal

pub returns-in-1 : goal.returns-in-1
returns-in-1 c =
    known_most (rw c.in-1.is (c.ys.ensures ∙ ap (λ (G : Group). G.ys) (node_letter c.node.result c.args.g c.node.ensures.0 c.node.ensures.1)))
    (sizes_of c.args.self.now.indexed c.args.r c.args.n c.args.g).ys
