use mathlib.Core.Path.{ap, ◌∙◌}
use Rattle.places.specs.ClausePlace.{Group}
use Rattle.shape.specs.Views.{table_of}
use Rattle.shape.proofs.Groups.{start_len}
use Rattle.shape.proofs.Structs.{node_letter}
use Rattle.shape.proofs.encoded.Encoded.len_in.Goals as goal

pub returns-in-1 : goal.returns-in-1
returns-in-1 c =
    rw c.in-1.is (c.len.ensures ∙ ap (λ (G : Group). G.len c.args.x c.args.y) (node_letter c.node.result c.args.g c.node.ensures.0 c.node.ensures.1))

pub returns-in-2 : goal.returns-in-2
returns-in-2 c =
    rw c.in-2.is (c.facts.ensures ∙ start_len (table_of c.args.self.now) c.args.n c.args.g c.args.x c.args.y (rw c.in-2.is at c.requires.0.group))
