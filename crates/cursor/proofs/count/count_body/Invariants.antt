use Rattle.std.specs.Prelude.{cond, length}
use Rattle.places.specs.ClausePlace.{child_at, width, named_at}
use Rattle.shape.specs.Views.{table_of, flat}
use Rattle.cursor.proofs.Counts.{Summing}
use Rattle.cursor.proofs.count.count_body.Given as goal

abbrev pub invariant-loop-y : goal.invariant-loop-y
invariant-loop-y l =
    Summing (λ y. cond (named_at (table_of l.node.encoded) (flat l.node) l.x y) 1 (width (child_at (flat l.node) y))) 128 (length (flat l.node).children)
    l.y l.k
