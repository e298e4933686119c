use Rattle.std.specs.Prelude.{length}
use Rattle.places.specs.ClausePlace.{child_at, width}
use Rattle.shape.specs.Views.{flat}
use Rattle.cursor.proofs.Counts.{Summing}
use Rattle.cursor.proofs.count.count_widths.Given as goal

abbrev pub invariant-loop-y : goal.invariant-loop-y
invariant-loop-y l = Summing (λ z. width (child_at (flat l.node) z)) 128 (length (flat l.node).children) l.y l.k
