use Rattle.std.specs.Prelude.{length}
use Rattle.places.specs.Total.{body_count}
use Rattle.shape.specs.Views.{table_of, flat}
use Rattle.cursor.proofs.Counts.{Summing}
use Rattle.cursor.proofs.count.count_bodies.Given as goal

abbrev pub invariant-loop-x : goal.invariant-loop-x
invariant-loop-x l = Summing (body_count (table_of l.node.encoded) (flat l.node)) 1024 (length (flat l.node).methods) l.x l.k
