use Rattle.places.specs.ClausePlace.{nodes_in}
use Rattle.places.specs.Total.{count_at}
use Rattle.shape.specs.Views.{source_of}
use Rattle.cursor.proofs.Counts.{Summing}
use Rattle.cursor.proofs.count.count_rule.Given as goal

abbrev pub invariant-loop-n : goal.invariant-loop-n
invariant-loop-n l = Summing (count_at (source_of l.e) l.r) 917504 (nodes_in (source_of l.e) l.r) l.n l.k
