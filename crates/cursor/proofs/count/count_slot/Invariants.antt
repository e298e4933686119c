use Rattle.std.specs.Prelude.{length, get_or}
use Rattle.places.specs.Total.{effect_count}
use Rattle.shape.specs.Views.{table_of, steps_of}
use Rattle.cursor.proofs.Counts.{Summing}
use Rattle.cursor.proofs.count.count_slot.Given as goal

abbrev pub invariant-loop-x : goal.invariant-loop-x
invariant-loop-x l = Summing (λ x. effect_count (table_of l.slot.encoded) (get_or (steps_of l.slot) x (0, 0)).1) 384 (length (steps_of l.slot)) l.x l.k
