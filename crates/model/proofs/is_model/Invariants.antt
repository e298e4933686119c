-- `model::is_model` meets its contract. The loop's invariant: all clauses before c are satisfied. The measure falls at every move.
-- Assumes nothing.
use Rattle.planning.specs.Model.{value, truths_in}
use Rattle.shape.specs.Views.{table_of}
use Rattle.cursor.specs.Cursor.{rank_of}
use Rattle.model.proofs.Clauses.{Checking}
use Rattle.model.proofs.is_model.Given as goal

abbrev pub invariant-loop-c : goal.invariant-loop-c
invariant-loop-c l = Checking (table_of l.e) (value (truths_in l.values)) l.c

abbrev pub decreases-loop-c : goal.decreases-loop-c
decreases-loop-c l = rank_of l.c
