-- `model::row::is_row_satisfied` meets its contract. The loop's invariant: the clauses of the row before place i are satisfied. The measure is
-- the clauses left. Assumes nothing.
use Rattle.planning.specs.Model.{value, truths_in}
use Rattle.shape.specs.Views.{table_of}
use Rattle.model.proofs.Clauses.{Along}
use Rattle.model.proofs.row.is_row_satisfied.Given as goal

abbrev pub invariant-loop-i : goal.invariant-loop-i
invariant-loop-i l = Along (table_of l.e) (value (truths_in l.values)) l.c l.i
