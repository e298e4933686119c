-- `model::is_satisfied` meets its contract. By the codes of its literals.
-- Assumes nothing.
use mathlib.Core.Path.{◌∙◌}
use Rattle.planning.specs.Model.{value, truths_in}
use Rattle.shape.specs.Views.{table_of}
use Rattle.model.specs.Clauses.{clause_at}
use Rattle.model.proofs.Clauses.{codes_true}
use Rattle.model.proofs.is_satisfied.Goals as goal

pub returns : goal.returns
returns c =
    c.has_true.ensures
    ∙ codes_true (value (truths_in c.args.values.now)) (clause_at (table_of c.args.e.now) c.args.c) (c.as_slice.ensures.0 ∙ c.fill_codes.ensures)
