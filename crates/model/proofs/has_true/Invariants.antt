use mathlib.Core.Path.{◌≡◌}
use Rattle.planning.specs.Model.{value, clause_true, truths_in}
use Rattle.writer.specs.Literal.{clause_in}
use Rattle.model.proofs.Values.{true_from}
use Rattle.model.proofs.has_true.Given as goal

abbrev pub invariant-loop-code : goal.invariant-loop-code
invariant-loop-code l = clause_true (value (truths_in l.values)) (clause_in l.lits) ≡ true_from (value (truths_in l.values)) l.lits l.code-index
