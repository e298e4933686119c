-- Lines and values, put the other way round.
-- By the laws of lines and of values.
use mathlib.Core.Path.{◌≡◌, sym, ◌∙◌}
use mathlib.Core.Bool.{Bool}
use mathlib.Core.List.{List}
use mathlib.Core.Logic.{◌↔◌}
use Prim.Native.Nat.{ℕ, ◌≤◌}
use Rattle.lists.specs.List.{any}
use Rattle.planning.specs.Clause.{Lit}
use Rattle.planning.specs.Model.{value}
use Rattle.solver.specs.Questions.{makes_true, truths}
use Rattle.solver.specs.Exact.{Exact}
use Rattle.solver.proofs.Values.{true_is, false_is, value_of}
use Rattle.solver.proofs.Line.{line_exact}

-- of the value at place k, what holds of the numbers
by_value : (n k : ℕ) (ls : List Lit) (b : Bool) {P : Type 0} → 1 ≤ k → k ≤ n → (any (makes_true k) ls ≡ b) ↔ P → (value (truths n ls) k ≡ b) ↔ P
by_value n k ls b p q h = (λ e. h.0 (sym (value_of n k ls p q) ∙ e), λ x. value_of n k ls p q ∙ h.1 x)

pub exact : Exact
exact = record {
  lines = line_exact;
  trues = λ n k ls p q. by_value n k ls _ p q (true_is k ls);
  falses = λ n k ls p q o. by_value n k ls _ p q (false_is k ls o);
}
