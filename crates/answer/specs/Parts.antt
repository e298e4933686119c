-- Inside the calls, nothing to believe: what their parts say.
-- Assumes nothing.
use Rattle.std.specs.Prelude.{◌≡◌, Bool, List, [], ◌∷◌, ◌++◌, ℕ, length, drop, Result}
use Rattle.lists.specs.Question.{first_unmet}
use Rattle.unmet.specs.declared.Unmet.{Unmet}
use Rattle.planning.specs.Table.{Table}
use Rattle.planning.specs.Variable.{variables}
use Rattle.solver.specs.Questions.{met12, met13, met14}
use Rattle.questions.specs.Questions.{by_number, turned_down, taken}
use Rattle.answer.specs.Calls.{met15, listed_from, listing_for}

-- questions 12 to 14
abbrev pub questions_heard : (answer : List ℕ) → Table → List (ℕ × Bool)
questions_heard answer T = (12, met12 answer) ∷ (13, met13 answer) ∷ (14, met14 (variables T) answer) ∷ []

-- question 15 was put to these values, and the lines were written
pub record Showed (file : List ℕ) (T : Table) (vs : List Bool) (text text' : List ℕ) (r : Result ℕ Unmet) : Type 0 where
  pub handed_back : listed_from r ≡ by_number (first_unmet ((15, met15 T vs) ∷ [])) turned_down (taken (length (listing_for file T vs) ∷ []))
  pub left : text' ≡ by_number (first_unmet ((15, met15 T vs) ∷ [])) (λ n. text) (listing_for file T vs ++ drop (length (listing_for file T vs)) text)
