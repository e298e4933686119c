-- Inside the calls, nothing to believe: what their parts say.
-- Assumes nothing.
use Rattle.std.specs.Prelude.{◌≡◌, List, [], ◌∷◌, ◌++◌, ℕ, length, drop, Result}
use Rattle.lists.specs.Question.{first_unmet}
use Rattle.unmet.specs.declared.Unmet.{Unmet}
use Rattle.planning.specs.Table.{Table}
use Rattle.planning.specs.Text.{written, bytes_used, next_line}
use Rattle.text.specs.declared.Lines.{Lines}
use Rattle.questions.specs.Questions.{by_number, turned_down, taken}
use Rattle.encoding.specs.Calls.{text_from, questions_of_line}

-- question 11 was put, and the lines were written
pub record Lined (T : Table) (line : ℕ) (text text' : List ℕ) (r : Result Lines Unmet) : Type 0 where
  pub answer : text_from r
      ≡ by_number (first_unmet (questions_of_line line T)) turned_down (taken (bytes_used T line (length text) ∷ next_line T line (length text) ∷ []))
  pub left : text'
      ≡ by_number (first_unmet (questions_of_line line T)) (λ n. text) (written T line (length text) ++ drop (bytes_used T line (length text)) text)
