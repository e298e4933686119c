-- What a call hands back, as numbers for another language: an answer that is an enum does not cross the border.
-- Assumes nothing.
use Rattle.std.specs.Prelude.{◌≡◌, List, ◌++◌, ℕ, length, drop}
use Rattle.questions.specs.Questions.{HandedBack, turned_down, taken}

-- the number of the question that is not met, or 0 where all are. No question has the number 0
abbrev pub question_of : HandedBack → ℕ
question_of (turned_down n) = n
question_of (taken values) = 0

-- the numbers that were lent for the values: the values, or all as they were
abbrev pub numbers_after : HandedBack → List ℕ → List ℕ
numbers_after (turned_down n) lent = lent
numbers_after (taken values) lent = values ++ drop (length values) lent

-- h came back as the number r, and in the lent numbers
pub record Crossed (h : HandedBack) (lent lent' : List ℕ) (r : ℕ) : Type 0 where
  pub question : r ≡ question_of h
  pub numbers : lent' ≡ numbers_after h lent
