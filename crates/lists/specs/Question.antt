-- Questions put one after the other.
-- Assumes nothing.
use Rattle.std.specs.Prelude.{Bool, cond, List, [], ◌∷◌, ℕ}

-- Of questions, each by its number and whether it is met: the number of the first that is not met, or 0 where all are
abbrev pub first_unmet : List (ℕ × Bool) → ℕ
first_unmet [] = 0
first_unmet (q ∷ qs) = cond q.1 (first_unmet qs) q.0
