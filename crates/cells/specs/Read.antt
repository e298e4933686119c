-- Inside the calls, nothing to believe: what comes back of an answer, which is the number of the first unmet of questions 12 to 14, or 0, and
-- then the values. `heard` of crate `solver` is the answer read from left to right. Assumes nothing.
use Rattle.std.specs.Prelude.{◌≡◌, cond, List, ℕ, take}
use Rattle.lists.specs.List.{all}
use Rattle.solver.specs.Scan.{heard}
use Rattle.cells.specs.Kind.{is_comment}

-- r and the first n cells are this outcome. Left free: the cells past n, and on a refusal all of them
pub record Told (o : ℕ × List ℕ) (n : ℕ) (cells : List ℕ) (r : ℕ) : Type 0 where
  pub question : r ≡ o.0
  pub values : r ≡ 0 → take n cells ≡ o.1

-- the answer bs was read for n variables
abbrev pub Read : (n : ℕ) (bs cells : List ℕ) (r : ℕ) → Type 0
Read n bs cells r = Told (heard n bs) n cells r

-- after UNSATISFIABLE or UNKNOWN: 13 where the lines behind are comments, else 12
abbrev pub only_comments : List (List ℕ) → ℕ
only_comments ls = cond (all is_comment ls) 13 12
