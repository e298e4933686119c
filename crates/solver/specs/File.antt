-- The answer file: which files are formed, and what a formed one says.
-- Assumes nothing.
use Rattle.std.specs.Prelude.{Bool, true, false, cond, List, [], ◌∷◌, ◌++◌, map, ℕ, ◌-◌, length, get_or, eqb}
use Rattle.std.proofs.Math.Option.{Option, none, some}
use Rattle.planning.specs.Clause.{Lit, pos, neg}
use Rattle.lines.specs.Bytes.{LF}
use Rattle.lines.specs.Parts.{ended}
use Rattle.solver.specs.Number.{one_more}
use Rattle.solver.specs.Line.{Word, satisfiable, unsatisfiable, unknown, Line, comment, says, sets, unformed, line_of}

-- what a formed answer says: the word, and after SATISFIABLE the numbers before the 0
pub record Answer : Type 0 where
  pub word : Word
  pub numbers : List Lit

abbrev pub and_then : List Lit → Option (List Lit) → Option (List Lit)
and_then ls none = none
and_then ls (some ks) = some (ls ++ ks)

-- the numbers of the `v` lines, where the `s` line came before: `c` and `v` lines alone are left
abbrev pub numbers_in : List Line → Option (List Lit)
numbers_in [] = some []
numbers_in (comment ∷ ls) = numbers_in ls
numbers_in (says w ∷ ls) = none
numbers_in (sets ks ∷ ls) = and_then ks (numbers_in ls)
numbers_in (unformed ∷ ls) = none

abbrev pub is_zero : Lit → Bool
is_zero (pos n) = eqb n 0
is_zero (neg n) = eqb n 0

abbrev pub last_or_more : Bool → Lit → List Lit → Option (List Lit) → Option (List Lit)
last_or_more false l ls more = one_more (some l) more
last_or_more true l [] more = some []
last_or_more true l (k ∷ ks) more = none

-- "After SATISFIABLE the number 0 stands once, as the last number": the numbers before it
abbrev pub before_zero : List Lit → Option (List Lit)
before_zero [] = none
before_zero (l ∷ ls) = last_or_more (is_zero l) l ls (before_zero ls)

-- "With the other two words there are no `v` lines"; a `v` line has one or more numbers
abbrev pub no_numbers : List Lit → Option (List Lit)
no_numbers [] = some []
no_numbers (l ∷ ls) = none

abbrev pub numbers_fitting : Word → List Lit → Option (List Lit)
numbers_fitting satisfiable ls = before_zero ls
numbers_fitting unsatisfiable ls = no_numbers ls
numbers_fitting unknown ls = no_numbers ls

abbrev pub answer : Word → Option (List Lit) → Option Answer
answer w none = none
answer w (some ls) = some (record { word = w; numbers = ls })

abbrev pub fitted : Word → Option (List Lit) → Option Answer
fitted w none = none
fitted w (some ls) = answer w (numbers_fitting w ls)

-- "One `s` line comes before any `v` line"; `c` lines stand anywhere
abbrev pub answer_in : List Line → Option Answer
answer_in [] = none
answer_in (comment ∷ ls) = answer_in ls
answer_in (says w ∷ ls) = fitted w (numbers_in ls)
answer_in (sets ks ∷ ls) = none
answer_in (unformed ∷ ls) = none

-- "LF ends each line", the last one too
abbrev pub all_ended : List ℕ → Bool
all_ended bs = eqb (get_or bs (length bs - 1) 0) LF

-- what the file says, if it is formed
unfoldable pub answer_of : List ℕ → Option Answer
answer_of bs = cond (all_ended bs) (answer_in (map line_of (ended LF bs))) none
