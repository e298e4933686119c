-- The lines of an answer file: which kinds there are, and what each says. 99, 115 and 118 are c, s and v; 32 is a space.
-- Assumes nothing.
use Rattle.std.specs.Prelude.{cond, List, [], ◌∷◌, ℕ, eqb}
use Rattle.std.proofs.Math.Option.{Option, none, some}
use Rattle.planning.specs.Clause.{Lit}
use Rattle.lines.specs.Bytes.{same_bytes}
use Rattle.lines.specs.Parts.{split}
use Rattle.solver.specs.Number.{numbers_of}

-- "SATISFIABLE, UNSATISFIABLE or UNKNOWN"
pub data Word : Type 0 where
  satisfiable : Word
  unsatisfiable : Word
  unknown : Word

pub data Line : Type 0 where
  comment : Line
  says : Word → Line
  sets : List Lit → Line
  unformed : Line

abbrev pub SATISFIABLE : List ℕ
SATISFIABLE = 83 ∷ 65 ∷ 84 ∷ 73 ∷ 83 ∷ 70 ∷ 73 ∷ 65 ∷ 66 ∷ 76 ∷ 69 ∷ []

abbrev pub UNSATISFIABLE : List ℕ
UNSATISFIABLE = 85 ∷ 78 ∷ SATISFIABLE

abbrev pub UNKNOWN : List ℕ
UNKNOWN = 85 ∷ 78 ∷ 75 ∷ 78 ∷ 79 ∷ 87 ∷ 78 ∷ []

-- "`s `, then SATISFIABLE, UNSATISFIABLE or UNKNOWN"
abbrev pub word_line : List ℕ → Line
word_line bs =
    cond (same_bytes bs SATISFIABLE) (says satisfiable)
    (cond (same_bytes bs UNSATISFIABLE) (says unsatisfiable)
    (cond (same_bytes bs UNKNOWN) (says unknown) unformed))

abbrev pub numbers_line : Option (List Lit) → Line
numbers_line none = unformed
numbers_line (some ls) = sets ls

-- what stands after the letter: nothing, or a space and more
abbrev pub after_letter : Line → (List ℕ → Line) → List ℕ → Line
after_letter alone more [] = alone
after_letter alone more (b ∷ bs) = cond (eqb b 32) (more bs) unformed

-- "A `c` line is `c` alone, or `c`, a space and anything." "`s `, then .." "A `v` line is `v` and one or more numbers, one space
-- before each": what stands after `v` and a space are the numbers, with one space between
abbrev pub line_of : List ℕ → Line
line_of [] = unformed
line_of (b ∷ bs) =
    cond (eqb b 99) (after_letter comment (λ more. comment) bs)
    (cond (eqb b 115) (after_letter unformed word_line bs)
    (cond (eqb b 118) (after_letter unformed (λ more. numbers_line (numbers_of (split 32 more))) bs) unformed))
