-- Inside the reader of an answer, nothing to believe: an answer read from left to right, with a cell for each variable. It is the meaning of
-- the file. Assumes nothing.
use Rattle.std.specs.Prelude.{◌≡◌, Bool, true, false, not, ◌&&◌, ◌||◌, cond, List, [], ◌∷◌, ℕ, ◌-◌, length, get_or, take, set, replicate, eqb, leb, ltb}
use Rattle.std.proofs.Math.Option.{Option, none, some}
use Rattle.lists.specs.List.{all}
use Rattle.lists.specs.Question.{first_unmet}
use Rattle.planning.specs.Clause.{Lit, pos, neg, variable_of}
use Rattle.planning.specs.Model.{bit, bits}
use Rattle.lines.specs.Bytes.{LF}
use Rattle.lines.specs.Parts.{split, ended}
use Rattle.solver.specs.Number.{number_of}
use Rattle.solver.specs.Line.{Word, satisfiable, unsatisfiable, unknown, Line, comment, says, sets, unformed, line_of}
use Rattle.solver.specs.File.{is_zero, all_ended}
use Rattle.solver.specs.Questions.{met12, met13, met14, values_of}

-- was the 0 read; did a number stand that is of no variable, or of one that stood before; and of each variable its value, or 2 where
-- it has not stood yet
pub record Reading : Type 0 where
  pub ended : Bool
  pub off : Bool
  pub cells : List ℕ

abbrev pub begin : ℕ → Reading
begin n = record { ended = false; off = false; cells = replicate n 2 }

abbrev pub sign : Lit → Bool
sign (pos n) = true
sign (neg n) = false

abbrev pub free : List ℕ → Lit → Bool
free cs l = leb 1 (variable_of l) && eqb (get_or cs (variable_of l - 1) 0) 2

abbrev pub set_if : Bool → List ℕ → ℕ → ℕ → List ℕ
set_if true cs i c = set cs i c
set_if false cs i c = cs

abbrev pub put : Reading → Lit → Reading
put r l = record {
  ended = r.ended;
  off = r.off || not (free r.cells l);
  cells = set_if (free r.cells l) r.cells (variable_of l - 1) (bit (sign l));
}

abbrev pub end : Reading → Reading
end r = record { ended = true; off = r.off; cells = r.cells }

-- a number: nothing comes after the 0
abbrev pub number_if : (ended zero : Bool) → Reading → Lit → Option Reading
number_if true zero r l = none
number_if false true r l = some (end r)
number_if false false r l = some (put r l)

-- numbers come after SATISFIABLE alone
abbrev pub read_number : Word → Reading → Lit → Option Reading
read_number satisfiable r l = number_if r.ended (is_zero l) r l
read_number unsatisfiable r l = none
read_number unknown r l = none

abbrev pub and_on : Option Reading → (Reading → Option Reading) → Option Reading
and_on none f = none
and_on (some r) f = f r

-- a `v` line part by part
abbrev pub read_part : Word → Reading → Option Lit → Option Reading
read_part w r none = none
read_part w r (some l) = read_number w r l

abbrev pub read_parts : Word → Reading → List (List ℕ) → Option Reading
read_parts w r [] = some r
read_parts w r (p ∷ ps) = and_on (read_part w r (number_of p)) (λ s. read_parts w s ps)

-- what stands after the letter: nothing, or a space and more
abbrev pub behind_letter : Option Reading → (List ℕ → Option Reading) → List ℕ → Option Reading
behind_letter alone more [] = alone
behind_letter alone more (b ∷ bs) = cond (eqb b 32) (more bs) none

-- a line behind the `s` line
abbrev pub read_line : Word → Reading → List ℕ → Option Reading
read_line w r [] = none
read_line w r (b ∷ bs) =
    cond (eqb b 99) (behind_letter (some r) (λ more. some r) bs)
    (cond (eqb b 118) (behind_letter none (λ more. read_parts w r (split 32 more)) bs) none)

abbrev pub read_lines : Word → Reading → List (List ℕ) → Option Reading
read_lines w r [] = some r
read_lines w r (l ∷ ls) = and_on (read_line w r l) (λ s. read_lines w s ls)

-- The end ------------------------------------------------------------------------------------------------------------------------
-- the number of the first of 12 to 14 that is not met, or 0; and the cells
abbrev pub placed : Reading → Bool
placed r = not r.off && all (λ c. ltb c 2) r.cells

abbrev pub decide : Word → Option Reading → ℕ × List ℕ
decide w none = (12, [])
decide satisfiable (some r) = cond r.ended (cond (placed r) (0, r.cells) (14, [])) (12, [])
decide unsatisfiable (some r) = (13, [])
decide unknown (some r) = (13, [])

-- `c` lines are passed over up to the `s` line
abbrev pub from_line : ℕ → Line → (more : ℕ × List ℕ) → List (List ℕ) → ℕ × List ℕ
from_line n comment more ls = more
from_line n (says w) more ls = decide w (read_lines w (begin n) ls)
from_line n (sets ks) more ls = (12, [])
from_line n unformed more ls = (12, [])

abbrev pub read_from : ℕ → List (List ℕ) → ℕ × List ℕ
read_from n [] = (12, [])
read_from n (l ∷ ls) = from_line n (line_of l) (read_from n ls) ls

-- an answer for n variables
unfoldable pub heard : ℕ → List ℕ → ℕ × List ℕ
heard n bs = cond (leb (length bs) 65536 && all_ended bs) (read_from n (ended LF bs)) (12, [])

-- 12 to 14 were put for n variables, r being the number of the first that is not met, or 0; and where all are met the
-- first cells are the values
pub record Heard (n : ℕ) (bs cells : List ℕ) (r : ℕ) : Type 0 where
  pub question : r ≡ first_unmet ((12, met12 bs) ∷ (13, met13 bs) ∷ (14, met14 n bs) ∷ [])
  pub values : r ≡ 0 → take n cells ≡ bits (values_of n bs)
