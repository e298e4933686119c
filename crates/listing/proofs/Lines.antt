-- The lines of rows: those of rows one after the other, and at most 24 bytes for each.
-- By recursion on the rows.
use mathlib.Core.Path.{◌≡◌, sym, ap, ◌∙◌}
use mathlib.Core.List.{List, [], ◌∷◌, ◌++◌, append_assoc}
use Prim.Native.Nat.{ℕ, suc, ◌+◌, ◌*◌, ◌≤◌, ◌<◌}
use native.Mathlib.Omega.{arith}
use lib.ListN.{length, get_or, length-append, get_or-map}
use Rattle.lists.specs.List.{Every}
use Rattle.lists.proofs.Every.{every_get_d}
use Rattle.planning.specs.Text.{decimal}
use Rattle.planning.proofs.Text.Numeral.{decimal_length}
use Rattle.table.specs.Reading.{NameParts, name_at}
use Rattle.table.specs.Layout.{no_part}
use Rattle.listing.specs.Listing.{Names, shown_names, Row, job_row, step_row, job_line, step_line, row_lines}
use Rattle.listing.specs.Walk.{ShortNames}
use Rattle.listing.specs.Walk.{steps_in}

-- Names ----------------------------------------------------------------------------------------------------------------------
-- a name by its part of the file
module _ (file : List ℕ) (ns : NameParts) where
  pub step_named : (s : ℕ) → get_or (shown_names file ns).steps s [] ≡ name_at file (get_or ns.steps s no_part)
  step_named s = get_or-map (name_at file) ns.steps s no_part

  pub job_named : (j : ℕ) → get_or (shown_names file ns).jobs j [] ≡ name_at file (get_or ns.jobs j no_part)
  job_named j = get_or-map (name_at file) ns.jobs j no_part

module _ {N : Names} (short : ShortNames N) where
  pub step_short : (s : ℕ) → length (get_or N.steps s []) ≤ 12
  step_short s = every_get_d (λ (n : List ℕ). length n ≤ 12) N.steps [] short.steps (omega arith) s

  pub job_short : (j : ℕ) → length (get_or N.jobs j []) ≤ 12
  job_short j = every_get_d (λ (n : List ℕ). length n ≤ 12) N.jobs [] short.jobs (omega arith) j

-- One line -------------------------------------------------------------------------------------------------------------------
length_job_line : (d : ℕ) (name : List ℕ) (m : ℕ) → length (job_line d name m) ≡ 5 + (length (decimal d) + (length name + length (decimal m)))
length_job_line d name m = omega (
  arith,
  length-append (decimal d) (9 ∷ (name ++ (9 ∷ (decimal m ++ (10 ∷ []))))),
  length-append name (9 ∷ (decimal m ++ (10 ∷ []))),
  length-append (decimal m) (10 ∷ []),
)

length_step_line : (k : ℕ) (name : List ℕ) → length (step_line k name) ≡ 4 + (length (decimal k) + length name)
length_step_line k name = omega (arith, length-append (decimal k) (9 ∷ (name ++ (10 ∷ []))), length-append name (10 ∷ []))

-- a depth of one digit, a method number of at most three, a place of at most four
job_line_lem : (d m : ℕ) (name : List ℕ) → d < 10 → m < 1000 → length name ≤ 12 → length (job_line d name m) ≤ 24
job_line_lem d m name h l n = omega (arith, length_job_line d name m, decimal_length d 0 h, decimal_length m 2 l)

step_line_lem : (k : ℕ) (name : List ℕ) → k < 10000 → length name ≤ 12 → length (step_line k name) ≤ 24
step_line_lem k name h n = omega (arith, length_step_line k name, decimal_length k 3 h)

-- Several --------------------------------------------------------------------------------------------------------------------
pub steps_append : (rs ss : List Row) → steps_in (rs ++ ss) ≡ steps_in rs + steps_in ss
steps_append [] ss = omega arith
steps_append (job_row d j m ∷ rs) ss = steps_append rs ss
steps_append (step_row s ∷ rs) ss = omega (arith, steps_append rs ss)

pub lines_append : (N : Names) (k : ℕ) (rs ss : List Row) → row_lines N k (rs ++ ss) ≡ row_lines N k rs ++ row_lines N (k + steps_in rs) ss
lines_append N k [] ss = let z : k ≡ k + 0 = omega arith in ap (λ (i : ℕ). row_lines N i ss) z
lines_append N k (job_row d j m ∷ rs) ss =
    let l = job_line d (get_or N.jobs j []) m in
    ap (λ (bs : List ℕ). l ++ bs) (lines_append N k rs ss) ∙ sym (append_assoc l (row_lines N k rs) (row_lines N (k + steps_in rs) ss))
lines_append N k (step_row s ∷ rs) ss =
    let l = step_line (suc k) (get_or N.steps s []) in
    let z : suc k + steps_in rs ≡ k + suc (steps_in rs) = omega arith in
    ap (λ (bs : List ℕ). l ++ bs) (lines_append N (suc k) rs ss ∙ ap (λ (i : ℕ). row_lines N (suc k) rs ++ row_lines N i ss) z)
    ∙ sym (append_assoc l (row_lines N (suc k) rs) (row_lines N (k + suc (steps_in rs)) ss))

pub steps_few : (rs : List Row) → steps_in rs ≤ length rs
steps_few [] = omega arith
steps_few (job_row d j m ∷ rs) = omega (arith, steps_few rs)
steps_few (step_row s ∷ rs) = omega (arith, steps_few rs)

-- rows whose lines are short
abbrev pub ShortRow : Row → Type 0
ShortRow (job_row d j m) = (d < 10) × (m < 1000)
ShortRow (step_row s) = Unit {0}

pub lines_most : {N : Names} → ShortNames N → (k : ℕ) (rs : List Row) → Every ShortRow rs → k + length rs < 10000 → length (row_lines N k rs) ≤ 24 * length rs
lines_most {N} short k [] h l = omega arith
lines_most {N} short k (job_row d j m ∷ rs) h l =
    let name = get_or N.jobs j [] in
    omega (arith, length-append (job_line d name m) (row_lines N k rs), job_line_lem d m name h.0.0 h.0.1 (job_short short j), lines_most short k rs h.1 (omega arith))
lines_most {N} short k (step_row s ∷ rs) h l =
    let name = get_or N.steps s [] in
    omega (arith, length-append (step_line (suc k) name) (row_lines N (suc k) rs), step_line_lem (suc k) name (omega arith) (step_short short s), lines_most short (suc k) rs h.1 (omega arith))
