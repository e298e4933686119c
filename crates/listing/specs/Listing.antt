-- The listing of a procedure tree: its jobs and steps, top down and left to right. Bytes are numbers: 9 is a tab, 10 LF, 74 `J`, 83 `S`.
-- Assumes nothing.
use Rattle.std.specs.Prelude.{List, [], ◌∷◌, ◌++◌, map, ℕ, suc, get_or}
use Rattle.planning.specs.Tree.{Tree, alone, split, Trees, end, next}
use Rattle.planning.specs.Text.{decimal}
use Rattle.table.specs.Reading.{NameParts, name_at}

-- the names of the steps and of the jobs, by number
pub record Names : Type 0 where
  pub steps : List (List ℕ)
  pub jobs : List (List ℕ)

-- "Each name shown is the part of the table file where it was declared."
abbrev pub shown_names : (file : List ℕ) → NameParts → Names
shown_names file ns = record { steps = map (name_at file) ns.steps; jobs = map (name_at file) ns.jobs }

-- Rows -----------------------------------------------------------------------------------------------------------------------
-- "A J line is a job: depth, name, method number. An S line is a step at its slot": a job by its number, a step by its number
pub data Row : Type 0 where
  job_row : (depth job method : ℕ) → Row
  step_row : (step : ℕ) → Row

-- "Lines of both kinds go together in node order": a tree's rows, where its top stands at depth d, are a job's before those of the trees
-- below it, and these in order (that this is node order is proofs/Walked `walked_is`)
abbrev mutual
  pub rows : Tree → (d : ℕ) → List Row
  rows (alone s) d = step_row s ∷ []
  rows (split j m ts) d = job_row d j m ∷ rows_of ts (suc d)

  pub rows_of : Trees → (d : ℕ) → List Row
  rows_of end d = []
  rows_of (next t ts) d = rows t d ++ rows_of ts d

-- Lines ----------------------------------------------------------------------------------------------------------------------
-- "`J`, 0, `serve`, 0; then `S`, 1, `lift`; tabs between"; LF after
abbrev pub job_line : (depth : ℕ) → (name : List ℕ) → (method : ℕ) → List ℕ
job_line d name m = 74 ∷ 9 ∷ (decimal d ++ (9 ∷ (name ++ (9 ∷ (decimal m ++ (10 ∷ []))))))

abbrev pub step_line : (place : ℕ) → (name : List ℕ) → List ℕ
step_line k name = 83 ∷ 9 ∷ (decimal k ++ (9 ∷ (name ++ (10 ∷ []))))

-- the lines of these rows, where k steps were done before: a step has "its place among the steps done, from 1"
abbrev pub row_lines : Names → (k : ℕ) → List Row → List ℕ
row_lines N k [] = []
row_lines N k (job_row d j m ∷ rs) = job_line d (get_or N.jobs j []) m ++ row_lines N k rs
row_lines N k (step_row s ∷ rs) = step_line (suc k) (get_or N.steps s []) ++ row_lines N (suc k) rs

abbrev pub listing : Names → Tree → List ℕ
listing N t = row_lines N 0 (rows t 0)
