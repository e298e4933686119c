-- The words that a set of facts, a step and a method are kept as, from a place on; where they stand in a table is crate `table`'s specs/Layout.
-- Past the last word of a list there are zeros. Assumes nothing.
use Rattle.std.specs.Prelude.{◌≡◌, cond, List, map, ℕ, ◌+◌, ◌-◌, ◌*◌, ◌<◌, min, ltb, get_or}
use Rattle.lists.specs.List.{up_to}
use Rattle.bitset.specs.Set.{members}
use Rattle.planning.specs.Table.{Task, step, job, Step, Method, most_in_body}

-- how many words a set of facts has, 64 facts a word; a step, its three sets; a method, its job, how many tasks its body has, and a word a task
abbrev pub fact_words : ℕ
fact_words = 1

abbrev pub step_words : ℕ
step_words = 3 * fact_words

abbrev pub method_words : ℕ
method_words = 2 + most_in_body

-- the n words from place p on
abbrev pub words_at : List ℕ → (p n : ℕ) → List ℕ
words_at ws p n = map (λ i. get_or ws (p + i) 0) (up_to n)

-- the set of facts, and the step, from place p on
abbrev pub set_at : List ℕ → ℕ → List ℕ
set_at ws p = members (words_at ws p fact_words)

abbrev pub step_at : List ℕ → ℕ → Step
step_at ws p = record { needs = set_at ws p; sets = set_at ws (p + fact_words); clears = set_at ws (p + 2 * fact_words) }

-- a task by one number: steps first, then jobs
abbrev pub task_at : (steps : ℕ) → ℕ → Task
task_at n k = cond (ltb k n) (step k) (job (k - n))

-- the method from place p on, of a table with n steps. No body is longer than the limit, whatever the word says
abbrev pub size_at : List ℕ → ℕ → ℕ
size_at ws p = min (get_or ws (p + 1) 0) most_in_body

abbrev pub method_at : (n : ℕ) → List ℕ → ℕ → Method
method_at n ws p = record { of = get_or ws p 0; body = map (λ j. task_at n (get_or ws (p + 2 + j) 0)) (up_to (size_at ws p)) }

-- Inside the reader, nothing to believe: what is written ------------------------------------------------------------------------
-- the places below n have the words that they had
pub record Kept (n : ℕ) (o o' : List ℕ) : Type 0 where
  pub at : (p : ℕ) → p < n → get_or o' p 0 ≡ get_or o p 0
