-- Declared names, and from names to numbers: "Facts, steps, jobs and methods are each numbered from 0 in file order."
-- Assumes nothing.
use Rattle.std.specs.Prelude.{Bool, List, ◌++◌, map, ℕ}
use Rattle.lists.specs.List.{any, find_index, none_twice}
use Rattle.lines.specs.Bytes.{same_bytes}
use Rattle.lines.specs.Parts.{Piece}
use Rattle.grammar.specs.Name.{Name}
use Rattle.grammar.specs.Line.{name_in}
use Rattle.outline.specs.Sections.{Sections}

-- the names that F, S and T lines declare
unfoldable pub names_of : List Piece → List Name
unfolding name_in
names_of ls = map (λ l. name_in l.bytes) ls

-- is the name n one of ns?
unfoldable pub among : List Name → Name → Bool
unfolding same_bytes
among ns n = any (same_bytes n) ns

-- the number of the name n among ns; their count, where it is none of them
unfoldable pub number_of : List Name → Name → ℕ
unfolding same_bytes
number_of ns n = find_index (same_bytes n) ns

-- no name stands twice
unfoldable pub all_new : List Name → Bool
unfolding same_bytes
all_new ns = none_twice same_bytes ns

-- "declared in the kind wanted there": a fact, a step, a job, or a task, which is a step or a job
pub data Kind : Type 0 where
  fact step job task : Kind

-- the names declared in a kind, in file order; a task's number counts the steps first, then the jobs
unfoldable pub declared : Sections → Kind → List Name
unfolding names_of
declared p fact = names_of p.facts
declared p step = names_of p.steps
declared p job = names_of p.jobs
declared p task = names_of p.steps ++ names_of p.jobs

-- all declared names, "over facts, steps and jobs together"
unfoldable pub all_declared : Sections → List Name
unfolding declared
all_declared p = declared p fact ++ declared p task
