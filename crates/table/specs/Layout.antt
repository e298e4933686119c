-- What the words of a read table mean: the table of `planning` that they hold (`table_in`), and where its names stand (`name_parts_in`).
-- Both are shut to other crates, which know them through the contracts of the calls and through Promises. Every list of words means a table:
-- past the last word there are zeros, and no count is above its limit, whatever its word says.
-- Assumes nothing.
use Rattle.std.specs.Prelude.{◌≡◌, List, map, ℕ, ◌+◌, ◌*◌, min, get_or, Option, Some, None, Result, Ok, Err}
use Rattle.std.proofs.Math.Option.{Option as PlanningOption, none, some}
use Rattle.lists.specs.List.{from, up_to}
use Rattle.planning.specs.Table.{Task as PlanningTask, step, job, Table, most_facts, most_steps, most_jobs, most_methods}
use Rattle.lines.specs.Part.{Part}
use Rattle.outline.specs.Questions.{most_names}
use Rattle.unmet.specs.declared.Unmet.{Unmet}
use Rattle.unmet.specs.Number.{number_of}
use Rattle.rows.specs.Words.{fact_words, step_words, method_words, set_at, step_at, method_at}
use Rattle.table.specs.Reading.{NameParts, Reading, refused, passed, reading}
use Rattle.table.specs.declared.Task.{Task}
use Rattle.table.specs.declared.Task.TheVariants.{Step as StepTask, Job as JobTask}

-- Where the words stand --------------------------------------------------------------------------------------------------------
-- first how many facts, steps, jobs and methods there are, the root job and the depth, then the facts true at the start
abbrev pub start_at : ℕ
start_at = 6

-- the steps, the methods and the names: as many places as there may be
abbrev pub steps_at : ℕ
steps_at = start_at + fact_words

abbrev pub methods_at : ℕ
methods_at = steps_at + step_words * most_steps

abbrev pub parts_at : ℕ
parts_at = methods_at + method_words * most_methods

abbrev pub table_words : ℕ
table_words = parts_at + 2 * most_names

-- What they mean ----------------------------------------------------------------------------------------------------------------
abbrev pub facts_in : List ℕ → ℕ
facts_in ws = min (get_or ws 0 0) most_facts

abbrev pub steps_in : List ℕ → ℕ
steps_in ws = min (get_or ws 1 0) most_steps

abbrev pub jobs_in : List ℕ → ℕ
jobs_in ws = min (get_or ws 2 0) most_jobs

abbrev pub methods_in : List ℕ → ℕ
methods_in ws = min (get_or ws 3 0) most_methods

-- Left free by the read: words that no look-up reads, which are those of steps, methods and names past the last, and of places behind a body's
-- last task; and of a count at its limit the word itself, of which the look-ups see no more than the limit
unfoldable pub table_in : List ℕ → Table
table_in ws = record {
  facts = facts_in ws;
  steps = map (λ s. step_at ws (steps_at + step_words * s)) (up_to (steps_in ws));
  jobs = jobs_in ws;
  methods = map (λ m. method_at (steps_in ws) ws (methods_at + method_words * m)) (up_to (methods_in ws));
  start = set_at ws start_at;
  root = get_or ws 4 0;
  depth = get_or ws 5 0;
}

-- where a name stands, its first byte's place and its size: the facts' names come first, then the steps', then the jobs'
abbrev pub part_at : List ℕ → ℕ → Part
part_at ws i = record { start = get_or ws (parts_at + 2 * i) 0; size = get_or ws (parts_at + 2 * i + 1) 0 }

unfoldable pub name_parts_in : List ℕ → NameParts
name_parts_in ws = record {
  facts = map (part_at ws) (up_to (facts_in ws));
  steps = map (part_at ws) (from (facts_in ws) (steps_in ws));
  jobs = map (part_at ws) (from (facts_in ws + steps_in ws) (jobs_in ws));
}

-- The answers of the calls ---------------------------------------------------------------------------------------------------
-- the read: the table, or the first question that is not met
unfoldable pub reading_of : Result (List ℕ) Unmet → Reading
unfolding table_in name_parts_in
reading_of (Ok ws) = passed (table_in ws) (name_parts_in ws)
reading_of (Err q) = refused (number_of q)

-- the whole outcome: the reading
abbrev pub Reads : List ℕ → Result (List ℕ) Unmet → Type 0
Reads s r = reading_of r ≡ reading s

-- a task of a body
abbrev pub task_from : Option Task → PlanningOption PlanningTask
task_from (Some (StepTask s)) = some (step s)
task_from (Some (JobTask j)) = some (job j)
task_from None = none

-- the part of a name past the last: empty
abbrev pub no_part : Part
no_part = record { start = 0; size = 0 }
