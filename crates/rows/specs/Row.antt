-- What an S line and an M line are read as.
-- Assumes nothing.
use Rattle.std.specs.Prelude.{List, map, ℕ}
use Rattle.planning.specs.Table.{Step, Method}
use Rattle.grammar.specs.Name.{Name}
use Rattle.grammar.specs.Line.{name_in, needs_in, sets_in, clears_in, body_in}
use Rattle.outline.specs.Names.{number_of}
use Rattle.rows.specs.Uses.{facts_of, task_of}

-- an S line
unfoldable pub read_step : List Name → List ℕ → Step
unfolding facts_of needs_in sets_in clears_in
read_step facts l = record { needs = facts_of facts (needs_in l); sets = facts_of facts (sets_in l); clears = facts_of facts (clears_in l) }

-- an M line
unfoldable pub read_method : List Name → List Name → List ℕ → Method
unfolding number_of task_of name_in body_in
read_method steps jobs l = record { of = number_of jobs (name_in l); body = map (task_of steps jobs) (body_in l) }
