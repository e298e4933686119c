-- Used names. Question 7, line by line.
-- Assumes nothing.
use Rattle.std.specs.Prelude.{Bool, cond, ◌&&◌, List, map, ℕ, eqb, length}
use Rattle.lists.specs.List.{all, has, filter, up_to, none_twice}
use Rattle.planning.specs.Table.{Task, step, job}
use Rattle.grammar.specs.Name.{Name}
use Rattle.grammar.specs.Line.{name_in, needs_in, sets_in, clears_in, body_in, start_in}
use Rattle.outline.specs.Sections.{Sections, start_line, root_line}
use Rattle.outline.specs.Names.{among, number_of, fact, job as jobKind, task, declared}

-- "every used name declared in the kind wanted there, and no fact twice in a list": a list of facts
unfoldable pub are_facts : List Name → List Name → Bool
unfolding among number_of
are_facts facts ns = all (among facts) ns && none_twice eqb (map (number_of facts) ns)

-- S: three lists of facts
unfoldable pub uses_facts : List Name → List ℕ → Bool
unfolding are_facts needs_in sets_in clears_in
uses_facts facts l = are_facts facts (needs_in l) && (are_facts facts (sets_in l) && are_facts facts (clears_in l))

-- M: a job, and "a list of steps and jobs"
unfoldable pub uses_tasks : List Name → List Name → List ℕ → Bool
unfolding among name_in body_in
uses_tasks jobs tasks l = among jobs (name_in l) && all (among tasks) (body_in l)

-- "7. Is every used name declared in the kind wanted there, and no fact twice in a list?"
unfoldable pub met7 : Sections → Bool
unfolding declared uses_facts uses_tasks are_facts start_in among name_in
met7 p =
    all (λ l. uses_facts (declared p fact) l.bytes) p.steps && (all (λ l. uses_tasks (declared p jobKind) (declared p task) l.bytes) p.methods
    && (are_facts (declared p fact) (start_in (start_line p)) && among (declared p jobKind) (name_in (root_line p))))

-- From names to numbers ------------------------------------------------------------------------------------------------------
-- a list of facts, which "may stand in any order", as the set that it is
unfoldable pub facts_of : List Name → List Name → List ℕ
unfolding number_of
facts_of facts ns = filter (has (map (number_of facts) ns)) (up_to (length facts))

-- a step or a job
unfoldable pub task_of : List Name → List Name → Name → Task
unfolding among number_of
task_of steps jobs n = cond (among steps n) (step (number_of steps n)) (job (number_of jobs n))
