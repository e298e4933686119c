-- The table, as the formula part knows it: numbers in place of names. And what the reader promises of it.
-- Assumes nothing.
use Rattle.std.specs.Prelude.{Bool, false, List, [], ℕ, ◌≤◌, ◌<◌, length, get_or, eqb}
use Rattle.lists.specs.List.{Every, Rising}

-- "Facts, steps, jobs and methods are each numbered from 0 in file order." Each is known by its number here.
-- A task is a step (the field's primitive task, an operator or action) or a job (compound or abstract task).
pub data Task : Type 0 where
  step : ℕ → Task
  job : ℕ → Task

-- are they the same task?
abbrev pub same : Task → Task → Bool
same (step s) (step t) = eqb s t
same (step s) (job k) = false
same (job j) (step t) = false
same (job j) (job k) = eqb j k

-- S: "step name, facts needed, facts set, facts cleared": preconditions, add list, delete list. "A fact list may stand in any order
-- and holds no fact twice", so each is a set: the rising list of its facts
pub record Step : Type 0 where
  pub needs : List ℕ
  pub sets : List ℕ
  pub clears : List ℕ

-- M: "job name, body: a list of steps and jobs": a decomposition method, with a totally ordered task network
pub record Method : Type 0 where
  -- whose method it is: a job's number
  pub of : ℕ
  pub body : List Task

-- A table is a totally ordered HTN planning problem, with a bound on the depth of decomposition. A fact (a proposition) and a job are
-- nothing but their numbers, so their counts alone stand here.
pub record Table : Type 0 where
  pub facts : ℕ
  pub steps : List Step
  pub jobs : ℕ
  pub methods : List Method
  -- I: "facts true at the start", the initial state; a set, as a step's are
  pub start : List ℕ
  -- R: "root job" (the initial task), "depth" (the bound, document 01's K)
  pub root : ℕ
  pub depth : ℕ

-- what stands past the last step and past the last method, so that look-up always has an answer; the reader's promises, below, keep
-- every number of a table within it
abbrev pub no_step : Step
no_step = record { needs = []; sets = []; clears = [] }

abbrev pub no_method : Method
no_method = record { of = 0; body = [] }

-- step s
abbrev pub step_of : Table → ℕ → Step
step_of T s = get_or T.steps s no_step

-- the job of method m
abbrev pub job_of : Table → ℕ → ℕ
job_of T m = (get_or T.methods m no_method).of

-- the body of method m
abbrev pub body_of : Table → ℕ → List Task
body_of T m = (get_or T.methods m no_method).body

-- What the reader promises -----------------------------------------------------------------------------------------------
-- "The formula part knows the table only through what the reader promises": every number is that of a fact, a step or a job of the
-- table, fact lists are sets, and the depth is at least 1
abbrev pub TaskIn : Table → Task → Type 0
TaskIn T (step s) = s < length T.steps
TaskIn T (job j) = j < T.jobs

pub record StepIn (T : Table) (s : Step) : Type 0 where
  pub needs : Rising 0 T.facts s.needs
  pub sets : Rising 0 T.facts s.sets
  pub clears : Rising 0 T.facts s.clears

pub record MethodIn (T : Table) (m : Method) : Type 0 where
  pub of : m.of < T.jobs
  pub body : Every (TaskIn T) m.body

pub record Sound (T : Table) : Type 0 where
  pub steps : Every (StepIn T) T.steps
  pub methods : Every (MethodIn T) T.methods
  pub start : Rising 0 T.facts T.start
  pub root : T.root < T.jobs
  pub depth : 1 ≤ T.depth

-- "At most 64 facts, 64 steps, 64 jobs, 128 methods, 8 names in a body"; "depth: one digit 1 to 8"
abbrev pub most_facts : ℕ
most_facts = 64

abbrev pub most_steps : ℕ
most_steps = 64

abbrev pub most_jobs : ℕ
most_jobs = 64

abbrev pub most_methods : ℕ
most_methods = 128

abbrev pub most_in_body : ℕ
most_in_body = 8

abbrev pub most_depth : ℕ
most_depth = 8

pub record Limits (T : Table) : Type 0 where
  pub facts : T.facts ≤ most_facts
  pub steps : length T.steps ≤ most_steps
  pub jobs : T.jobs ≤ most_jobs
  pub methods : length T.methods ≤ most_methods
  pub bodies : Every (λ (m : Method). length m.body ≤ most_in_body) T.methods
  pub depth : T.depth ≤ most_depth
