-- The numbering of the variables.
-- Assumes nothing.
use Rattle.std.specs.Prelude.{List, [], ◌∷◌, ◌++◌, map, ℕ, suc, ◌+◌, ◌*◌, length}
use Rattle.lists.specs.List.{number}
use Rattle.planning.specs.Table.{Task, step, job, Table}
use Rattle.planning.specs.Place.{Place, slot, inner, Places, stop, also, methods_of, root_place}

-- A variable is written with what it stands for: (n, t) is variable n, for t.

-- Nodes ----------------------------------------------------------------------------------------------------------------------
-- "At each node in order: one for each step it may hold; at an inner node then one for each job, then one for each method of those
-- jobs; each kind in rising number." "A job at depth K has no variable." `"Task variables" means steps and jobs`: these are the tasks
-- that have a variable at a node, and the methods that have one
abbrev pub tasks_of : Place → List Task
tasks_of (slot L) = map step L.steps
tasks_of (inner L ps) = map step L.steps ++ map job L.jobs

abbrev pub methods_at : Table → Place → List ℕ
methods_at T (slot L) = []
methods_at T (inner L ps) = methods_of T L.jobs

-- "The count of a node's variables of each kind is the count of that kind's set's members": how many a node has itself
abbrev pub own_vars : Table → Place → ℕ
own_vars T p = length (tasks_of p) + length (methods_at T p)

-- how many a node's whole part has, the node and all below it
abbrev mutual
  pub part_vars : Table → Place → ℕ
  part_vars T (slot L) = own_vars T (slot L)
  part_vars T (inner L ps) = own_vars T (inner L ps) + parts_vars T ps

  pub parts_vars : Table → Places → ℕ
  parts_vars T stop = 0
  parts_vars T (also p ps) = part_vars T p + parts_vars T ps

-- a node's task variables, its method variables, and its children's task variables, child by child; b is the first variable of the
-- node's part, or of its children's parts
abbrev pub task_vars : Place → ℕ → List (ℕ × Task)
task_vars p b = number b (tasks_of p)

abbrev pub method_vars : Table → Place → ℕ → List (ℕ × ℕ)
method_vars T p b = number (b + length (tasks_of p)) (methods_at T p)

abbrev pub child_vars : Table → Places → ℕ → List (List (ℕ × Task))
child_vars T stop b = []
child_vars T (also p ps) b = task_vars p b ∷ child_vars T ps (b + part_vars T p)

-- "Variables count from 1": those of the nodes are 1 to node_vars
abbrev pub node_vars : Table → ℕ
node_vars T = part_vars T (root_place T)

-- Slots ----------------------------------------------------------------------------------------------------------------------
-- those of these that are for steps
abbrev pub step_vars : List (ℕ × Task) → List (ℕ × ℕ)
step_vars [] = []
step_vars (x ∷ xs) = elim x.1 [ step s ↦ (x.0, s) ∷ step_vars xs | job j ↦ step_vars xs ]

-- the step variables of each slot of a part, slot by slot; "Slots are taken in node order"
abbrev mutual
  pub slot_vars : Table → Place → ℕ → List (List (ℕ × ℕ))
  slot_vars T (slot L) b = step_vars (task_vars (slot L) b) ∷ []
  slot_vars T (inner L ps) b = slots_vars T ps (b + own_vars T (inner L ps))

  pub slots_vars : Table → Places → ℕ → List (List (ℕ × ℕ))
  slots_vars T stop b = []
  slots_vars T (also p ps) b = slot_vars T p b ++ slots_vars T ps (b + part_vars T p)

-- the step variables of each slot of the table
abbrev pub slots : Table → List (List (ℕ × ℕ))
slots T = slot_vars T (root_place T) 1

-- Facts ----------------------------------------------------------------------------------------------------------------------
-- "Then for each boundary in order, one for each fact." "boundary 0 lies before slot 1, boundary i after slot i": a boundary is a point
-- of time, and its fact variables are the state then. This is fact f at boundary i, where b is the first fact variable
abbrev pub fact_var : Table → (b i f : ℕ) → ℕ
fact_var T b i f = b + i * T.facts + f

abbrev pub first_fact_var : Table → ℕ
first_fact_var T = suc (node_vars T)

-- how many variables there are: there is one boundary more than there are slots
abbrev pub variables : Table → ℕ
variables T = node_vars T + suc (length (slots T)) * T.facts
