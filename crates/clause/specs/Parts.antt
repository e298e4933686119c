-- Inside the encoding, nothing to believe: the parts of a clause, as the code writes them.
-- Assumes nothing.
use Rattle.std.specs.Prelude.{Bool, cond, List, [], ◌∷◌, map, ℕ, ◌+◌}
use Rattle.std.proofs.Math.Option.{Option, some, none}
use Rattle.lists.specs.List.{has}
use Rattle.planning.specs.Table.{Task, Table, step_of}
use Rattle.planning.specs.Clause.{neg, Clause, var_of, drops}
use Rattle.places.specs.Flat.{Node, tasks_at, child_tasks}
use Rattle.places.specs.ClausePlace.{ClausePlace, child_at, fall, rise}
use Rattle.writer.specs.Literal.{code_of}

-- a clause as numbers
abbrev pub codes : Clause → List ℕ
codes c = map code_of c

-- the variable of a task at a node; none where there is no task, or where it has none
abbrev pub lits_of : Option Task → Node → Clause
lits_of none N = []
lits_of (some t) N = var_of t (tasks_at N)

-- variable v negated, then what child y has of the task that is named there; where none is, the child's task variable i negated
abbrev pub at_child : Node → (v y : ℕ) → Option Task → (i : ℕ) → Clause
at_child N v y none i = neg v ∷ neg ((child_at N y).first + i) ∷ []
at_child N v y (some t) i = neg v ∷ var_of t (child_tasks (child_at N y))

-- does step s make fact f rise, or fall?
abbrev pub moves : Table → Bool → (f s : ℕ) → Bool
moves T up f s = cond up (has (step_of T s).sets f) (drops (step_of T s) f)

-- fact f rises at slot n, or falls
abbrev pub moved : Bool → (n f : ℕ) → ClausePlace
moved up n f = cond up (rise n f) (fall n f)
