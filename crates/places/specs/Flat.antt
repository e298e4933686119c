-- Inside the encoding, nothing to believe: what the cursor knows of a node, worked out from the tree records alone.
-- Assumes nothing.
use Rattle.std.specs.Prelude.{Bool, true, false, ◌&&◌, cond, List, [], ◌∷◌, ◌++◌, map, ℕ, zero, suc, ◌+◌, length, eqb, ltb}
use Rattle.lists.specs.List.{number}
use Rattle.planning.specs.Table.{Task, step, job, Table}
use Rattle.planning.specs.Place.{methods_of}
use Rattle.planning.specs.Record.{Record}
use Rattle.planning.specs.Clause.{Clause, inner_clauses}

abbrev pub non_empty : List ℕ → Bool
non_empty [] = false
non_empty (j ∷ js) = true

-- "A node that may hold a job and lies above the table's depth K is inner"
abbrev pub inner_at : Table → (depth : ℕ) → (jobs : List ℕ) → Bool
inner_at T d js = ltb d T.depth && non_empty js

abbrev pub inner : Table → Record → Bool
inner T r = inner_at T r.depth r.label.jobs

-- the jobs and the methods that have a variable at the node: none at a slot
abbrev pub jobs_if : Bool → List ℕ → List ℕ
jobs_if b js = cond b js []

abbrev pub jobs_at : Table → Record → List ℕ
jobs_at T r = jobs_if (inner T r) r.label.jobs

abbrev pub methods_at : Table → Record → List ℕ
methods_at T r = jobs_if (inner T r) (methods_of T r.label.jobs)

-- how many variables the node has itself
abbrev pub own : Table → Record → ℕ
own T r = length r.label.steps + length (jobs_at T r) + length (methods_at T r)

-- how many these have
abbrev pub own_all : Table → List Record → ℕ
own_all T [] = 0
own_all T (r ∷ rs) = own T r + own_all T rs

-- a child: its node number, its first variable, the steps and the jobs that have a variable there
pub record Child : Type 0 where
  pub node : ℕ
  pub first : ℕ
  pub steps : List ℕ
  pub jobs : List ℕ

abbrev pub child_of : Table → (n b : ℕ) → Record → Child
child_of T n b r = record { node = n; first = b; steps = r.label.steps; jobs = jobs_at T r }

-- the first k children of node u among the records from node n on, whose first variable is b: the first child is
-- n + 1, and the next child is the next node after it with the same parent
abbrev pub children_from : Table → (u k n b : ℕ) → List Record → List Child
children_from T u zero n b rs = []
children_from T u (suc k) n b [] = []
children_from T u (suc k) n b (r ∷ rs) =
    cond (eqb r.parent u) (child_of T n b r ∷ children_from T u k (suc n) (b + own T r) rs) (children_from T u (suc k) (suc n) (b + own T r) rs)

-- a node: its first variable, the steps, jobs and methods that have a variable there, its children
pub record Node : Type 0 where
  pub first : ℕ
  pub steps : List ℕ
  pub jobs : List ℕ
  pub methods : List ℕ
  pub children : List Child

-- node n, with first variable b, record r, and the records after it
abbrev pub node_of : Table → (n b : ℕ) → Record → List Record → Node
node_of T n b r rs = record {
  first = b;
  steps = r.label.steps;
  jobs = jobs_at T r;
  methods = methods_at T r;
  children = children_from T n r.children (suc n) (b + own T r) rs;
}

abbrev pub nodes_from : Table → (n b : ℕ) → List Record → List Node
nodes_from T n b [] = []
nodes_from T n b (r ∷ rs) = node_of T n b r rs ∷ nodes_from T (suc n) (b + own T r) rs

-- all nodes of the table with these records
abbrev pub nodes_of : Table → List Record → List Node
nodes_of T rs = nodes_from T 0 1 rs

-- the task variables of a node and of a child, and a node's method variables
abbrev pub tasks_from : ℕ → (steps jobs : List ℕ) → List (ℕ × Task)
tasks_from b ss js = number b (map step ss ++ map job js)

abbrev pub tasks_at : Node → List (ℕ × Task)
tasks_at N = tasks_from N.first N.steps N.jobs

abbrev pub child_tasks : Child → List (ℕ × Task)
child_tasks C = tasks_from C.first C.steps C.jobs

abbrev pub method_vars_at : Node → List (ℕ × ℕ)
method_vars_at N = number (N.first + (length N.steps + length N.jobs)) N.methods

-- the step variables of each slot among the records, the first of which has first variable b
abbrev pub slots_from : Table → (b : ℕ) → List Record → List (List (ℕ × ℕ))
slots_from T b [] = []
slots_from T b (r ∷ rs) = cond (inner T r) (slots_from T (b + own T r) rs) (number b r.label.steps ∷ slots_from T (b + own T r) rs)

-- (a) to (g) at a node; at a slot, which has no jobs, methods and children, (a) alone is left
abbrev pub clauses_of : Table → Node → List Clause
clauses_of T N = inner_clauses T (tasks_at N) (method_vars_at N) (map child_tasks N.children)
