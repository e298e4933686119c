-- Inside the encoding, nothing to believe: the place of a clause, its literals, and the nest of loops that goes through all places in the
-- order of the formula. Assumes nothing.
use Rattle.std.specs.Prelude.{Bool, ◌&&◌, cond, List, [], ◌∷◌, ◌++◌, ℕ, suc, ◌+◌, ◌-◌, length, get_or, eqb, ltb}
use Rattle.lists.specs.List.{filter, has}
use Rattle.planning.specs.Table.{Task, step, job, Table, step_of, job_of, body_of}
use Rattle.planning.specs.Tree.{initial}
use Rattle.planning.specs.Record.{Record}
use Rattle.planning.specs.Variable.{fact_var}
use Rattle.planning.specs.Clause.{pos, neg, Clause, all_pos, var_of, literal, facts_that, drops, fall_clause, rise_clause}
use Rattle.places.specs.Nest.{Pos, Shape}
use Rattle.places.specs.Flat.{Child, Node, nodes_of, slots_from, own_all, tasks_at, child_tasks, method_vars_at}

abbrev pub no_child : Child
no_child = record { node = 0; first = 0; steps = []; jobs = [] }

abbrev pub no_node : Node
no_node = record { first = 0; steps = []; jobs = []; methods = []; children = [] }

-- what the clauses are made from: the nodes, the step variables of each slot, the first fact variable
pub record Source : Type 0 where
  pub table : Table
  pub nodes : List Node
  pub slots : List (List (ℕ × ℕ))
  pub facts : ℕ

pub data ClausePlace : Type 0 where
  -- rule 1
  root : ClausePlace
  -- two variables, both negated: (a), (b), (e) and (f) against a child's variable, and cleared facts
  both : (v w : ℕ) → ClausePlace
  -- (c) job x of node n, then its methods
  methods_of : (n x : ℕ) → ClausePlace
  -- (d) method x of node n, then its job
  job_of_method : (n x : ℕ) → ClausePlace
  -- (e) method x of node n, then the task at child y
  body_task : (n x y : ℕ) → ClausePlace
  -- (f) step x of node n, then the same step at the first child
  inherited : (n x : ℕ) → ClausePlace
  -- (g) the task variables of node n, then v negated
  up : (n v : ℕ) → ClausePlace
  -- rule 3
  start : (f : ℕ) → ClausePlace
  -- a step's variable negated, then a fact's: needed before, set after
  effect : (v w : ℕ) → ClausePlace
  -- rule 4, fact f at slot n
  fall : (n f : ℕ) → ClausePlace
  rise : (n f : ℕ) → ClausePlace

-- the child that a node lacks holds nothing
abbrev pub child_at : Node → ℕ → Child
child_at N y = get_or N.children y no_child

-- how many task variables
abbrev pub width : Child → ℕ
width C = length C.steps + length C.jobs

abbrev pub tasks_n : Node → ℕ
tasks_n N = length N.steps + length N.jobs

abbrev pub node_at : Source → ℕ → Node
node_at S n = get_or S.nodes n no_node

abbrev pub slot_at : Source → ℕ → List (ℕ × ℕ)
slot_at S n = get_or S.slots n []

-- the method x of a node
abbrev pub method_at : Node → ℕ → ℕ
method_at N x = get_or N.methods x 0

abbrev pub method_var : Node → ℕ → ℕ
method_var N x = N.first + tasks_n N + x

-- the task named at place y of method m's body
abbrev pub task_at : Table → ℕ → ℕ → Task
task_at T m y = get_or (body_of T m) y (step 0)

-- The literals of a place ------------------------------------------------------------------------------------------------
abbrev pub methods_of_lits : Table → Node → ℕ → Clause
methods_of_lits T N x = neg (N.first + length N.steps + x) ∷ all_pos (filter (λ m. eqb (job_of T m.1) (get_or N.jobs x 0)) (method_vars_at N))

abbrev pub job_of_method_lits : Table → Node → ℕ → Clause
job_of_method_lits T N x = neg (method_var N x) ∷ var_of (job (job_of T (method_at N x))) (tasks_at N)

abbrev pub body_task_lits : Table → Node → (x y : ℕ) → Clause
body_task_lits T N x y = neg (method_var N x) ∷ var_of (task_at T (method_at N x) y) (child_tasks (child_at N y))

abbrev pub inherited_lits : Node → ℕ → Clause
inherited_lits N x = neg (N.first + x) ∷ var_of (step (get_or N.steps x 0)) (child_tasks (child_at N 0))

abbrev pub up_lits : Node → ℕ → Clause
up_lits N v = all_pos (tasks_at N) ++ (neg v ∷ [])

abbrev pub literals : Source → ClausePlace → Clause
literals S root = var_of (job S.table.root) (tasks_at (node_at S 0))
literals S (both v w) = neg v ∷ neg w ∷ []
literals S (methods_of n x) = methods_of_lits S.table (node_at S n) x
literals S (job_of_method n x) = job_of_method_lits S.table (node_at S n) x
literals S (body_task n x y) = body_task_lits S.table (node_at S n) x y
literals S (inherited n x) = inherited_lits (node_at S n) x
literals S (up n v) = up_lits (node_at S n) v
literals S (start f) = literal (initial S.table f) (fact_var S.table S.facts 0 f) ∷ []
literals S (effect v w) = neg v ∷ pos w ∷ []
literals S (fall n f) = fall_clause S.table S.facts n (slot_at S n) f
literals S (rise n f) = rise_clause S.table S.facts n (slot_at S n) f

-- The loops --------------------------------------------------------------------------------------------------------------
-- a group of clauses: rows (x, y), each of len x y clauses
pub record Group : Type 0 where
  pub xs : ℕ
  pub ys : ℕ
  pub len : (x y : ℕ) → ℕ
  pub place : (x y i : ℕ) → ClausePlace

abbrev pub no_group : Group
no_group = record { xs = 0; ys = 0; len = λ x y. 0; place = λ x y i. root }

-- a single row of n
abbrev pub single : ℕ → (ℕ → ClausePlace) → Group
single n f = record { xs = 1; ys = 1; len = λ x y. n; place = λ x y i. f i }

-- each pair of n variables, the first of which is b
abbrev pub pair_group : (b n : ℕ) → Group
pair_group b n = record { xs = n; ys = 1; len = λ x y. n - suc x; place = λ x y i. both (b + x) (b + (x + suc i)) }

-- (e): has the method x a name at child y?
abbrev pub named_at : Table → Node → (x y : ℕ) → Bool
named_at T N x y = ltb y (length (body_of T (method_at N x)))

-- (a) to (g) of node n
abbrev pub node_groups : Table → ℕ → Node → List Group
node_groups T n N =
    pair_group N.first (tasks_n N)
    ∷ pair_group (N.first + tasks_n N) (length N.methods)
    ∷ single (length N.jobs) (λ i. methods_of n i)
    ∷ single (length N.methods) (λ i. job_of_method n i)
    ∷ record {
      xs = length N.methods;
      ys = length N.children;
      len = λ x y. cond (named_at T N x y) 1 (width (child_at N y));
      place = λ x y i. cond (named_at T N x y) (body_task n x y) (both (method_var N x) ((child_at N y).first + i));
    }
    ∷ record {
      xs = length N.steps;
      ys = length N.children;
      len = λ x y. cond (eqb y 0) 1 (width (child_at N y));
      place = λ x y i. cond (eqb y 0) (inherited n x) (both (N.first + x) ((child_at N y).first + i));
    }
    ∷ record { xs = length N.children; ys = 1; len = λ x y. width (child_at N x); place = λ x y i. up n ((child_at N x).first + i) }
    ∷ []

-- the facts that a step needs, sets, and clears and does not set, rising
abbrev pub effect_facts : Table → (s y : ℕ) → List ℕ
effect_facts T s y = get_or (facts_that T (has (step_of T s).needs) ∷ facts_that T (has (step_of T s).sets) ∷ facts_that T (drops (step_of T s)) ∷ []) y []

abbrev pub effect_place : Table → (b n v : ℕ) → (y f : ℕ) → ClausePlace
effect_place T b n v y f = get_or (effect v (fact_var T b n f) ∷ effect v (fact_var T b (suc n) f) ∷ both v (fact_var T b (suc n) f) ∷ []) y root

-- rule 4 at slot n: the effects, then two for each fact
abbrev pub slot_groups : Table → (b n : ℕ) → List (ℕ × ℕ) → List Group
slot_groups T b n vs =
    record {
      xs = length vs;
      ys = 3;
      len = λ x y. length (effect_facts T (get_or vs x (0, 0)).1 y);
      place = λ x y i. effect_place T b n (get_or vs x (0, 0)).0 y (get_or (effect_facts T (get_or vs x (0, 0)).1 y) i 0);
    }
    ∷ record { xs = T.facts; ys = 1; len = λ x y. 2; place = λ x y i. cond (eqb i 0) (fall n x) (rise n x) }
    ∷ []

abbrev pub groups_at : Source → (r n : ℕ) → List Group
groups_at S r n = get_or (
    (single 1 (λ i. root) ∷ [])
    ∷ node_groups S.table n (node_at S n)
    ∷ (single S.table.facts (λ i. start i) ∷ [])
    ∷ slot_groups S.table S.facts n (slot_at S n)
    ∷ []
    ) r []

abbrev pub group_at : Source → (r n g : ℕ) → Group
group_at S r n g = get_or (groups_at S r n) g no_group

abbrev pub nodes_in : Source → ℕ → ℕ
nodes_in S r = get_or (1 ∷ length S.nodes ∷ 1 ∷ length S.slots ∷ []) r 0

abbrev pub groups_in : ℕ → ℕ
groups_in r = get_or (1 ∷ 7 ∷ 1 ∷ 2 ∷ []) r 1

abbrev pub row_len : Source → (r n g x y : ℕ) → ℕ
row_len S r n g x y =
    let G = group_at S r n g in
    cond (ltb n (nodes_in S r) && (ltb x G.xs && ltb y G.ys)) (G.len x y) 0

unfoldable pub shape : Source → Shape
shape S = record {
  rules = 4;
  nodes = nodes_in S;
  groups = groups_in;
  xs = λ r n g. (group_at S r n g).xs;
  ys = λ r n g. (group_at S r n g).ys;
  len = row_len S;
}

abbrev pub place_at : Source → Pos → ClausePlace
place_at S p = (group_at S p.rule p.node p.group).place p.x p.y p.i

-- the source worked out from a table's records
abbrev pub source_of : Table → List Record → Source
source_of T rs = record { table = T; nodes = nodes_of T rs; slots = slots_from T 1 rs; facts = suc (own_all T rs) }
