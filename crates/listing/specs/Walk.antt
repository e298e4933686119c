-- Inside the listing, nothing to believe: its rows node by node, as the code reads them from values. For a model's values they are those of
-- the tree that it gives. Assumes nothing.
use Rattle.std.specs.Prelude.{◌≡◌, List, [], ◌∷◌, ℕ, suc, ◌+◌, ◌≤◌, ◌<◌, length}
use Rattle.std.specs.Coded.{le_prop, Coded-set, coded_ℕ, coded_list}
use Rattle.std.proofs.Math.Option.{Option, none, some}
use Rattle.lists.specs.List.{Every, concat_map, find_index, from, up_to}
use Rattle.lists.specs.Written.{Wrote}
use Rattle.planning.specs.Table.{Task, step, job, Table}
use Rattle.planning.specs.Record.{records}
use Rattle.planning.specs.Variable.{variables}
use Rattle.planning.specs.Model.{Valuation, value, truths_in, chosen}
use Rattle.table.specs.Layout.{table_in, name_parts_in}
use Rattle.tree.specs.Words.{tree_words}
use Rattle.places.specs.Flat.{Node, tasks_at, method_vars_at}
use Rattle.places.specs.ClausePlace.{Source}
use Rattle.places.specs.Lookup.{record_at}
use Rattle.index.specs.Index.{source}
use Rattle.shape.specs.Shape.{node}
use Rattle.shape.specs.Once.{Every-prop}
use Rattle.listing.specs.Listing.{Names, shown_names, Row, job_row, step_row, row_lines}

-- "A name is 1 to 12 characters", as the reader promises
pub record ShortNames (N : Names) : Type 0 where
  pub steps : Every (λ (n : List ℕ). length n ≤ 12) N.steps
  pub jobs : Every (λ (n : List ℕ). length n ≤ 12) N.jobs

-- Rows -----------------------------------------------------------------------------------------------------------------------
-- a step has its row at a slot, where no job has a variable, and none at an inner node, which hands it down
abbrev pub step_rows : (jobs : List ℕ) → ℕ → List Row
step_rows [] s = step_row s ∷ []
step_rows (j ∷ js) s = []

-- the row of a node at depth d, where these jobs have a variable, by the task and the method whose variables are true there
abbrev pub task_rows : (jobs : List ℕ) → (d : ℕ) → Option Task → Option ℕ → List Row
task_rows js d none m = []
task_rows js d (some (step s)) m = step_rows js s
task_rows js d (some (job j)) none = []
task_rows js d (some (job j)) (some m) = job_row d j m ∷ []

abbrev pub node_rows : Valuation → (d : ℕ) → Node → List Row
node_rows v d N = task_rows N.jobs d (chosen v (tasks_at N)) (chosen v (method_vars_at N))

-- those of node n, and of the first n nodes; and of node n where job j's variable is true there
abbrev pub rows_at : Table → Valuation → ℕ → List Row
rows_at T v n = node_rows v (record_at (records T) n).depth (node T n)

abbrev pub job_rows : Table → Valuation → (n j : ℕ) → List Row
job_rows T v n j = task_rows (node T n).jobs (record_at (records T) n).depth (some (job j)) (chosen v (method_vars_at (node T n)))

abbrev pub rows_to : Table → Valuation → ℕ → List Row
rows_to T v n = concat_map (rows_at T v) (up_to n)

-- the lines of all nodes
abbrev pub walked : Table → Names → Valuation → List ℕ
walked T N v = row_lines N 0 (rows_to T v (length (source T).nodes))

-- What the code is lent ------------------------------------------------------------------------------------------------------
-- "variable j's value at place j of the values, counted from 1: 1 if true"
abbrev pub value_of : List ℕ → Valuation
value_of values = value (truths_in values)

-- of a table that was read from a file, a tree, a value for each variable, and names
pub record Listable (ws file tree values : List ℕ) : Type 0 where
  pub words : tree ≡ tree_words (records (table_in ws))
  pub long : variables (table_in ws) ≤ length values
  pub short : ShortNames (shown_names file (name_parts_in ws))

-- that can be shown in one way only: so a value may carry it
pub Listable-prop : (ws file tree values : List ℕ) → IsProp (Listable ws file tree values)
Listable-prop ws file tree values p q = λ i. record {
  words = Coded-set (coded_list coded_ℕ) tree (tree_words (records (table_in ws))) p.words q.words i;
  long = le_prop p.long q.long i;
  short = record {
    steps = Every-prop (λ (n : List ℕ). length n ≤ 12) (λ n. le_prop) (shown_names file (name_parts_in ws)).steps p.short.steps q.short.steps i;
    jobs = Every-prop (λ (n : List ℕ). length n ≤ 12) (λ n. le_prop) (shown_names file (name_parts_in ws)).jobs p.short.jobs q.short.jobs i;
  };
}

-- there is a node n, with room for a line in o from place at on, and k steps done before
pub record Ready (S : Source) (n : ℕ) (o : List ℕ) (at k : ℕ) : Type 0 where
  pub there : n < length S.nodes
  pub room : at + 24 ≤ length o
  pub few : k < 1024

-- What the code does ---------------------------------------------------------------------------------------------------------
-- the place of the first true variable among k from b on; k where none is
abbrev pub first_true : Valuation → (b k : ℕ) → ℕ
first_true v b k = find_index v (from b k)

-- how many of these rows are steps'
abbrev pub steps_in : List Row → ℕ
steps_in [] = 0
steps_in (job_row d j m ∷ rs) = steps_in rs
steps_in (step_row s ∷ rs) = suc (steps_in rs)

-- the lines of these rows were written into o from place at on, with k steps done before; the end is r, and then i steps are done
pub record WroteRows (N : Names) (o : List ℕ) (at k : ℕ) (rs : List Row) (o' : List ℕ) (r i : ℕ) : Type 0 where
  pub text : Wrote o at (row_lines N k rs) o' r
  pub steps : i ≡ k + steps_in rs
