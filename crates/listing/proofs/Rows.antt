-- The rows of a node: at most one, and a short one, whatever the values; and only the values of the table's variables count.
-- By looking up the node's record.
use mathlib.Core.Path.{◌≡◌, refl, sym, ap, ◌∙◌, subst}
use mathlib.Core.Bool.{Bool, true, false}
use mathlib.Core.List.{List, [], ◌∷◌, ◌++◌, map, append-nil}
use mathlib.Core.Option.{Option, none, some}
use Prim.Native.Nat.{ℕ, suc, ◌+◌, ◌*◌, ◌≤◌, ◌<◌}
use native.Mathlib.Omega.{arith}
use lib.Dec.{ltb}
use lib.ListN.{length, take, drop, take-append-drop}
use Rattle.lists.specs.List.{concat_map, from, up_to, has, ◌∈◌, Every}
use Rattle.lists.proofs.Bool.{and_l, leb_sound}
use Rattle.lists.proofs.Member.{in_filter_out}
use Rattle.lists.proofs.Number.{up_to_range, length_from}
use Rattle.lists.proofs.Every.{every_concat_map, concat_map_append, length_concat_map_le}
use Rattle.lists.proofs.Place.{from_add}
use Rattle.planning.specs.Table.{Task, step, job, Table, job_of}
use Rattle.planning.specs.Place.{methods_of}
use Rattle.planning.specs.Record.{Record, records}
use Rattle.planning.specs.Variable.{variables}
use Rattle.planning.specs.Model.{Valuation, chosen}
use Rattle.planning.specs.Accepted.{Accepted}
use Rattle.planning.proofs.Task.{job_among}
use Rattle.planning.proofs.Trees.Hold.{Held}
use Rattle.places.specs.Flat.{non_empty, inner, own, own_all, jobs_if, jobs_at, methods_at, Node, tasks_at, method_vars_at}
use Rattle.places.specs.Lookup.{record_at, first_var}
use Rattle.places.proofs.Lookup.{node_at_lem, nodes_length, first_next}
use Rattle.places.proofs.Records.{own_all_append, vars_records}
use Rattle.index.specs.Index.{source}
use Rattle.shape.specs.Shape.{node}
use Rattle.shape.proofs.Nodes.{few_nodes}
use Rattle.listing.specs.Listing.{Names, Row, row_lines}
use Rattle.listing.specs.Walk.{ShortNames}
use Rattle.listing.specs.Walk.{step_rows, task_rows, rows_at, rows_to, steps_in}
use Rattle.listing.proofs.Lines.{ShortRow, lines_most, steps_few}
use Rattle.listing.proofs.Chosen.{chosen_held}

step_one : (js : List ℕ) (s : ℕ) → length (step_rows js s) ≤ 1
step_one [] s = omega arith
step_one (j ∷ js) s = omega arith

task_one : (js : List ℕ) (d : ℕ) (t : Option Task) (m : Option ℕ) → length (task_rows js d t m) ≤ 1
task_one js d none m = omega arith
task_one js d (some (step s)) m = step_one js s
task_one js d (some (job j)) none = omega arith
task_one js d (some (job j)) (some m) = omega arith

step_all_short : (js : List ℕ) (s : ℕ) → Every ShortRow (step_rows js s)
step_all_short [] s = (tt, tt)
step_all_short (j ∷ js) s = tt

-- where a job is held, the depth is small; where a method is, its number is
task_all_short : (ss js ms : List ℕ) (d : ℕ) (t : Option Task) (m : Option ℕ) → ((j : ℕ) → j ∈ js → d < 10) → ((x : ℕ) → x ∈ ms → x < 1000)
    → Held (map step ss ++ map job js) t → Held ms m → Every ShortRow (task_rows js d t m)
task_all_short ss js ms d none m f g h k = tt
task_all_short ss js ms d (some (step s)) m f g h k = step_all_short js s
task_all_short ss js ms d (some (job j)) none f g h k = tt
task_all_short ss js ms d (some (job j)) (some m) f g h k = ((f j (job_among ss js j h), g m k), tt)

module _ (T : Table) where
  -- node n as its record has it
  inside : {n : ℕ} → n < length (source T).nodes → n < length (records T)
  inside h = omega (arith, h, nodes_length T (records T) 0 1)

  jobs_node : {n : ℕ} → n < length (source T).nodes → (node T n).jobs ≡ jobs_at T (record_at (records T) n)
  jobs_node {n} h = ap (λ (N : Node). N.jobs) (node_at_lem T (records T) n (inside h))

  methods_node : {n : ℕ} → n < length (source T).nodes → (node T n).methods ≡ methods_at T (record_at (records T) n)
  methods_node {n} h = ap (λ (N : Node). N.methods) (node_at_lem T (records T) n (inside h))

  -- a node with jobs lies above the table's depth
  job_depth : (r : Record) (j : ℕ) → j ∈ jobs_at T r → r.depth < T.depth
  job_depth r j = go (inner T r) refl
    where
      go : (b : Bool) → inner T r ≡ b → j ∈ jobs_if b r.label.jobs → r.depth < T.depth
      go true e m = leb_sound (suc r.depth) T.depth (and_l (ltb r.depth T.depth) (non_empty r.label.jobs) e)
      go false e m = absurd m

  -- its methods are methods of the table
  method_there : (r : Record) (m : ℕ) → m ∈ methods_at T r → m < length T.methods
  method_there r m = go (inner T r)
    where
      go : (b : Bool) → m ∈ jobs_if b (methods_of T r.label.jobs) → m < length T.methods
      go true k = up_to_range m (length T.methods) (in_filter_out (λ m. has r.label.jobs (job_of T m)) m (up_to (length T.methods)) k).0
      go false k = absurd k

  -- One node -----------------------------------------------------------------------------------------------------------------
  pub rows_one : (v : Valuation) (n : ℕ) → length (rows_at T v n) ≤ 1
  rows_one v n = task_one (node T n).jobs (record_at (records T) n).depth (chosen v (tasks_at (node T n))) (chosen v (method_vars_at (node T n)))

  module _ (a : Accepted T) where
    pub depth_small : {n : ℕ} → n < length (source T).nodes → (j : ℕ) → j ∈ (node T n).jobs → (record_at (records T) n).depth < 10
    depth_small {n} h j m = omega (arith, job_depth (record_at (records T) n) j (subst (λ (js : List ℕ). j ∈ js) (jobs_node h) m), a.limits.depth)

    pub method_small : {n : ℕ} → n < length (source T).nodes → (m : ℕ) → m ∈ (node T n).methods → m < 1000
    method_small {n} h m k = omega (arith, method_there (record_at (records T) n) m (subst (λ (ms : List ℕ). m ∈ ms) (methods_node h) k), a.limits.methods)

    pub rows_short : (v : Valuation) (n : ℕ) → n < length (source T).nodes → Every ShortRow (rows_at T v n)
    rows_short v n h =
        let N = node T n in
        task_all_short N.steps N.jobs N.methods (record_at (records T) n).depth (chosen v (tasks_at N)) (chosen v (method_vars_at N)) (depth_small h) (method_small h)
        (chosen_held v N.first (map step N.steps ++ map job N.jobs)) (chosen_held v (N.first + (length N.steps + length N.jobs)) N.methods)

  -- The first n nodes --------------------------------------------------------------------------------------------------------
  pub rows_next : (v : Valuation) (n : ℕ) → rows_to T v (n + 1) ≡ rows_to T v n ++ rows_at T v n
  rows_next v n =
      let z : 0 + n ≡ n = omega arith in
      ap (concat_map (rows_at T v)) (from_add 0 n 1) ∙ concat_map_append (rows_at T v) (up_to n) (from (0 + n) 1)
      ∙ ap (λ (r : List Row). rows_to T v n ++ r) (append-nil (rows_at T v (0 + n)) ∙ ap (rows_at T v) z)

  pub rows_few : (v : Valuation) (n : ℕ) → length (rows_to T v n) ≤ n
  rows_few v n = omega (arith, length_concat_map_le (rows_at T v) (up_to n) 1 (λ i m. rows_one v i), length_from 0 n)

  pub steps_done : (v : Valuation) (n : ℕ) → steps_in (rows_to T v n) ≤ n
  steps_done v n = omega (arith, steps_few (rows_to T v n), rows_few v n)

  module _ (a : Accepted T) {N : Names} (short : ShortNames N) (v : Valuation) where
    pub all_short : (n : ℕ) → n ≤ length (source T).nodes → Every ShortRow (rows_to T v n)
    all_short n h = every_concat_map ShortRow (rows_at T v) (up_to n) (λ i m. rows_short a v i (omega (arith, up_to_range i n m)))

    -- what is written for the first n nodes
    pub bytes_few : (n : ℕ) → n ≤ length (source T).nodes → length (row_lines N 0 (rows_to T v n)) ≤ 24 * n
    bytes_few n h =
        let few = rows_few v n in
        let most = lines_most short 0 (rows_to T v n) (all_short n h) (omega (arith, few_nodes T a)) in
        omega arith

  -- Only the table's variables count -------------------------------------------------------------------------------------------
  first_node : {n : ℕ} → n < length (source T).nodes → (node T n).first ≡ first_var T (records T) n
  first_node {n} h = ap (λ (N : Node). N.first) (node_at_lem T (records T) n (inside h))

  own_node : {n : ℕ} → n < length (source T).nodes → own T (record_at (records T) n) ≡ length (node T n).steps + length (node T n).jobs + length (node T n).methods
  own_node {n} h = ap (λ (N : Node). length N.steps + length N.jobs + length N.methods) (sym (node_at_lem T (records T) n (inside h)))

  -- the variables of a node
  pub last_variable : {n : ℕ} → n < length (source T).nodes
      → (node T n).first + (length (node T n).steps + length (node T n).jobs + length (node T n).methods) ≤ 1 + variables T
  last_variable {n} h =
      let rs = records T in
      let e : own_all T rs ≡ own_all T (take (suc n) rs) + own_all T (drop (suc n) rs) =
      ap (own_all T) (sym (take-append-drop (suc n) rs)) ∙ own_all_append T (take (suc n) rs) (drop (suc n) rs) in
      omega (arith, e, vars_records T, first_next T rs n (inside h), first_node h, own_node h)

  pub first_variable : {n : ℕ} → n < length (source T).nodes → 1 ≤ (node T n).first
  first_variable h = omega (arith, first_node h)
