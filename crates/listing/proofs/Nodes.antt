-- What the code looks up of a node: its tasks, its depth, its true task and method; and the rows that they give.
-- By the laws of the index, of the tree's words and of the first true variable.
use mathlib.Core.Path.{◌≡◌, refl, sym, ap, ap₂, ◌∙◌}
use mathlib.Core.List.{List, [], ◌∷◌, ◌++◌, map}
use mathlib.Core.Option.{Option, none, some}
use Prim.Native.Nat.{ℕ, ◌+◌, ◌-◌, ◌*◌, ◌≤◌, ◌<◌}
use native.Mathlib.Omega.{arith}
use lib.ListN.{length, get_or, get_elem?, length-append}
use Rattle.lists.specs.Written.{Wrote}
use Rattle.lists.proofs.Member.{in_get_d}
use Rattle.lists.proofs.Written.{wrote_same}
use Rattle.bitset.specs.Set.{set_of}
use Rattle.planning.specs.Table.{Task, step, job, Table}
use Rattle.planning.specs.Record.{Record, records}
use Rattle.planning.specs.Model.{Valuation, chosen}
use Rattle.planning.proofs.Task.{length_tasks}
use Rattle.table.specs.Reading.{name_at}
use Rattle.table.specs.Layout.{table_in, name_parts_in, no_part}
use Rattle.tree.specs.Words.{record_words, tree_words}
use Rattle.places.specs.Flat.{Node, tasks_at, method_vars_at}
use Rattle.places.specs.ClausePlace.{tasks_n, method_at}
use Rattle.places.specs.Lookup.{no_record, record_at}
use Rattle.places.proofs.Lookup.{nodes_length}
use Rattle.index.specs.Index.{source}
use Rattle.index.proofs.Blocks.{fives, length_fives}
use Rattle.index.proofs.Known.{set_length}
use Rattle.shape.specs.Shape.{node, Indexed}
use Rattle.listing.specs.Listing.{Names, shown_names, step_row, job_line, step_line}
use Rattle.listing.specs.Walk.{step_rows, task_rows, rows_at, job_rows, first_true, value_of, Listable, Ready, WroteRows}
use Rattle.listing.proofs.Lines.{step_named, job_named, step_short, job_short}
use Rattle.listing.proofs.Chosen.{chosen_first, elem_in, elem_past, step_elem, job_elem}
use Rattle.listing.proofs.Rows.{depth_small, first_variable, last_variable}
use Rattle.listing.proofs.Writes.{lists_none, lists_same, lists_step, lists_job}

-- Depth ----------------------------------------------------------------------------------------------------------------------
record_width : (r : Record) → length (record_words r) ≡ 5
record_width r = omega (arith, length-append (set_of 1 r.label.steps) (set_of 1 r.label.jobs), set_length r.label.steps, set_length r.label.jobs)

module _ (T : Table) {n : ℕ} (h : n < length (source T).nodes) where
  inside : n < length (records T)
  inside = omega (arith, h, nodes_length T (records T) 0 1)

  pub depth_there : {tree : List ℕ} → tree ≡ tree_words (records T) → 5 * n < length tree
  depth_there {tree} e = omega (arith, ap length e, length_fives record_words no_record record_width (records T), inside)

  pub depth_is : {tree : List ℕ} → tree ≡ tree_words (records T) → get_or tree (5 * n) 0 ≡ (record_at (records T) n).depth
  depth_is {tree} e =
      let z : 5 * n ≡ 5 * n + 0 = omega arith in
      ap₂ (λ (l : List ℕ) (i : ℕ). get_or l i 0) e z ∙ fives record_words no_record record_width (records T) n 0 inside (omega arith)

-- The true task and the true method --------------------------------------------------------------------------------------------
module _ (N : Node) (v : Valuation) {x : ℕ} where
  task_found : x ≡ first_true v N.first (tasks_n N) → chosen v (tasks_at N) ≡ get_elem? (map step N.steps ++ map job N.jobs) x
  task_found e =
      chosen_first v N.first (map step N.steps ++ map job N.jobs)
      ∙ ap (get_elem? (map step N.steps ++ map job N.jobs)) (ap (first_true v N.first) (length_tasks N.steps N.jobs) ∙ sym e)

  method_found : x ≡ first_true v (N.first + tasks_n N) (length N.methods) → chosen v (method_vars_at N) ≡ get_elem? N.methods x
  method_found e = chosen_first v (N.first + tasks_n N) N.methods ∙ ap (get_elem? N.methods) (sym e)

-- Rows -----------------------------------------------------------------------------------------------------------------------
no_rows : (js : List ℕ) (s : ℕ) → 0 < length js → step_rows js s ≡ []
no_rows [] s h = absurd (omega arith)
no_rows (j ∷ js) s h = refl

one_row : (js : List ℕ) (s : ℕ) → length js ≤ 0 → step_rows js s ≡ step_row s ∷ []
one_row [] s h = refl
one_row (j ∷ js) s h = absurd (omega arith)

module _ {ws file tree values : List ℕ} (l : Listable ws file tree values) {n : ℕ} {o : List ℕ} {at k : ℕ} (u : Ready (source (table_in ws)) n o at k) where
  abbrev names : Names
  names = shown_names file (name_parts_in ws)

  abbrev T : Table
  T = table_in ws

  -- A step
  pub handed_down : {c : ℕ} (s : ℕ) → c ≡ length (node T n).jobs → 0 < c → WroteRows names o at k (step_rows (node T n).jobs s) o at k
  handed_down s e h = lists_same (sym (no_rows (node T n).jobs s (omega arith))) (lists_none names o at k)

  pub step_name_short : {name : List ℕ} (s : ℕ) → name ≡ name_at file (get_or (name_parts_in ws).steps s no_part) → length name ≤ 12
  step_name_short s e = omega (arith, ap length (e ∙ sym (step_named file (name_parts_in ws) s)), step_short l.short s)

  pub job_name_short : {name : List ℕ} (j : ℕ) → name ≡ name_at file (get_or (name_parts_in ws).jobs j no_part) → length name ≤ 12
  job_name_short j e = omega (arith, ap length (e ∙ sym (job_named file (name_parts_in ws) j)), job_short l.short j)

  pub step_listed : {c e : ℕ} {name o' : List ℕ} (s : ℕ) → c ≡ length (node T n).jobs → c ≤ 0 → name ≡ name_at file (get_or (name_parts_in ws).steps s no_part)
      → Wrote o at (step_line (k + 1) name) o' e → WroteRows names o at k (step_rows (node T n).jobs s) o' e (k + 1)
  step_listed {c} {e} {name} {o'} s p h q w =
      lists_same (sym (one_row (node T n).jobs s (omega arith)))
      (lists_step names s (wrote_same (ap (step_line (k + 1)) (q ∙ sym (step_named file (name_parts_in ws) s))) w))

  -- the node's variables have values
  pub tasks_valued : {a c : ℕ} → a ≡ (node T n).first → c ≡ tasks_n (node T n) → (1 ≤ a) × (a + c ≤ 1 + length values)
  tasks_valued {a} {c} e f = (omega (arith, first_variable T u.there), omega (arith, last_variable T u.there, l.long))

  pub methods_valued : {a b c : ℕ} → a ≡ (node T n).first → b ≡ tasks_n (node T n) → c ≡ length (node T n).methods → (1 ≤ a + b) × (a + b + c ≤ 1 + length values)
  methods_valued {a} {b} {c} e f g = (omega (arith, first_variable T u.there), omega (arith, last_variable T u.there, l.long))

  -- A job
  module _ {a b c : ℕ} (p : a ≡ (node T n).first) (q : b ≡ tasks_n (node T n)) (d : c ≡ length (node T n).methods) where
    found : {x : ℕ} → x ≡ first_true (value_of values) (a + b) c → chosen (value_of values) (method_vars_at (node T n)) ≡ get_elem? (node T n).methods x
    found f = method_found (node T n) (value_of values) (f ∙ rw (p, q, d))

    pub no_method : (j : ℕ) → first_true (value_of values) (a + b) c ≡ c → WroteRows names o at k (job_rows T (value_of values) n j) o at k
    no_method j h =
        let e : chosen (value_of values) (method_vars_at (node T n)) ≡ none = found (sym h) ∙ elem_past (node T n).methods c (omega arith) in
        lists_same (ap (task_rows (node T n).jobs (record_at (records T) n).depth (some (job j))) (sym e)) (lists_none names o at k)

    pub job_listed : {x m e : ℕ} {name o' : List ℕ} (j : ℕ) → (x < c) × (x ≡ first_true (value_of values) (a + b) c) → m ≡ method_at (node T n) x → name ≡ name_at file (get_or (name_parts_in ws).jobs j no_part)
        → Wrote o at (job_line (get_or tree (5 * n) 0) name m) o' e → WroteRows names o at k (job_rows T (value_of values) n j) o' e k
    job_listed {x} {m} {e} {name} {o'} j h g z w =
        let y : chosen (value_of values) (method_vars_at (node T n)) ≡ some m = found h.1 ∙ elem_in (node T n).methods x (omega (arith, h.0)) ∙ ap (λ (i : ℕ). some i) (sym g) in
        lists_same (ap (task_rows (node T n).jobs (record_at (records T) n).depth (some (job j))) (sym y))
        (lists_job names (record_at (records T) n).depth j m
        (wrote_same (ap₂ (λ (i : ℕ) (y : List ℕ). job_line i y m) (depth_is T u.there l.words) (z ∙ sym (job_named file (name_parts_in ws) j))) w))

  pub depth_low : {ix : List ℕ} → Indexed T ix → 0 < length (node T n).jobs → get_or tree (5 * n) 0 < 10
  depth_low i h = omega (
    arith,
    depth_is T u.there l.words,
    depth_small T i.accepted u.there (get_or (node T n).jobs 0 0) (in_get_d 0 (node T n).jobs 0 h),
  )

  -- the word of the depth
  pub depth_read : 5 * n < length tree
  depth_read = depth_there T u.there l.words

  -- The node
  module _ {a c : ℕ} (p : a ≡ (node T n).first) (q : c ≡ tasks_n (node T n)) where
    task_at : {x : ℕ} → x ≡ first_true (value_of values) a c → chosen (value_of values) (tasks_at (node T n)) ≡ get_elem? (map step (node T n).steps ++ map job (node T n).jobs) x
    task_at f = task_found (node T n) (value_of values) (f ∙ rw (p, q))

    rows_by : (t : Option Task) → chosen (value_of values) (tasks_at (node T n)) ≡ t
        → task_rows (node T n).jobs (record_at (records T) n).depth t (chosen (value_of values) (method_vars_at (node T n))) ≡ rows_at T (value_of values) n
    rows_by t e = ap (λ (z : Option Task). task_rows (node T n).jobs (record_at (records T) n).depth z (chosen (value_of values) (method_vars_at (node T n)))) (sym e)

    pub nothing_listed : first_true (value_of values) a c ≡ c → WroteRows names o at k (rows_at T (value_of values) n) o at k
    nothing_listed h =
        lists_same (rows_by none (task_at (sym h) ∙ elem_past (map step (node T n).steps ++ map job (node T n).jobs) c (omega (arith, q, length_tasks (node T n).steps (node T n).jobs))))
        (lists_none names o at k)

    module _ {x d : ℕ} (h : (x < c) × (x ≡ first_true (value_of values) a c)) (s : d ≡ length (node T n).steps) {i e f : ℕ} {o' : List ℕ} where
      pub step_here : x < d → i ≡ get_or (node T n).steps x 0 → WroteRows names o at k (step_rows (node T n).jobs i) o' e f
          → WroteRows names o at k (rows_at T (value_of values) n) o' e f
      step_here z g =
          lists_same (rows_by (some (step i)) (task_at h.1 ∙ step_elem (node T n).steps (node T n).jobs x (omega arith) ∙ ap (λ (s : ℕ). some (step s)) (sym g)))

      pub job_here : d ≤ x → i ≡ get_or (node T n).jobs (x - d) 0 → WroteRows names o at k (job_rows T (value_of values) n i) o' e f
          → WroteRows names o at k (rows_at T (value_of values) n) o' e f
      job_here z g =
          let y : x ≡ length (node T n).steps + (x - d) = omega arith in
          lists_same (rows_by (some (job i)) (task_at h.1 ∙ ap (get_elem? (map step (node T n).steps ++ map job (node T n).jobs)) y
          ∙ job_elem (node T n).steps (node T n).jobs (x - d) (omega (arith, h.0, q)) ∙ ap (λ (j : ℕ). some (job j)) (sym g)))
