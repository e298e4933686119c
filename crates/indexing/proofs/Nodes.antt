-- What the words of a record are, and what the index has of its node.
-- By the blocks of five words, and by looking up the node.
use mathlib.Core.Path.{◌≡◌, refl, sym, ap, ap₂, ◌∙◌}
use mathlib.Core.Bool.{Bool, true, false, cond}
use mathlib.Core.List.{List, [], ◌∷◌, ◌++◌, map, map-append}
use Prim.Native.Nat.{ℕ, suc, ◌+◌, ◌*◌, ◌/◌, ◌≤◌, ◌<◌}
use native.Mathlib.Omega.{arith}
use lib.ListN.{length, get_or, take, drop, length-append, get_or-append, get_or-map, take-append-drop}
use lib.Seq.{get_or-append-add}
use borrow.Author.Tests.{lt-ltb, le-ltb}
use Rattle.lists.specs.List.{filter, has, up_to, Rising}
use Rattle.bitset.specs.Set.{set_of}
use Rattle.bitset.proofs.Promises.{promises}
use Rattle.planning.specs.Table.{Table, job_of}
use Rattle.planning.specs.Place.{Place, slot, inner, Places, stop, also, methods_of, root_place, nodes, count}
use Rattle.planning.specs.Record.{Record, records, records_at, records_below}
use Rattle.planning.specs.Variable.{part_vars, own_vars}
use Rattle.planning.proofs.Record.{LabelIn, records_rising}
use Rattle.places.specs.Flat.{Node, non_empty, inner as innerRecord, own, own_all, jobs_at, methods_at, node_of}
use Rattle.places.specs.ClausePlace.{no_node}
use Rattle.places.specs.Lookup.{no_record, record_at, first_var}
use Rattle.places.proofs.Lookup.{node_at_lem, nodes_length, first_next, every_at}
use Rattle.places.proofs.Records.{kids, tree_nodes, trees_nodes, nodes_records, vars_records, own_all_append}
use Rattle.tree.specs.Words.{record_words}
use Rattle.tree.specs.Visit.{members_in, some_in, Known}
use Rattle.index.specs.Index.{word_of, source}
use Rattle.index.proofs.Blocks.{fives, length_fives}
use Rattle.index.proofs.Known.{nodes_count, word_members}
use Rattle.indexing.specs.Stands.{Stands, AtNode, node}

-- Words of a record --------------------------------------------------------------------------------------------------------------
set_one : (xs : List ℕ) → length (set_of 1 xs) ≡ 1
set_one [] = refl
set_one (x ∷ xs) = promises.insert_length (set_of 1 xs) x ∙ set_one xs

record_width : (r : Record) → length (record_words r) ≡ 5
record_width r = omega (arith, length-append (set_of 1 r.label.steps) (set_of 1 r.label.jobs), set_one r.label.steps, set_one r.label.jobs)

steps_behind : (r : Record) → get_or (record_words r) 3 0 ≡ word_of r.label.steps
steps_behind r = get_or-append (set_of 1 r.label.steps) (set_of 1 r.label.jobs) 0 0 (omega (arith, set_one r.label.steps))

jobs_behind : (r : Record) → get_or (record_words r) 4 0 ≡ word_of r.label.jobs
jobs_behind r =
    let s = set_of 1 r.label.steps in
    let j = set_of 1 r.label.jobs in
    let e : ◌≡◌ {A = ℕ} 1 (length s + 0) = omega (arith, set_one r.label.steps) in
    ap (λ (i : ℕ). get_or (s ++ j) i 0) e ∙ get_or-append-add s j 0 0

-- How many ---------------------------------------------------------------------------------------------------------------------------
pub known : {T : Table} {ws : List ℕ} → Stands T ws → Known T
known s = record { sound = s.accepted.sound; limits = s.accepted.limits }

module _ {T : Table} {ws : List ℕ} (s : Stands T ws) where
  pub node_count_lem : length ws / 5 ≡ length (source T).nodes
  node_count_lem =
      let e : length ws ≡ 5 * length (records T) = ap length s.tree ∙ length_fives record_words no_record record_width (records T) in
      omega (arith, e, nodes_length T (records T) 0 1)

  pub node_most : length (source T).nodes ≤ 1024
  node_most = omega (arith, nodes_count T, s.accepted.few_nodes)

  pub at_node : {n : ℕ} → n < length ws / 5 → AtNode T ws n
  at_node {n} h = record { stands = s; inside = omega (arith, h, node_count_lem) }

  pub variables_most : own_all T (records T) ≤ 8191
  variables_most = omega (arith, vars_records T, s.accepted.few_variables)

  front_most : (n : ℕ) → own_all T (take n (records T)) ≤ 8191
  front_most n =
      let rs = records T in
      let e = ap (own_all T) (take-append-drop n rs) in
      omega (arith, variables_most, e, own_all_append T (take n rs) (drop n rs))

  pub first_most : (n : ℕ) → first_var T (records T) n ≤ 8192
  first_most n = omega (arith, front_most n)

-- A node's record ------------------------------------------------------------------------------------------------------------------
some_same : (xs : List ℕ) → some_in xs ≡ non_empty xs
some_same [] = refl
some_same (x ∷ xs) = refl

-- with no job there is no method
no_methods : (T : Table) → methods_of T [] ≡ []
no_methods T = none (up_to (length T.methods))
  where
    none : (ms : List ℕ) → filter (λ m. has [] (job_of T m)) ms ≡ []
    none [] = refl
    none (m ∷ ms) = none ms

methods_at_lem : (T : Table) (r : Record) → methods_of T (jobs_at T r) ≡ methods_at T r
methods_at_lem T r = go (innerRecord T r)
  where
    go : (b : Bool) → methods_of T (cond b r.label.jobs []) ≡ cond b (methods_of T r.label.jobs) []
    go true = refl
    go false = no_methods T

-- the children of each node are as many as its record says
module _ (T : Table) where
  kids_count : (ps : Places) (n b : ℕ) → length (kids T ps n b) ≡ count ps
  kids_count stop n b = refl
  kids_count (also p ps) n b = ap suc (kids_count ps (n + nodes p) (b + part_vars T p))

  mutual
    counts : (p : Place) (d u n b : ℕ) → map (λ (N : Node). length N.children) (tree_nodes T p n b) ≡ map (λ (r : Record). r.children) (records_at p d u n)
    counts (slot L) d u n b = refl
    counts (inner L ps) d u n b =
        ap₂ (λ (k : ℕ) (l : List ℕ). k ∷ l) (kids_count ps (suc n) (b + own_vars T (inner L ps)))
        (counts_each ps (suc d) n (suc n) (b + own_vars T (inner L ps)))

    counts_each : (ps : Places) (d u n b : ℕ) → map (λ (N : Node). length N.children) (trees_nodes T ps n b)
        ≡ map (λ (r : Record). r.children) (records_below ps d u n)
    counts_each stop d u n b = refl
    counts_each (also p ps) d u n b =
        map-append (λ (N : Node). length N.children) (tree_nodes T p n b) (trees_nodes T ps (n + nodes p) (b + part_vars T p))
        ∙ ap₂ (λ (k l : List ℕ). k ++ l) (counts p d u n b) (counts_each ps d u (n + nodes p) (b + part_vars T p))
        ∙ sym (map-append (λ (r : Record). r.children) (records_at p d u n) (records_below ps d u (n + nodes p)))

  pub child_count : (n : ℕ) → length (node T n).children ≡ (record_at (records T) n).children
  child_count n =
      sym (get_or-map (λ (N : Node). length N.children) (source T).nodes n no_node)
      ∙ ap (λ (l : List ℕ). get_or l n 0) (ap (map (λ (N : Node). length N.children)) (nodes_records T) ∙ counts (root_place T) 0 0 0 1)
      ∙ get_or-map (λ (r : Record). r.children) (records T) n no_record

module _ {T : Table} {ws : List ℕ} {n : ℕ} (a : AtNode T ws n) where
  pub inside : n < length (records T)
  inside = omega (arith, a.inside, nodes_length T (records T) 0 1)

  pub few : n < 1024
  few = omega (arith, a.inside, node_most a.stands)

  pub node_is : node T n ≡ node_of T n (first_var T (records T) n) (record_at (records T) n) (drop (suc n) (records T))
  node_is = node_at_lem T (records T) n inside

  word_at : (k : ℕ) → k < 5 → get_or ws (5 * n + k) 0 ≡ get_or (record_words (record_at (records T) n)) k 0
  word_at k h = ap (λ (l : List ℕ). get_or l (5 * n + k) 0) a.stands.tree ∙ fives record_words no_record record_width (records T) n k inside h

  label : LabelIn T (record_at (records T) n).label
  label = every_at (λ (r : Record). LabelIn T r.label) (records T) no_record n (records_rising T a.stands.accepted.sound.root) inside

  -- the words of its record
  depth_word : get_or ws (5 * n + 0) 0 ≡ (record_at (records T) n).depth
  depth_word = word_at 0 (omega arith)

  pub parent_word : get_or ws (5 * n + 1) 0 ≡ (record_at (records T) n).parent
  parent_word = word_at 1 (omega arith)

  pub children_word : get_or ws (5 * n + 2) 0 ≡ length (node T n).children
  children_word = word_at 2 (omega arith) ∙ sym (child_count T n)

  steps_word : get_or ws (5 * n + 3) 0 ≡ word_of (node T n).steps
  steps_word = word_at 3 (omega arith) ∙ steps_behind (record_at (records T) n) ∙ ap (λ (N : Node). word_of N.steps) (sym node_is)

  jobs_word : get_or ws (5 * n + 4) 0 ≡ word_of (record_at (records T) n).label.jobs
  jobs_word = word_at 4 (omega arith) ∙ jobs_behind (record_at (records T) n)

  -- the sets in them
  steps_rise : Rising 0 (length T.steps) (node T n).steps
  steps_rise = rw (ap (λ (N : Node). N.steps) node_is) label.steps

  pub steps_in_lem : members_in (word_of (node T n).steps) ≡ (node T n).steps
  steps_in_lem = word_members (length T.steps) (node T n).steps a.stands.accepted.limits.steps steps_rise

  jobs_rise : Rising 0 T.jobs (node T n).jobs
  jobs_rise = rw (ap (λ (N : Node). N.jobs) node_is) (go (innerRecord T (record_at (records T) n)))
    where
      go : (b : Bool) → Rising 0 T.jobs (cond b (record_at (records T) n).label.jobs [])
      go true = label.jobs
      go false = tt

  pub jobs_in_lem : members_in (word_of (node T n).jobs) ≡ (node T n).jobs
  jobs_in_lem = word_members T.jobs (node T n).jobs a.stands.accepted.limits.jobs jobs_rise

  all_jobs_in : members_in (word_of (record_at (records T) n).label.jobs) ≡ (record_at (records T) n).label.jobs
  all_jobs_in = word_members T.jobs (record_at (records T) n).label.jobs a.stands.accepted.limits.jobs label.jobs

  pub methods_in_lem : methods_of T (members_in (word_of (node T n).jobs)) ≡ (node T n).methods
  methods_in_lem =
      ap (methods_of T) (jobs_in_lem ∙ ap (λ (N : Node). N.jobs) node_is) ∙ methods_at_lem T (record_at (records T) n)
      ∙ ap (λ (N : Node). N.methods) (sym node_is)

  -- `is_inner`: w and d are the record's depth and the table's, v its jobs
  pub inner_yes : {w d v : ℕ} {r : Bool} → w ≡ get_or ws (5 * n + 0) 0 → d ≡ T.depth → w < d → v ≡ get_or ws (5 * n + 4) 0 → r ≡ some_in (members_in v)
      → r ≡ innerRecord T (record_at (records T) n)
  inner_yes {w} {d} {v} {r} e f h g q =
      let l : (record_at (records T) n).depth < T.depth = omega (arith, e, f, depth_word) in
      let j : some_in (members_in v) ≡ non_empty (record_at (records T) n).label.jobs =
      ap (λ (k : ℕ). some_in (members_in k)) (g ∙ jobs_word) ∙ ap some_in all_jobs_in ∙ some_same (record_at (records T) n).label.jobs in
      rw (lt-ltb (record_at (records T) n).depth T.depth l) (q ∙ j)

  pub inner_no : {w d : ℕ} → w ≡ get_or ws (5 * n + 0) 0 → d ≡ T.depth → d ≤ w → false ≡ innerRecord T (record_at (records T) n)
  inner_no {w} {d} e f h =
      let l : T.depth ≤ (record_at (records T) n).depth = omega (arith, e, f, depth_word) in
      rw (le-ltb (record_at (records T) n).depth T.depth l)

  -- `jobs_at`
  pub jobs_yes : {i : Bool} {v : ℕ} → i ≡ innerRecord T (record_at (records T) n) → i ≡ true → v ≡ get_or ws (5 * n + 4) 0 → v ≡ word_of (node T n).jobs
  jobs_yes {i} {v} e f g =
      g ∙ jobs_word ∙ ap (λ (b : Bool). word_of (cond b (record_at (records T) n).label.jobs [])) (sym f ∙ e)
      ∙ ap (λ (N : Node). word_of N.jobs) (sym node_is)

  pub jobs_no : {i : Bool} → i ≡ innerRecord T (record_at (records T) n) → i ≡ false → 0 ≡ word_of (node T n).jobs
  jobs_no {i} e f =
      ap (λ (b : Bool). word_of (cond b (record_at (records T) n).label.jobs [])) (sym f ∙ e) ∙ ap (λ (N : Node). word_of N.jobs) (sym node_is)

  -- how many steps, jobs and methods have a variable there
  pub step_count : {v x : ℕ} → v ≡ get_or ws (5 * n + 3) 0 → x ≡ length (members_in v) → x ≡ length (node T n).steps
  step_count e f = f ∙ ap (λ (k : ℕ). length (members_in k)) (e ∙ steps_word) ∙ ap length steps_in_lem

  pub job_count : {j y : ℕ} → j ≡ word_of (node T n).jobs → y ≡ length (members_in j) → y ≡ length (node T n).jobs
  job_count e f = f ∙ ap (λ (k : ℕ). length (members_in k)) e ∙ ap length jobs_in_lem

  pub method_count : {j z : ℕ} → j ≡ word_of (node T n).jobs → z ≡ length (methods_of T (members_in j)) → z ≡ length (node T n).methods
  method_count e f = f ∙ ap (λ (k : ℕ). length (methods_of T (members_in k))) e ∙ ap length methods_in_lem

  pub own_count : {x y z : ℕ} → x ≡ length (node T n).steps → y ≡ length (node T n).jobs → z ≡ length (node T n).methods
      → x + y + z ≡ own T (record_at (records T) n)
  own_count e f g = rw (e, f, g) (ap (λ (N : Node). length N.steps + length N.jobs + length N.methods) node_is)

  pub steps_same : {v : ℕ} → v ≡ get_or ws (5 * n + 3) 0 → v ≡ word_of (node T n).steps
  steps_same e = e ∙ steps_word

  -- one node on
  pub first_on : first_var T (records T) (n + 1) ≡ first_var T (records T) n + own T (record_at (records T) n)
  first_on = let e : n + 1 ≡ suc n = omega arith in ap (first_var T (records T)) e ∙ first_next T (records T) n inside

  pub first_is : (node T n).first ≡ first_var T (records T) n
  first_is = ap (λ (N : Node). N.first) node_is
