-- What is looked up of a node, and how large it is.
-- By the laws of the index and of the sizes of nodes.
use mathlib.Core.Path.{◌≡◌, sym, ap, ◌∙◌, subst}
use mathlib.Core.Bool.{Bool, true, false, cond}
use mathlib.Core.List.{List, [], ◌∷◌}
use Prim.Native.Nat.{ℕ, suc, ◌+◌, ◌≤◌, ◌<◌}
use native.Mathlib.Omega.{arith}
use lib.ListN.{length, get_or, take, drop, take-append-drop}
use Rattle.lists.specs.List.{Every, has, Rising}
use Rattle.lists.proofs.Member.{in_get_d}
use Rattle.lists.proofs.Rising.{rising_range, rising_filter}
use Rattle.bitset.specs.Set.{members}
use Rattle.planning.specs.Table.{Table, job_of}
use Rattle.planning.specs.Place.{methods_of}
use Rattle.planning.specs.Record.{Record, records}
use Rattle.planning.specs.Accepted.{Accepted}
use Rattle.planning.proofs.Record.{LabelIn, records_rising}
use Rattle.places.specs.Flat.{Node, inner, own_all, methods_at}
use Rattle.places.specs.ClausePlace.{child_at, width, tasks_n, method_at, method_var}
use Rattle.places.specs.Lookup.{record_at, first_var, no_record, slots_in}
use Rattle.places.proofs.Lookup.{every_at, node_at_lem, nodes_length, slots_length}
use Rattle.places.proofs.Records.{vars_records, own_all_append}
use Rattle.places.proofs.Small.{Sizes, sizes_at, records_children}
use Rattle.index.specs.Index.{source, index_of, nodes_in, slots_in as slotsWord, node_word_in, meaning_in, Few, ChildAt}
use Rattle.index.proofs.Known.{word_members, nodes_count, first_in, steps_in_lem, jobs_in_lem}
use Rattle.index.proofs.Known.{step_count_in, job_count_in, method_count_in, child_count_in, child_in}
use Rattle.index.proofs.Looked.{step_meaning, job_meaning, method_meaning, child_at_lem}
use Rattle.shape.specs.Shape.{Indexed, node, InNode}

rising_at : (n x : ℕ) (xs : List ℕ) → Rising 0 n xs → x < length xs → get_or xs x 0 < n
rising_at n x xs r h = (rising_range 0 n xs r (get_or xs x 0) (in_get_d x xs 0 h)).1

module _ (T : Table) (a : Accepted T) where
  labels : Every (λ (r : Record). LabelIn T r.label) (records T)
  labels = records_rising T a.sound.root

  pub sizes : (n : ℕ) → Sizes (node T n)
  sizes n = sizes_at T a.limits (records T) labels (records_children T a.limits a.sound.root) n

  pub few_nodes : length (source T).nodes ≤ 1024
  few_nodes = omega (arith, nodes_count T, a.few_nodes)

  slots_few : (rs : List Record) → slots_in T rs ≤ length rs
  slots_few [] = omega arith
  slots_few (r ∷ rs) = go (inner T r) (slots_few rs)
    where
      go : (b : Bool) → slots_in T rs ≤ length rs → cond b 0 1 + slots_in T rs ≤ suc (length rs)
      go true h = omega arith
      go false h = omega arith

  pub few_slots : length (source T).slots ≤ 1024
  few_slots = omega (arith, slots_length T (records T) 1, slots_few (records T), nodes_length T (records T) 0 1, few_nodes)

  first_most : (n : ℕ) → first_var T (records T) n ≤ 8192
  first_most n =
      let e : own_all T (records T) ≡ own_all T (take n (records T)) + own_all T (drop n (records T)) =
      ap (own_all T) (sym (take-append-drop n (records T))) ∙ own_all_append T (take n (records T)) (drop n (records T)) in
      omega (arith, e, vars_records T, a.few_variables)

  methods_rising : (r : Record) → Rising 0 (length T.methods) (methods_at T r)
  methods_rising r = go (inner T r)
    where
      go : (b : Bool) → Rising 0 (length T.methods) (cond b (methods_of T r.label.jobs) [])
      go true = rising_filter (λ m. has r.label.jobs (job_of T m)) (length T.methods)
      go false = tt

  module _ (n : ℕ) (h : n < length (source T).nodes) where
    inside : n < length (records T)
    inside = omega (arith, h, nodes_length T (records T) 0 1)

    pub node_steps : Rising 0 (length T.steps) (node T n).steps
    node_steps = subst (λ (N : Node). Rising 0 (length T.steps) N.steps) (sym (node_at_lem T (records T) n inside))
        (every_at (λ (r : Record). LabelIn T r.label) (records T) no_record n labels inside).steps

    pub node_jobs : Rising 0 T.jobs (node T n).jobs
    node_jobs = subst (λ (N : Node). Rising 0 T.jobs N.jobs) (sym (node_at_lem T (records T) n inside)) (go (inner T (record_at (records T) n)))
      where
        go : (b : Bool) → Rising 0 T.jobs (cond b (record_at (records T) n).label.jobs [])
        go true = (every_at (λ (r : Record). LabelIn T r.label) (records T) no_record n labels inside).jobs
        go false = tt

    pub method_small : (x : ℕ) → x < length (node T n).methods → method_at (node T n) x < 128
    method_small x l =
        let r = subst (λ (N : Node). Rising 0 (length T.methods) N.methods) (sym (node_at_lem T (records T) n inside))
        (methods_rising (record_at (records T) n)) in
        omega (arith, rising_at (length T.methods) x (node T n).methods r l, a.limits.methods)

    pub step_small : (x : ℕ) → x < length (node T n).steps → get_or (node T n).steps x 0 < 64
    step_small x l = omega (arith, rising_at (length T.steps) x (node T n).steps node_steps l, a.limits.steps)

    pub first_range : (1 ≤ (node T n).first) × ((node T n).first ≤ 8192)
    first_range =
        let e : (node T n).first ≡ first_var T (records T) n = ap (λ (N : Node). N.first) (node_at_lem T (records T) n inside) in
        (omega (arith, e), omega (arith, e, first_most n))

-- What the code looks up -----------------------------------------------------------------------------------------------------
pub few : {T : Table} {ix : List ℕ} → Indexed T ix → Few ix
few {T} {ix} i = rw i.index (record { nodes = few_nodes T i.accepted; slots = few_slots T i.accepted })

module _ {T : Table} {ix : List ℕ} {n : ℕ} (i : InNode T ix n) where
  acc : Accepted T
  acc = i.indexed.accepted

  pub few_node : n < 1024
  few_node = omega (arith, i.there, few_nodes T acc)

  -- a word of the index, as the table's
  word_of : (k : ℕ) → node_word_in ix n k ≡ node_word_in (index_of T) n k
  word_of k = ap (λ (l : List ℕ). node_word_in l n k) i.indexed.index

  pub first_is : {r : ℕ} → r ≡ node_word_in ix n 0 → (r ≡ (node T n).first) × (1 ≤ r) × (r ≤ 8192)
  first_is {r} e =
      let q : r ≡ (node T n).first = e ∙ word_of 0 ∙ first_in T n i.there in
      (q, omega (arith, (first_range T acc n i.there).0), omega (arith, (first_range T acc n i.there).1))

  pub steps_is : {r : ℕ} → r ≡ node_word_in ix n 3 → (r ≡ length (node T n).steps) × (r ≤ 64)
  steps_is {r} e = let q : r ≡ length (node T n).steps = e ∙ word_of 3 ∙ step_count_in T n i.there in (q, omega (arith, (sizes T acc n).steps))

  pub jobs_is : {r : ℕ} → r ≡ node_word_in ix n 4 → (r ≡ length (node T n).jobs) × (r ≤ 64)
  jobs_is {r} e = let q : r ≡ length (node T n).jobs = e ∙ word_of 4 ∙ job_count_in T n i.there in (q, omega (arith, (sizes T acc n).jobs))

  pub methods_is : {r : ℕ} → r ≡ node_word_in ix n 5 → (r ≡ length (node T n).methods) × (r ≤ 128)
  methods_is {r} e = let q : r ≡ length (node T n).methods = e ∙ word_of 5 ∙ method_count_in T n i.there in (q, omega (arith, (sizes T acc n).methods))

  pub children_is : {r : ℕ} → r ≡ node_word_in ix n 6 → (r ≡ length (node T n).children) × (r ≤ 8)
  children_is {r} e = let q : r ≡ length (node T n).children = e ∙ word_of 6 ∙ child_count_in T n i.there in (q, omega (arith, (sizes T acc n).children))

  pub few_children : (y : ℕ) → y < length (node T n).children → y < 8
  few_children y h = omega (arith, (sizes T acc n).children)

  pub child_known : (y : ℕ) → y < length (node T n).children → ChildAt T n y
  child_known y h = child_at_lem T acc.sound.root n y i.there h

  pub child_is : {r : ℕ} (y : ℕ) → y < length (node T n).children → r ≡ node_word_in ix n (7 + y)
      → (r ≡ (child_at (node T n) y).node) × (r < length (source T).nodes)
  child_is {r} y h e =
      let q : r ≡ (child_at (node T n) y).node = e ∙ word_of (7 + y) ∙ child_in T n i.there y (few_children y h) in
      (q, omega (arith, (child_known y h).inside))

  -- child y as a node
  pub in_child : {c : ℕ} → c < length (source T).nodes → InNode T ix c
  in_child h = record { indexed = i.indexed; there = h }

  pub width_is : {r c : ℕ} (y : ℕ) → y < length (node T n).children → c ≡ (child_at (node T n) y).node → r ≡ tasks_n (node T c)
      → r ≡ width (child_at (node T n) y)
  width_is {r} {c} y h e f =
      let k = child_known y h in
      f ∙ rw (e, k.steps, k.jobs)

  pub method_is : {r v x : ℕ} → x < length (node T n).methods → v ≡ method_var (node T n) x → r ≡ meaning_in ix v → (r ≡ method_at (node T n) x) × (r < 128)
  method_is {r} {v} {x} h p e =
      let s : r ≡ method_at (node T n) x = e ∙ rw (p, i.indexed.index) (method_meaning T n i.there x h) in
      (s, omega (arith, method_small T acc n i.there x h))

  pub step_is : {r v : ℕ} (x : ℕ) → x < length (node T n).steps → v ≡ (node T n).first + x → r ≡ meaning_in ix v → r ≡ get_or (node T n).steps x 0
  step_is {r} {v} x h p q = q ∙ rw (p, i.indexed.index) (step_meaning T n i.there x h)

  pub job_is : {r v : ℕ} (x : ℕ) → x < length (node T n).jobs → v ≡ (node T n).first + length (node T n).steps + x → r ≡ meaning_in ix v
      → r ≡ get_or (node T n).jobs x 0
  job_is {r} {v} x h p q =
      let e : v ≡ (node T n).first + (length (node T n).steps + x) = omega arith in
      q ∙ rw (e, i.indexed.index) (job_meaning T n i.there x h)

  -- child y is a node
  pub child_first : {c r : ℕ} (y k : ℕ) → y < length (node T n).children → c ≡ (child_at (node T n) y).node → r ≡ (node T c).first + k
      → r ≡ (child_at (node T n) y).first + k
  child_first {c} {r} y k h e f = f ∙ rw (e, (child_known y h).first)

  pub few_jobs : length (node T n).jobs ≤ 64
  few_jobs = (sizes T acc n).jobs

  -- the words of its sets
  pub steps_word : {w : ℕ} → w ≡ node_word_in ix n 1 → members (w ∷ []) ≡ (node T n).steps
  steps_word {w} e =
      ap (λ (k : ℕ). members (k ∷ [])) (e ∙ word_of 1 ∙ steps_in_lem T n i.there)
      ∙ word_members (length T.steps) (node T n).steps acc.limits.steps (node_steps T acc n i.there)

  pub jobs_word : {w : ℕ} → w ≡ node_word_in ix n 2 → members (w ∷ []) ≡ (node T n).jobs
  jobs_word {w} e =
      ap (λ (k : ℕ). members (k ∷ [])) (e ∙ word_of 2 ∙ jobs_in_lem T n i.there)
      ∙ word_members T.jobs (node T n).jobs acc.limits.jobs (node_jobs T acc n i.there)

  pub few_steps : length (node T n).steps ≤ 64
  few_steps = (sizes T acc n).steps

  pub few_methods : length (node T n).methods ≤ 128
  few_methods = (sizes T acc n).methods

-- how many nodes and slots
pub nodes_is : {T : Table} {ix : List ℕ} {k : ℕ} → Indexed T ix → k ≡ nodes_in ix → (k ≡ length (source T).nodes) × (k ≤ 1024)
nodes_is {T} {ix} {k} i e = let q : k ≡ length (source T).nodes = e ∙ ap nodes_in i.index in (q, omega (arith, few_nodes T i.accepted))

pub slots_is : {T : Table} {ix : List ℕ} {k : ℕ} → Indexed T ix → k ≡ slotsWord ix → (k ≡ length (source T).slots) × (k ≤ 1024)
slots_is {T} {ix} {k} i e = let q : k ≡ length (source T).slots = e ∙ ap slotsWord i.index in (q, omega (arith, few_slots T i.accepted))
