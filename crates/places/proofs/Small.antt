-- Within the document's limits every loop is short: what the code needs for its sums, its arrays and its measure.
-- A node's sizes from the sets in its record, which rise; then group by group.
use mathlib.Core.Path.{sym, subst}
use mathlib.Core.Bool.{Bool, true, false, ◌&&◌, cond}
use mathlib.Core.List.{List, [], ◌∷◌}
use mathlib.Core.Logic.{◌⊎◌, inl, inr}
use Prim.Native.Nat.{ℕ, zero, suc, ◌+◌, ◌-◌, ◌≤◌, ◌<◌}
use native.Mathlib.Omega.{arith}
use lib.ListN.{length, get_or, drop, get_or-eq_default}
use lib.Dec.{eqb, ltb}
use Rattle.lists.specs.List.{Every, number, up_to, has, Rising}
use Rattle.lists.proofs.Member.{length_filter}
use Rattle.lists.proofs.Every.{every_get_d, every_append}
use Rattle.lists.proofs.Number.{length_from, number_length}
use Rattle.lists.proofs.Order.{le_or_lt}
use Rattle.planning.specs.Table.{Table, step_of, Limits}
use Rattle.planning.specs.Clause.{facts_that, drops}
use Rattle.planning.specs.Place.{Place, slot, inner, Places, stop, also, methods_of, root_place, nodes}
use Rattle.planning.specs.Record.{Record, records_at, records_below, records}
use Rattle.planning.proofs.Record.{LabelIn}
use Rattle.planning.proofs.Sizes.Sized.{Sized, SizedEach, methods_length, root_sized}
use Rattle.places.specs.Flat.{inner as innerNode, jobs_at, methods_at, own, Child, child_of, children_from, Node, nodes_from, slots_from}
use Rattle.places.specs.ClausePlace.{no_child, no_node, child_at, width, node_at, slot_at, Group, no_group, named_at, node_groups, effect_facts, slot_groups, group_at, nodes_in, row_len, source_of}
use Rattle.places.specs.Lookup.{no_record, record_at, first_var}
use Rattle.places.proofs.Lookup.{node_at_lem, nodes_length}
use Rattle.places.proofs.Lookup.{node_in, child_in, every_at}

pub rising_length : (k n : ℕ) (xs : List ℕ) → Rising k n xs → length xs ≤ n - k
rising_length k n [] r = omega arith
rising_length k n (x ∷ xs) r = omega (arith, r.0, r.1, rising_length (suc x) n xs r.2)

pub children_length : (T : Table) (u k n b : ℕ) (rs : List Record) → length (children_from T u k n b rs) ≤ k
children_length T u zero n b rs = omega arith
children_length T u (suc k) n b [] = omega arith
children_length T u (suc k) n b (r ∷ rs) = go (eqb r.parent u) (children_length T u k (suc n) (b + own T r) rs) (children_length T u (suc k) (suc n) (b + own T r) rs)
  where
    go : (t : Bool) → length (children_from T u k (suc n) (b + own T r) rs) ≤ k → length (children_from T u (suc k) (suc n) (b + own T r) rs) ≤ suc k
        → length (cond t (child_of T n b r ∷ children_from T u k (suc n) (b + own T r) rs) (children_from T u (suc k) (suc n) (b + own T r) rs)) ≤ suc k
    go true h l = omega arith
    go false h l = l

-- At most 8 children --------------------------------------------------------------------------------------------------------
module _ (S J C : ℕ) where
  mutual
    few_at : (p : Place) (d u n : ℕ) → Sized S J C p → Every (λ (r : Record). r.children ≤ C) (records_at p d u n)
    few_at (slot L) d u n h = (omega arith, tt)
    few_at (inner L ps) d u n h = (h.0.1, few_below ps (suc d) n (suc n) h.1)

    few_below : (ps : Places) (d u n : ℕ) → SizedEach S J C ps → Every (λ (r : Record). r.children ≤ C) (records_below ps d u n)
    few_below stop d u n h = tt
    few_below (also p ps) d u n h =
        every_append (λ (r : Record). r.children ≤ C) (records_at p d u n) (records_below ps d u (n + nodes p)) (few_at p d u n h.0) (few_below ps d u (n + nodes p) h.1)

pub records_children : (T : Table) → Limits T → T.root < T.jobs → Every (λ (r : Record). r.children ≤ 8) (records T)
records_children T limits h = few_at (length T.steps) T.jobs 8 (root_place T) 0 0 0 (root_sized T 8 (omega arith) limits.bodies (omega arith))

-- A node's sizes -----------------------------------------------------------------------------------------------------------
pub record Sizes (N : Node) : Type 0 where
  pub steps : length N.steps ≤ 64
  pub jobs : length N.jobs ≤ 64
  pub methods : length N.methods ≤ 128
  pub children : length N.children ≤ 8
  pub widths : (y : ℕ) → width (child_at N y) ≤ 128

-- every group has at most 128 columns of at most 8 rows of at most 128 clauses
pub record Short (G : Group) : Type 0 where
  pub xs : G.xs ≤ 128
  pub ys : G.ys ≤ 8
  pub len : (x y : ℕ) → G.len x y ≤ 128

module _ (T : Table) (limits : Limits T) (rs : List Record) (labels : Every (λ (r : Record). LabelIn T r.label) rs) (eights : Every (λ (r : Record). r.children ≤ 8) rs) where
  steps_few : (n : ℕ) → n < length rs → length (record_at rs n).label.steps ≤ 64
  steps_few n h =
      let l = every_at (λ (r : Record). LabelIn T r.label) rs no_record n labels h in
      omega (arith, limits.steps, rising_length 0 (length T.steps) (record_at rs n).label.steps l.steps)

  jobs_few : (n : ℕ) → n < length rs → length (jobs_at T (record_at rs n)) ≤ 64
  jobs_few n h = go (innerNode T (record_at rs n))
    where
      go : (b : Bool) → length (cond b (record_at rs n).label.jobs []) ≤ 64
      go true = let l = every_at (λ (r : Record). LabelIn T r.label) rs no_record n labels h in
          omega (arith, limits.jobs, rising_length 0 T.jobs (record_at rs n).label.jobs l.jobs)
      go false = omega arith

  methods_few : (n : ℕ) → length (methods_at T (record_at rs n)) ≤ 128
  methods_few n = go (innerNode T (record_at rs n))
    where
      go : (b : Bool) → length (cond b (methods_of T (record_at rs n).label.jobs) []) ≤ 128
      go true = omega (arith, limits.methods, methods_length T (record_at rs n).label.jobs)
      go false = omega arith

  width_few : (n : ℕ) → n < length rs → (y : ℕ) → width (child_at (node_in T rs labels n) y) ≤ 128
  width_few n h y = go (le_or_lt (length (node_in T rs labels n).children) y)
    where
      go : (length (node_in T rs labels n).children ≤ y) ⊎ (y < length (node_in T rs labels n).children) → width (child_at (node_in T rs labels n) y) ≤ 128
      go (inl l) = subst (λ (C : Child). width C ≤ 128) (sym (get_or-eq_default (node_in T rs labels n).children no_child {n = y} l)) (omega arith)
      go (inr l) =
          let k = child_in T rs labels n h y l in
          let c = (child_at (node_in T rs labels n) y).node in
          subst (λ (C : Child). width C ≤ 128) (sym k.all) (omega (arith, steps_few c k.inside, jobs_few c k.inside))

  pub sizes_in : (n : ℕ) → n < length rs → Sizes (node_in T rs labels n)
  sizes_in n h = record {
    steps = steps_few n h;
    jobs = jobs_few n h;
    methods = methods_few n;
    children = omega (
      arith,
      children_length T n (record_at rs n).children (suc n) (first_var T rs n + own T (record_at rs n)) (drop (suc n) rs),
      every_at (λ (r : Record). r.children ≤ 8) rs no_record n eights h,
    );
    widths = width_few n h;
  }

  no_sizes : Sizes no_node
  no_sizes = record { steps = omega arith; jobs = omega arith; methods = omega arith; children = omega arith; widths = λ y. omega arith }

  -- also where there is no such node
  pub sizes_at : (n : ℕ) → Sizes (node_at (source_of T rs) n)
  sizes_at n = go (le_or_lt (length rs) n)
    where
      go : (length rs ≤ n) ⊎ (n < length rs) → Sizes (node_at (source_of T rs) n)
      go (inl l) = subst Sizes (sym (get_or-eq_default (nodes_from T 0 1 rs) no_node {n = n} (omega (arith, nodes_length T rs 0 1)))) no_sizes
      go (inr l) = subst Sizes (sym (node_at_lem T rs n l)) (sizes_in n l)

  -- The loops' limits -----------------------------------------------------------------------------------------------------------
  slots_few : (qs : List Record) (b : ℕ) → Every (λ (r : Record). LabelIn T r.label) qs → Every (λ (xs : List (ℕ × ℕ)). length xs ≤ 64) (slots_from T b qs)
  slots_few [] b e = tt
  slots_few (r ∷ qs) b e = go (innerNode T r) (slots_few qs (b + own T r) e.1)
    where
      go : (t : Bool) → Every (λ (xs : List (ℕ × ℕ)). length xs ≤ 64) (slots_from T (b + own T r) qs)
          → Every (λ (xs : List (ℕ × ℕ)). length xs ≤ 64) (cond t (slots_from T (b + own T r) qs) (number b r.label.steps ∷ slots_from T (b + own T r) qs))
      go true h = h
      go false h = (omega (arith, number_length b r.label.steps, limits.steps, rising_length 0 (length T.steps) r.label.steps e.0.steps), h)

  slot_few : (n : ℕ) → length (slot_at (source_of T rs) n) ≤ 64
  slot_few n = every_get_d (λ (xs : List (ℕ × ℕ)). length xs ≤ 64) (slots_from T 1 rs) [] (slots_few rs 1 labels) (omega arith) n

  facts_few : (p : ℕ → Bool) → length (facts_that T p) ≤ 64
  facts_few p = omega (arith, limits.facts, length_filter p (up_to T.facts), length_from 0 T.facts)

  effects_few : (s y : ℕ) → length (effect_facts T s y) ≤ 64
  effects_few s zero = facts_few (has (step_of T s).needs)
  effects_few s (suc zero) = facts_few (has (step_of T s).sets)
  effects_few s (suc (suc zero)) = facts_few (drops (step_of T s))
  effects_few s (suc (suc (suc y))) = omega arith

  one_or : (b : Bool) (w : ℕ) → w ≤ 128 → cond b 1 w ≤ 128
  one_or true w h = omega arith
  one_or false w h = h

  short_node : (n : ℕ) (N : Node) → Sizes N → (g : ℕ) → Short (get_or (node_groups T n N) g no_group)
  short_node n N s zero = record { xs = omega (arith, s.steps, s.jobs); ys = omega arith; len = λ x y. omega (arith, s.steps, s.jobs) }
  short_node n N s (suc zero) = record { xs = s.methods; ys = omega arith; len = λ x y. omega (arith, s.methods) }
  short_node n N s (suc (suc zero)) = record { xs = omega arith; ys = omega arith; len = λ x y. omega (arith, s.jobs) }
  short_node n N s (suc (suc (suc zero))) = record { xs = omega arith; ys = omega arith; len = λ x y. omega (arith, s.methods) }
  short_node n N s (suc (suc (suc (suc zero)))) = record { xs = s.methods; ys = s.children; len = λ x y. one_or (named_at T N x y) (width (child_at N y)) (s.widths y) }
  short_node n N s (suc (suc (suc (suc (suc zero))))) = record { xs = omega (arith, s.steps); ys = s.children; len = λ x y. one_or (eqb y 0) (width (child_at N y)) (s.widths y) }
  short_node n N s (suc (suc (suc (suc (suc (suc zero)))))) = record { xs = omega (arith, s.children); ys = omega arith; len = λ x y. s.widths x }
  short_node n N s (suc (suc (suc (suc (suc (suc (suc g))))))) = record { xs = omega arith; ys = omega arith; len = λ x y. omega arith }

  short_slot : (b n g : ℕ) → Short (get_or (slot_groups T b n (slot_at (source_of T rs) n)) g no_group)
  short_slot b n zero = record { xs = omega (arith, slot_few n); ys = omega arith; len = λ x y. omega (arith, effects_few (get_or (slot_at (source_of T rs) n) x (0, 0)).1 y) }
  short_slot b n (suc zero) = record { xs = omega (arith, limits.facts); ys = omega arith; len = λ x y. omega arith }
  short_slot b n (suc (suc g)) = record { xs = omega arith; ys = omega arith; len = λ x y. omega arith }

  pub short : (r n g : ℕ) → Short (group_at (source_of T rs) r n g)
  short zero n zero = record { xs = omega arith; ys = omega arith; len = λ x y. omega arith }
  short zero n (suc g) = record { xs = omega arith; ys = omega arith; len = λ x y. omega arith }
  short (suc zero) n g = short_node n (node_at (source_of T rs) n) (sizes_at n) g
  short (suc (suc zero)) n zero = record { xs = omega arith; ys = omega arith; len = λ x y. omega (arith, limits.facts) }
  short (suc (suc zero)) n (suc g) = record { xs = omega arith; ys = omega arith; len = λ x y. omega arith }
  short (suc (suc (suc zero))) n g = short_slot (source_of T rs).facts n g
  short (suc (suc (suc (suc r)))) n g = record { xs = omega arith; ys = omega arith; len = λ x y. omega arith }

  pub short_row : (r n g x y : ℕ) → row_len (source_of T rs) r n g x y ≤ 128
  short_row r n g x y = go (ltb n (nodes_in (source_of T rs) r) && (ltb x (group_at (source_of T rs) r n g).xs && ltb y (group_at (source_of T rs) r n g).ys))
    where
      go : (b : Bool) → cond b ((group_at (source_of T rs) r n g).len x y) 0 ≤ 128
      go true = (short r n g).len x y
      go false = omega arith
