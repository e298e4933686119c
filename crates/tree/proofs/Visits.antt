-- Visits one after the other: the laws that the returns of the visits cite.
-- By the laws of writes, and by the cases of a place.
use mathlib.Core.Path.{◌≡◌, refl, sym, ap, ◌∙◌}
use mathlib.Core.Bool.{true, false, ◌&&◌}
use mathlib.Core.List.{List, [], ◌∷◌, ◌++◌, map, append-nil}
use mathlib.Core.Logic.{◌⊎◌, inl, inr}
use Prim.Native.Nat.{ℕ, zero, suc, ◌+◌, ◌-◌, ◌*◌, ◌≤◌, ◌<◌}
use native.Mathlib.Numerals.{add-one, sub-one}
use native.Mathlib.Nat.{add-zero, add_assoc}
use native.Mathlib.Omega.{arith}
use lib.Dec.{ltb}
use borrow.Author.Tests.{lt-ltb, le-ltb}
use lib.ListN.{length, length-map}
use Rattle.std.specs.Prelude.{Option, None, Some}
use Rattle.lists.specs.List.{from}
use Rattle.lists.specs.Written.{Wrote}
use Rattle.lists.proofs.Bool.{clash, and_off}
use Rattle.lists.proofs.Every.{concat_map_append}
use Rattle.lists.proofs.Number.{length_from}
use Rattle.lists.proofs.Order.{le_or_lt}
use Rattle.lists.proofs.Written.{wrote_none, wrote_append, wrote_same, wrote_length}
use Rattle.planning.specs.Table.{Table, step}
use Rattle.planning.specs.Place.{Label as PlanningLabel, Place, slot, inner, Places, also, methods_of, child_count, child_label, row, place, nodes, count}
use Rattle.planning.specs.Record.{Record, records_at, records_below}
use Rattle.planning.specs.Variable.{own_vars, parts_vars}
use Rattle.planning.proofs.Task.{length_tasks}
use Rattle.tree.specs.Words.{record_words, tree_words}
use Rattle.tree.specs.Visit.{members_in, label_in, some_in, Small, counted_on, Visited, VisitedTo, VisitedPart, VisitedParts, children_from, Put}
use Rattle.tree.specs.declared.Label.{Label}
use Rattle.tree.specs.declared.Count.{Count}

-- a write that ends at an equal place
wrote_to : {o : List ℕ} {at : ℕ} {xs o' : List ℕ} {r r' : ℕ} → r ≡ r' → Wrote o at xs o' r → Wrote o at xs o' r'
wrote_to e w = rw (← e) w

-- Any part -----------------------------------------------------------------------------------------------------------------------
module _ {n v s : ℕ} {rs : List Record} {c : Count} {o : List ℕ} where
  -- there is no room for its first node
  pub visited_full : c.nodes ≡ 1024 → 1 ≤ n → Visited n v s rs c o o None
  visited_full e h = record { outcome = omega (arith, e) }

-- no part
pub visited_none : {c : Count} {o : List ℕ} → Small c → Visited 0 0 0 [] c o o (Some c)
visited_none {c} {o} small = record {
  outcome = record {
    few = omega (arith, small.nodes);
    count = rw (add-zero c.nodes, add-zero c.variables, add-zero c.slots) refl;
    small = small;
    kept = λ room. wrote_none o (5 * c.nodes);
  };
}

-- one node
pub visited_one : {c d : Count} {o o₁ : List ℕ} {dep par kids v s : ℕ} {l : Label} → c.nodes < 1024 → Put c.nodes dep par kids l.steps l.jobs o o₁
    → d ≡ counted_on c 1 v s → Small d
    → VisitedTo 1 v s (record { depth = dep; parent = par; children = kids; label = label_in l } ∷ []) c o o₁ d
visited_one {c} {d} {o} {o₁} {dep} {par} {kids} {v} {s} {l} h p e small =
    let n : d.nodes ≡ c.nodes + 1 = ap (λ (k : Count). k.nodes) e in
    record {
      few = omega arith;
      count = e;
      small = small;
      kept = λ room.
          wrote_to (omega (arith, n))
          (wrote_same (sym (append-nil (record_words (record { depth = dep; parent = par; children = kids; label = label_in l })))) (p.kept (omega (arith, n))));
    }

-- one part behind the other
pub visited_more : {n₁ v₁ s₁ n₂ v₂ s₂ : ℕ} {rs : List Record} {c d : Count} {o o₁ o₂ : List ℕ} (f : ℕ → List Record) (r : Option Count)
    → VisitedTo n₁ v₁ s₁ rs c o o₁ d → Visited n₂ v₂ s₂ (f d.nodes) d o₁ o₂ r
    → Visited (n₁ + n₂) (v₁ + v₂) (s₁ + s₂) (rs ++ f (c.nodes + n₁)) c o o₂ r
visited_more {n₁} {v₁} {s₁} {n₂} {v₂} {s₂} {rs} {c} {d} {o} {o₁} {o₂} f None a b =
    record { outcome = omega (arith, ap (λ (k : Count). k.nodes) a.count, b.outcome) }
visited_more {n₁} {v₁} {s₁} {n₂} {v₂} {s₂} {rs} {c} {d} {o} {o₁} {o₂} f (Some r) a u = record {
  outcome = record {
    few = omega (arith, e, b.few);
    count = b.count ∙ rw a.count (rw (add_assoc c.nodes n₁ n₂, add_assoc c.variables v₁ v₂, add_assoc c.slots s₁ s₂) refl);
    small = b.small;
    kept = both;
  };
}
  where
    b : VisitedTo n₂ v₂ s₂ (f d.nodes) d o₁ o₂ r
    b = u.outcome

    e : d.nodes ≡ c.nodes + n₁
    e = ap (λ (k : Count). k.nodes) a.count

    g : r.nodes ≡ d.nodes + n₂
    g = ap (λ (k : Count). k.nodes) b.count

    both : 5 * r.nodes ≤ length o → Wrote o (5 * c.nodes) (tree_words (rs ++ f (c.nodes + n₁))) o₂ (5 * r.nodes)
    both room =
        let wa = a.kept (omega (arith, g)) in
        let l : length o₁ ≡ length o = wrote_length wa (omega (arith, wa.end, g)) in
        let wb : Wrote o₁ (5 * d.nodes) (tree_words (f (c.nodes + n₁))) o₂ (5 * r.nodes) = rw (← e) (b.kept (omega (arith, l))) in
        wrote_same (sym (concat_map_append record_words rs (f (c.nodes + n₁)))) (wrote_append (omega (arith, e, g)) wa wb)

-- the first part has too many nodes already
pub visited_late : {n₁ v₁ s₁ : ℕ} (n₂ v₂ s₂ : ℕ) {rs : List Record} (qs : List Record) {c : Count} {o o₁ : List ℕ} → Visited n₁ v₁ s₁ rs c o o₁ None
    → Visited (n₁ + n₂) (v₁ + v₂) (s₁ + s₂) qs c o o₁ None
visited_late n₂ v₂ s₂ qs h = record { outcome = omega (arith, h.outcome) }

visited_same : {n n' v v' s s' : ℕ} {rs rs' : List Record} {c : Count} {r : Option Count} {o o' : List ℕ} → n ≡ n' → v ≡ v' → s ≡ s' → rs ≡ rs'
    → Visited n v s rs c o o' r → Visited n' v' s' rs' c o o' r
visited_same e f g h w = rw (← e, ← f, ← g, ← h) w

-- The part of a node ---------------------------------------------------------------------------------------------------------
pub nodes_some : (p : Place) → 1 ≤ nodes p
nodes_some (slot L) = omega arith
nodes_some (inner L ps) = omega arith

module _ (T : Table) (left : ℕ) (L : PlanningLabel) where
  pub place_slot : (ltb 0 left && some_in L.jobs) ≡ false → place T left L ≡ slot L
  unfolding place
  place_slot e = go left L.jobs refl refl e
    where
      go : (k : ℕ) (js : List ℕ) → left ≡ k → L.jobs ≡ js → (ltb 0 k && some_in js) ≡ false → place T k L ≡ slot L
      go zero js p q e = refl
      go (suc k) [] p q e = rw q
      go (suc k) (j ∷ js) p q e = clash (rw (lt-ltb 0 (suc k) (omega arith))) e

  pub place_inner : (ltb 0 left && some_in L.jobs) ≡ true → place T left L ≡ inner L (children_from T (left - 1) L 0 (child_count T L))
  unfolding place
  place_inner e = go left L.jobs refl refl e
    where
      go : (k : ℕ) (js : List ℕ) → left ≡ k → L.jobs ≡ js → (ltb 0 k && some_in js) ≡ true → place T k L ≡ inner L (children_from T (k - 1) L 0 (child_count T L))
      go zero js p q e = clash e refl
      go (suc k) [] p q e = clash e (and_off (ltb 0 (suc k)))
      go (suc k) (j ∷ js) p q e = let z : suc k - 1 ≡ k = omega arith in rw (q, z)

count_row : (f : PlanningLabel → Place) (Ls : List PlanningLabel) → count (row f Ls) ≡ length Ls
count_row f [] = refl
count_row f (L ∷ Ls) = ap suc (count_row f Ls)

count_children : (T : Table) (left : ℕ) (L : PlanningLabel) (i m : ℕ) → count (children_from T left L i m) ≡ m
count_children T left L i m =
    count_row (λ M. place T left M) (map (child_label T L) (from i m)) ∙ length-map (from i m) (child_label T L) ∙ length_from i m

own_inner_lem : (T : Table) (L : PlanningLabel) (ps : Places) → own_vars T (inner L ps) ≡ length L.steps + length L.jobs + length (methods_of T L.jobs)
own_inner_lem T L ps = omega (arith, length_tasks L.steps L.jobs)

module _ (T : Table) (left par : ℕ) (l : Label) {c : Count} {o : List ℕ} where
  pub part_full : c.nodes ≡ 1024 → VisitedPart T left par (label_in l) c o o None
  part_full e = visited_full e (nodes_some (place T left (label_in l)))

  pub part_slot : {o₁ : List ℕ} {d : Count} → (ltb 0 left && some_in (members_in l.jobs)) ≡ false → c.nodes < 1024
      → Put c.nodes (T.depth - left) par 0 l.steps l.jobs o o₁ → (d ≡ counted_on c 1 (length (members_in l.steps)) 1) × Small d
      → VisitedPart T left par (label_in l) c o o₁ (Some d)
  part_slot {o₁} {d} e h p q = rw (place_slot T left (label_in l) e) (record { outcome = visited_one {l = l} h p (rw (← own) q.0) q.1 })
    where
      own : length (members_in l.steps) ≡ own_vars T (slot (label_in l))
      own = omega (arith, length-map (members_in l.steps) step)

  pub part_inner : {o₁ o₂ : List ℕ} {d : Count} {kids : ℕ} (r : Option Count) → (ltb 0 left && some_in (members_in l.jobs)) ≡ true → c.nodes < 1024 → left ≤ T.depth
      → kids ≡ child_count T (label_in l) → Put c.nodes (T.depth - left) par kids l.steps l.jobs o o₁
      → (d ≡ counted_on c 1 (length (members_in l.steps) + length (members_in l.jobs) + length (methods_of T (members_in l.jobs))) 0) × Small d
      → VisitedParts T (left - 1) c.nodes (label_in l) 0 kids d o₁ o₂ r
      → VisitedPart T left par (label_in l) c o o₂ r
  part_inner {o₁} {o₂} {d} {kids} r e h low k p q v =
      rw (place_inner T left (label_in l) e)
      (visited_same (omega arith) (ap (λ (n : ℕ). n + parts_vars T ps) (sym (own_inner_lem T (label_in l) ps))) (omega arith) same_records
      (visited_more below r head (rw k at v)))
    where
      ps : Places
      ps = children_from T (left - 1) (label_in l) 0 (child_count T (label_in l))

      below : ℕ → List Record
      below n = records_below ps (T.depth - (left - 1)) c.nodes n

      head : VisitedTo 1 (length (members_in l.steps) + length (members_in l.jobs) + length (methods_of T (members_in l.jobs))) 0
          (record { depth = T.depth - left; parent = par; children = kids; label = label_in l } ∷ []) c o o₁ d
      head = visited_one {l = l} h p q.0 q.1

      above : 1 ≤ left
      above = go (le_or_lt 1 left)
        where
          go : (1 ≤ left) ⊎ (left < 1) → 1 ≤ left
          go (inl y) = y
          go (inr y) = clash e (rw (le-ltb 0 left (omega arith)))

      same_records : (record { depth = T.depth - left; parent = par; children = kids; label = label_in l } ∷ []) ++ below (c.nodes + 1)
          ≡ records_at (inner (label_in l) ps) (T.depth - left) par c.nodes
      same_records =
          let deeper : T.depth - (left - 1) ≡ suc (T.depth - left) = omega (arith, above) in
          let counted : kids ≡ count ps = k ∙ sym (count_children T (left - 1) (label_in l) 0 (child_count T (label_in l))) in
          rw (counted, deeper, add-one c.nodes)

children_more : (T : Table) (left : ℕ) (L : PlanningLabel) (i m : ℕ) → (m ≡ 0 → ⊥)
    → children_from T left L i m ≡ also (place T left (child_label T L i)) (children_from T left L (i + 1) (m - 1))
children_more T left L i zero u = absurd (u refl)
children_more T left L i (suc m) u = rw (add-one i, sub-one (suc m))

-- The parts of children --------------------------------------------------------------------------------------------------------
module _ (T : Table) (left par i : ℕ) (L : PlanningLabel) {c : Count} {o : List ℕ} where
  pub parts_none : (m : ℕ) → Small c → m ≡ 0 → VisitedParts T left par L i m c o o (Some c)
  parts_none m small e = rw e (visited_none small)

  pub parts_more : (m : ℕ) {o₁ o₂ : List ℕ} {d : Count} (r : Option Count) → (m ≡ 0 → ⊥) → VisitedPart T left par (child_label T L i) c o o₁ (Some d)
      → VisitedParts T left par L (i + 1) (m - 1) d o₁ o₂ r → VisitedParts T left par L i m c o o₂ r
  parts_more m {o₁} {o₂} {d} r e a b =
      rw (children_more T left L i m e)
      (visited_more (λ n. records_below (children_from T left L (i + 1) (m - 1)) (T.depth - left) par n) r a.outcome b)

  pub parts_late : (m : ℕ) {o₁ : List ℕ} → (m ≡ 0 → ⊥) → VisitedPart T left par (child_label T L i) c o o₁ None → VisitedParts T left par L i m c o o₁ None
  parts_late m {o₁} e a = rw (children_more T left L i m e) (visited_late _ _ _ _ a)
