-- The whole tree: what a visit from the root on counts and writes are planning's counts and records.
-- By the promises of sets, and by recursion on the place.
use mathlib.Core.Path.{◌≡◌, refl, sym, ap, ◌∙◌}
use mathlib.Core.Bool.{true, false}
use mathlib.Core.List.{List, [], ◌∷◌}
use Prim.Native.Nat.{ℕ, ◌+◌, ◌-◌, ◌*◌, ◌^◌, ◌<◌}
use native.Mathlib.Omega.{arith}
use lib.ListN.{length, get_or, length-append}
use Rattle.std.specs.Prelude.{Option, None, Some}
use Rattle.lists.proofs.Rising.{rising_filter}
use Rattle.lists.proofs.Place.{one_word}
use Rattle.bitset.specs.Set.{members, inserted, set_of}
use Rattle.bitset.proofs.Promises.{promises}
use Rattle.planning.specs.Table.{Table}
use Rattle.planning.specs.Place.{Label as PlanningLabel, Place, slot, inner, Places, stop, also, child_label, root_label, root_place}
use Rattle.planning.specs.Variable.{own_vars, part_vars, slot_vars, slots_vars}
use Rattle.tree.specs.Visit.{members_in, label_in, some_in, Inside, Known, slots_of, slots_of_each, Small, VisitedPart, no_count, Built}
use Rattle.tree.specs.declared.Label.{Label}
use Rattle.tree.specs.declared.Count.{Count}

-- Sets in a word ---------------------------------------------------------------------------------------------------------------
-- the word of its members
pub word_made : (w : ℕ) → w < 2 ^ 64 → w ∷ [] ≡ set_of 1 (members_in w)
word_made w h = sym (promises.whole (w ∷ []) (h, tt))

head_same : (w v : ℕ) → w ∷ [] ≡ v ∷ [] → w ≡ v
head_same w v e = ap (λ (l : List ℕ). get_or l 0 0) e

pub some_none : (w : ℕ) → w ≡ 0 → some_in (members_in w) ≡ false
some_none w e = rw e

pub some_some : (w : ℕ) → w < 2 ^ 64 → (w ≡ 0 → ⊥) → some_in (members_in w) ≡ true
some_some w h u = go (members_in w) refl
  where
    go : (l : List ℕ) → members_in w ≡ l → some_in l ≡ true
    go [] e = absurd (u (head_same w 0 (word_made w h ∙ ap (set_of 1) e)))
    go (x ∷ l) e = refl

-- the root's label
pub root_jobs : (T : Table) → Known T → members_in (get_or (inserted (0 ∷ []) T.root) 0 0) ≡ T.root ∷ []
root_jobs T known =
    ap members (one_word (inserted (0 ∷ []) T.root) (promises.insert_length (0 ∷ []) T.root))
    ∙ promises.made 1 (T.root ∷ []) (omega arith, omega (arith, known.sound.root, known.limits.jobs), tt)

pub root_label_lem : (T : Table) → Known T → label_in (record { steps = 0; jobs = get_or (inserted (0 ∷ []) T.root) 0 0 }) ≡ root_label T
root_label_lem T known = rw (root_jobs T known)

pub root_inside : (T : Table) → Known T → Inside T (record { steps = 0; jobs = get_or (inserted (0 ∷ []) T.root) 0 0 })
root_inside T known = record { steps = tt; jobs = rw (root_jobs T known) (omega arith, known.sound.root, tt) }

-- a child's label
pub child_inside : (T : Table) (L : PlanningLabel) (i : ℕ) (l : Label) → label_in l ≡ child_label T L i → Inside T l
unfolding child_label
child_inside T L i l e =
    let s : members_in l.steps ≡ (child_label T L i).steps = ap (λ (M : PlanningLabel). M.steps) e in
    let j : members_in l.jobs ≡ (child_label T L i).jobs = ap (λ (M : PlanningLabel). M.jobs) e in
    record { steps = rw s (rising_filter _ (length T.steps)); jobs = rw j (rising_filter _ T.jobs) }

-- Counts -----------------------------------------------------------------------------------------------------------------------
mutual
  slots_length : (T : Table) (p : Place) (b : ℕ) → length (slot_vars T p b) ≡ slots_of p
  slots_length T (slot L) b = refl
  slots_length T (inner L ps) b = slots_length_each T ps (b + own_vars T (inner L ps))

  slots_length_each : (T : Table) (ps : Places) (b : ℕ) → length (slots_vars T ps b) ≡ slots_of_each ps
  slots_length_each T stop b = refl
  slots_length_each T (also p ps) b =
      length-append (slot_vars T p b) (slots_vars T ps (b + part_vars T p)) ∙ omega (arith, slots_length T p b, slots_length_each T ps (b + part_vars T p))

-- a visit from the root on
module _ (T : Table) (known : Known T) {w j : ℕ} (root : j ≡ T.root) (word : w ≡ get_or (inserted (0 ∷ []) j) 0 0) where
  jobs_word : w ≡ get_or (inserted (0 ∷ []) T.root) 0 0
  jobs_word = word ∙ ap (λ (k : ℕ). get_or (inserted (0 ∷ []) k) 0 0) root

  pub start_inside : Inside T (record { steps = 0; jobs = w })
  start_inside = rw jobs_word (root_inside T known)

  pub start_built : {d : ℕ} (o o' : List ℕ) (r : Option Count) → d ≡ T.depth → VisitedPart T d 0 (label_in (record { steps = 0; jobs = w })) no_count o o' r
      → Built T o o' r
  start_built {d} o o' None e v =
      let u : VisitedPart T T.depth 0 (root_label T) no_count o o' None = rw (e, jobs_word, root_label_lem T known) at v in
      omega (arith, u.outcome)
  start_built {d} o o' (Some c) e v =
      let part : VisitedPart T T.depth 0 (root_label T) no_count o o' (Some c) = rw (e, jobs_word, root_label_lem T known) at v in
      let u = part.outcome in
      record {
        counted = record {
          few = omega (arith, u.few);
          nodes = ap (λ (k : Count). k.nodes) u.count ∙ omega arith;
          variables = ap (λ (k : Count). k.variables) u.count ∙ omega arith;
          slots = ap (λ (k : Count). k.slots) u.count ∙ omega (arith, slots_length T (root_place T) 1);
          small = u.small;
        };
        kept = λ room.
            let z : T.depth - T.depth ≡ 0 = omega arith in
            let y : ◌≡◌ {A = ℕ} (5 * 0) 0 = omega arith in
            rw (z, y) at (u.kept room);
      }

pub no_count_lem : Small no_count
no_count_lem = record { nodes = omega arith; variables = omega arith; slots = omega arith }
