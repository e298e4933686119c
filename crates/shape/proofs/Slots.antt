-- What is looked up of a slot, and the facts that a step needs, sets and clears.
-- By the laws of the index, and by the promises of sets.
use mathlib.Core.Path.{◌≡◌, sym, ap, ◌∙◌}
use mathlib.Core.Bool.{false}
use mathlib.Core.List.{List, [], ◌∷◌}
use Prim.Native.Nat.{ℕ, zero, suc, ◌+◌, ◌*◌, ◌%◌, ◌^◌, ◌≤◌, ◌<◌}
use native.Mathlib.Nat.{mod-eq_of_lt}
use native.Mathlib.Omega.{arith}
use lib.ListN.{length, get_or}
use Rattle.lists.specs.List.{filter, up_to, number}
use Rattle.lists.proofs.Every.{every_get_d}
use Rattle.lists.proofs.Member.{filter_same, has_not}
use Rattle.lists.proofs.Number.{number_length}
use Rattle.lists.proofs.Place.{filter_enough}
use Rattle.lists.proofs.Rising.{rising_range}
use Rattle.bitset.specs.Set.{contains, members, difference}
use Rattle.bitset.proofs.Promises.{promises}
use Rattle.planning.specs.Table.{Table, StepIn, no_step, step_of}
use Rattle.planning.specs.Clause.{drops}
use Rattle.planning.specs.Accepted.{Accepted}
use Rattle.planning.proofs.Sizes.Count.{facts_rising}
use Rattle.places.specs.ClausePlace.{slot_at, effect_facts}
use Rattle.index.specs.Index.{source, slot_node_in, meaning_in, SlotAt}
use Rattle.index.proofs.Looked.{slot_in, step_meaning}
use Rattle.shape.specs.Shape.{node, InNode, InSlot}
use Rattle.shape.proofs.Nodes.{few_slots, step_small, few_steps}

get_d_number : (b x : ℕ) (xs : List ℕ) → x < length xs → get_or (number b xs) x (0, 0) ≡ (b + x, get_or xs x 0)
get_d_number b x [] h = absurd (omega arith)
get_d_number b zero (y ∷ xs) h = let z : b + 0 ≡ b = omega arith in rw z
get_d_number b (suc x) (y ∷ xs) h = let z : suc b + x ≡ b + suc x = omega arith in rw (← z) (get_d_number (suc b) x xs (omega arith))

module _ {T : Table} {ix : List ℕ} {n : ℕ} (i : InSlot T ix n) where
  pub few_slot : n < 1024
  few_slot = omega (arith, i.there, few_slots T i.indexed.accepted)

  pub slot_is : {r : ℕ} → r ≡ slot_node_in ix n → SlotAt T n r
  slot_is {r} e = rw (e, i.indexed.index) (slot_in T n i.there)

  module _ {c : ℕ} (s : SlotAt T n c) where
    pub slot_node : InNode T ix c
    slot_node = record { indexed = i.indexed; there = s.inside }

    slot_long : length (slot_at (source T) n) ≡ length (node T c).steps
    slot_long = ap length s.same ∙ number_length (node T c).first (node T c).steps

    pub size_is : {r : ℕ} → (r ≡ length (node T c).steps) × (r ≤ 64) → (r ≡ length (slot_at (source T) n)) × (r ≤ 64)
    size_is p = (p.0 ∙ sym slot_long, p.1)

    pub variable_is : {a x : ℕ} → x < length (slot_at (source T) n) → (a ≡ (node T c).first) × (1 ≤ a) × (a ≤ 8192)
        → (a + x ≡ (get_or (slot_at (source T) n) x (0, 0)).0) × (1 ≤ a + x) × (a + x ≤ 8256)
    variable_is {a} {x} h p =
        let l : x < length (node T c).steps = omega (arith, slot_long) in
        let e : get_or (slot_at (source T) n) x (0, 0) ≡ ((node T c).first + x, get_or (node T c).steps x 0) =
        ap (λ (xs : List (ℕ × ℕ)). get_or xs x (0, 0)) s.same ∙ get_d_number (node T c).first x (node T c).steps l in
        (omega (arith, p.0, ap (λ (q : ℕ × ℕ). q.0) e), omega (arith, p.1), omega (arith, p.2, l, few_steps slot_node))

    pub step_is : {r v x : ℕ} → x < length (slot_at (source T) n) → v ≡ (get_or (slot_at (source T) n) x (0, 0)).0 → r ≡ meaning_in ix v
        → (r ≡ (get_or (slot_at (source T) n) x (0, 0)).1) × (r < 64)
    step_is {r} {v} {x} h p q =
        let l : x < length (node T c).steps = omega (arith, slot_long) in
        let e : get_or (slot_at (source T) n) x (0, 0) ≡ ((node T c).first + x, get_or (node T c).steps x 0) =
        ap (λ (xs : List (ℕ × ℕ)). get_or xs x (0, 0)) s.same ∙ get_d_number (node T c).first x (node T c).steps l in
        let m : r ≡ get_or (node T c).steps x 0 =
        q ∙ rw (p, ap (λ (y : ℕ × ℕ). y.0) e, i.indexed.index) (step_meaning T c s.inside x l) in
        (m ∙ sym (ap (λ (y : ℕ × ℕ). y.1) e), omega (arith, m, step_small T i.indexed.accepted c s.inside x l))

-- whichever node the slot is
pub step_at : {T : Table} {ix : List ℕ} {n r v x : ℕ} (i : InSlot T ix n) → x < length (slot_at (source T) n) → v ≡ (get_or (slot_at (source T) n) x (0, 0)).0
    → r ≡ meaning_in ix v
    → (r ≡ (get_or (slot_at (source T) n) x (0, 0)).1) × (r < 64)
step_at {T} {ix} {n} i h p q = step_is i (slot_in T n i.there) h p q

-- Facts --------------------------------------------------------------------------------------------------------------------------
module _ (T : Table) (a : Accepted T) (s : ℕ) where
  step_in : StepIn T (step_of T s)
  step_in = every_get_d (StepIn T) T.steps no_step a.sound.steps (record { needs = tt; sets = tt; clears = tt }) s

  pub needs_is : (l : List ℕ) → members l ≡ (step_of T s).needs → members l ≡ effect_facts T s 0
  needs_is l e = e ∙ sym (facts_rising T (step_of T s).needs step_in.needs)

  pub sets_is : (l : List ℕ) → members l ≡ (step_of T s).sets → members l ≡ effect_facts T s 1
  sets_is l e = e ∙ sym (facts_rising T (step_of T s).sets step_in.sets)

  pub clears_is : (k l : List ℕ) → length k ≡ 1 → members k ≡ (step_of T s).clears → members l ≡ (step_of T s).sets
      → members (difference k l) ≡ effect_facts T s 2
  clears_is k l one p q =
      ap (λ (m : ℕ). filter (contains (difference k l)) (up_to (64 * m))) (promises.subtract_length k l ∙ one)
      ∙ filter_same (contains (difference k l)) (drops (step_of T s)) (up_to 64) (λ f h. same f)
      ∙ filter_enough (drops (step_of T s)) 64 T.facts a.limits.facts none
    where
      same : (f : ℕ) → contains (difference k l) f ≡ drops (step_of T s) f
      same f = promises.subtract k l f ∙ rw (promises.member k f, promises.member l f, p, q)

      none : (f : ℕ) → T.facts ≤ f → drops (step_of T s) f ≡ false
      none f h = rw (has_not (step_of T s).clears f (λ m. omega (arith, (rising_range 0 T.facts (step_of T s).clears step_in.clears f m).1)))

pub size_of : {r : ℕ} (l : List ℕ) → length l ≡ 1 → r ≡ length (members l) % 2 ^ 64 → r ≡ length (members l)
size_of {r} l one e = e ∙ mod-eq_of_lt (omega (arith, promises.at_most l))
