-- Rules 3 and 4, where at most one step is true at each slot: a valuation satisfies them exactly when the steps true at the slots can be
-- done from the start and the boundaries are the states passed through. By recursion on the slots.
use mathlib.Core.Path.{◌≡◌, refl, sym, ap, ◌∙◌}
use mathlib.Core.Bool.{Bool, true, false, not}
use mathlib.Core.List.{List, [], ◌∷◌, ◌++◌}
use mathlib.Core.Logic.{inl, inr}
use Prim.Native.Nat.{ℕ, zero, suc, ◌+◌, ◌≤◌, ◌<◌}
use native.Mathlib.Nat.{add-zero, zero-add, add-suc, suc-add}
use native.Mathlib.Omega.{arith}
use lib.ListN.{length, take}
use Rattle.lists.specs.List.{◌∈◌, concat_map, up_to}
use Rattle.lists.proofs.Bool.{not-true}
use Rattle.lists.proofs.Number.{up_to_range, up_to_in}
use Rattle.planning.specs.Table.{Table}
use Rattle.planning.specs.Tree.{State, initial, run, can}
use Rattle.planning.specs.Variable.{fact_var}
use Rattle.planning.specs.Clause.{pos, neg, literal, rule3, effect_clauses, frame_clauses, rule4}
use Rattle.planning.specs.Model.{Valuation, clause_true, satisfies}
use Rattle.planning.proofs.Satisfy.{true_ones, slot_steps, sat_l, sat_r, sat_in, map_out, map_in, unit_out, unit_in}
use Rattle.planning.proofs.Facts.Run.{NeedsIn, Agree, can_agree, run_agree, run_append, can_append, can_left, can_right}
use Rattle.planning.proofs.Facts.Slot.{boundary, Does, does_out, does_effect, does_frame, effects_out, effects_in, frame_out, frame_in}

-- at most one step variable of each slot is true
abbrev pub AtMostOne : Valuation → List (List (ℕ × ℕ)) → Type 0
AtMostOne v xss = (xs : List (ℕ × ℕ)) → xs ∈ xss → length (true_ones v xs) ≤ 1

-- each boundary is the state that the steps before it leave
abbrev pub States : Table → Valuation → ℕ → List (List (ℕ × ℕ)) → Type 0
States T v b xss = (i f : ℕ) → i ≤ length xss → f < T.facts → v (fact_var T b i f) ≡ run T (slot_steps v (take i xss)) (initial T) f

module _ (T : Table) (needed : NeedsIn T) (v : Valuation) (b : ℕ) where
  -- the boundaries from i on are the states passed from st
  abbrev Passes : ℕ → List (List (ℕ × ℕ)) → State → Type 0
  Passes i [] st = Agree T (boundary T v b i) st
  Passes i (xs ∷ xss) st = Agree T (boundary T v b i) st × Passes (suc i) xss (run T (true_ones v xs) st)

  passes_here : (i : ℕ) (xss : List (List (ℕ × ℕ))) (st : State) → Passes i xss st → Agree T (boundary T v b i) st
  passes_here i [] st p = p
  passes_here i (xs ∷ xss) st p = p.0

  rule4_out : (i : ℕ) (xss : List (List (ℕ × ℕ))) (st : State) → AtMostOne v xss → Agree T (boundary T v b i) st → satisfies v (rule4 T b i xss) ≡ true
      → (can T (slot_steps v xss) st ≡ true) × Passes i xss st
  rule4_out i [] st m e h = (refl, e)
  rule4_out i (xs ∷ xss) st m e h =
      let l = true_ones v xs in
      let B = boundary T v b i in
      let A = boundary T v b (suc i) in
      let hs = sat_l v (concat_map (effect_clauses T b i) xs ++ frame_clauses T b i xs) (rule4 T b (suc i) xss) h in
      let d : Does T needed B A l = does_out T needed B A l (m xs (inl refl))
      (effects_out T v b i xs (sat_l v (concat_map (effect_clauses T b i) xs) (frame_clauses T b i xs) hs)) (frame_out T v b i xs (sat_r v (concat_map (effect_clauses T b i) xs) (frame_clauses T b i xs) hs)) in
      let rest : (can T (slot_steps v xss) (run T l st) ≡ true) × Passes (suc i) xss (run T l st) = rule4_out (suc i) xss (run T l st) (λ ys k. m ys (inr k))
      (λ f u. d.1 f u ∙ run_agree T l B st e f u) (sat_r v (concat_map (effect_clauses T b i) xs ++ frame_clauses T b i xs) (rule4 T b (suc i) xss) h) in
      (can_append T l (slot_steps v xss) st (can_agree T needed l B st e d.0) rest.0, (e, rest.1))

  rule4_in : (i : ℕ) (xss : List (List (ℕ × ℕ))) (st : State) → AtMostOne v xss → can T (slot_steps v xss) st ≡ true → Passes i xss st → satisfies v (rule4 T b i xss) ≡ true
  rule4_in i [] st m c p = refl
  rule4_in i (xs ∷ xss) st m c p =
      let l = true_ones v xs in
      let B = boundary T v b i in
      let A = boundary T v b (suc i) in
      let e = p.0 in
      let d : Does T needed B A l = (
        can_agree T needed l st B (λ f u. sym (e f u)) (can_left T l (slot_steps v xss) st c),
        λ f u. passes_here (suc i) xss (run T l st) p.1 f u ∙ run_agree T l st B (λ g w. sym (e g w)) f u,
      ) in
      sat_in v (concat_map (effect_clauses T b i) xs ++ frame_clauses T b i xs) (rule4 T b (suc i) xss)
      (sat_in v (concat_map (effect_clauses T b i) xs) (frame_clauses T b i xs)
      (effects_in T v b i xs (does_effect T needed B A l (m xs (inl refl)) d)) (frame_in T v b i xs (does_frame T needed B A l (m xs (inl refl)) d)))
      (rule4_in (suc i) xss (run T l st) (λ ys k. m ys (inr k)) (can_right T l (slot_steps v xss) st c) p.1)

  passes_out : (i : ℕ) (xss : List (List (ℕ × ℕ))) (st : State) → Passes i xss st → (k f : ℕ) → k ≤ length xss → f < T.facts
      → v (fact_var T b (i + k) f) ≡ run T (slot_steps v (take k xss)) st f
  passes_out i [] st p zero f l u = rw add-zero (p f u)
  passes_out i [] st p (suc k) f l u = absurd (omega arith)
  passes_out i (xs ∷ xss) st p zero f l u = rw add-zero (p.0 f u)
  passes_out i (xs ∷ xss) st p (suc k) f l u = rw (add-suc, ← suc-add, run_append) (passes_out (suc i) xss (run T (true_ones v xs) st) p.1 k f (omega arith) u)

  passes_in : (i : ℕ) (xss : List (List (ℕ × ℕ))) (st : State)
      → ((k f : ℕ) → k ≤ length xss → f < T.facts → v (fact_var T b (i + k) f) ≡ run T (slot_steps v (take k xss)) st f) → Passes i xss st
  passes_in i [] st h = λ f u. rw add-zero at (h 0 f (omega arith) u)
  passes_in i (xs ∷ xss) st h = (
    λ f u. rw add-zero at (h 0 f (omega arith) u),
    passes_in (suc i) xss (run T (true_ones v xs) st) (λ k f l u. rw (suc-add, ← add-suc, ← run_append) (h (suc k) f (omega arith) u)),
  )

  literal_out : (c : Bool) (n : ℕ) → clause_true v (literal c n ∷ []) ≡ true → v n ≡ c
  literal_out true n h = unit_out v (pos n) h
  literal_out false n h = not-true (v n) (unit_out v (neg n) h)

  literal_in : (c : Bool) (n : ℕ) → v n ≡ c → clause_true v (literal c n ∷ []) ≡ true
  literal_in true n e = unit_in v (pos n) e
  literal_in false n e = unit_in v (neg n) (ap not e)

  rule3_out : satisfies v (rule3 T b) ≡ true → Agree T (boundary T v b 0) (initial T)
  rule3_out h f u = literal_out (initial T f) (fact_var T b 0 f)
      (map_out v (λ g. literal (initial T g) (fact_var T b 0 g) ∷ []) (up_to T.facts) h f (up_to_in f T.facts u))

  rule3_in : Agree T (boundary T v b 0) (initial T) → satisfies v (rule3 T b) ≡ true
  rule3_in h = map_in v (λ g. literal (initial T g) (fact_var T b 0 g) ∷ []) (up_to T.facts)
      (λ f m. literal_in (initial T f) (fact_var T b 0 f) (h f (up_to_range f T.facts m)))

  pub facts_out : (xss : List (List (ℕ × ℕ))) → AtMostOne v xss → satisfies v (rule3 T b ++ rule4 T b 0 xss) ≡ true
      → (can T (slot_steps v xss) (initial T) ≡ true) × States T v b xss
  facts_out xss m h =
      let d = rule4_out 0 xss (initial T) m (rule3_out (sat_l v (rule3 T b) (rule4 T b 0 xss) h)) (sat_r v (rule3 T b) (rule4 T b 0 xss) h) in
      (d.0, λ i f l u. rw (zero-add i) at (passes_out 0 xss (initial T) d.1 i f l u))

  pub facts_in_lem : (xss : List (List (ℕ × ℕ))) → AtMostOne v xss → can T (slot_steps v xss) (initial T) ≡ true → States T v b xss
      → satisfies v (rule3 T b ++ rule4 T b 0 xss) ≡ true
  facts_in_lem xss m c s = sat_in v (rule3 T b) (rule4 T b 0 xss) (rule3_in (λ f u. s 0 f (omega arith) u))
      (rule4_in 0 xss (initial T) m c (passes_in 0 xss (initial T) (λ k f l u. rw (zero-add k) (s k f l u))))
