-- A variable's value, a literal's and a clause's, from values of 0 and 1.
-- By the definition of the values, and by recursion on the literals.
use mathlib.Core.Path.{◌≡◌, refl, sym, ap, ◌∙◌}
use mathlib.Core.Bool.{Bool, true, false, not, ◌||◌}
use mathlib.Core.List.{List, ◌∷◌}
use Prim.Native.Nat.{ℕ, zero, suc, ◌+◌, ◌-◌, ◌%◌, ◌/◌, ◌≤◌, ◌<◌}
use native.Mathlib.Omega.{arith}
use lib.Dec.{eqb}
use lib.ListN.{length, get_or, drop, drop_of_length-le, get_or-map, get_or-eq_default}
use lib.Seq.{drop-cons}
use Rattle.lists.specs.List.{any, from}
use Rattle.lists.proofs.Bool.{eqb_other, false_of, clash}
use Rattle.lists.proofs.Member.{any_in}
use Rattle.lists.proofs.Number.{from_in}
use Rattle.planning.specs.Model.{Valuation, value, lit_true, clause_true, truths_in}
use Rattle.writer.specs.Literal.{lit_in, clause_in}

module _ (vs : List ℕ) where
  -- variable v's value stands at place v - 1
  pub value_at : (v : ℕ) → value (truths_in vs) v ≡ eqb 1 (get_or (0 ∷ vs) v 0)
  value_at zero = refl
  value_at (suc v) = get_or-map (eqb 1) vs v 0

  pub value_past : {v : ℕ} → length vs < v → false ≡ value (truths_in vs) v
  value_past {v} h = go v h
    where
      go : (v : ℕ) → length vs < v → false ≡ value (truths_in vs) v
      go zero h = absurd (omega arith)
      go (suc v) h = sym (value_at (suc v) ∙ ap (eqb 1) (get_or-eq_default vs 0 {n = v} (omega arith)))

  pub value_in : {v : ℕ} → (v ≡ 0 → ⊥) → eqb 1 (get_or vs (v - 1) 0) ≡ value (truths_in vs) v
  value_in {v} u = go v u
    where
      go : (v : ℕ) → (v ≡ 0 → ⊥) → eqb 1 (get_or vs (v - 1) 0) ≡ value (truths_in vs) v
      go zero u = absurd (u refl)
      go (suc v) u = let z : suc v - 1 ≡ v = omega arith in ap (λ (k : ℕ). eqb 1 (get_or vs k 0)) z ∙ sym (value_at (suc v))

-- Literals -------------------------------------------------------------------------------------------------------------------------
module _ (v : Valuation) (code : ℕ) {b : Bool} (e : b ≡ v (code / 2)) where
  pub plain : code % 2 ≡ 0 → b ≡ lit_true v (lit_in code)
  plain z = e ∙ sym (rw z)

  pub negated : (code % 2 ≡ 0 → ⊥) → not b ≡ lit_true v (lit_in code)
  negated u = ap not e ∙ sym (rw (eqb_other (code % 2) 0 u))

-- Clauses --------------------------------------------------------------------------------------------------------------------------
module _ (v : Valuation) (cs : List ℕ) where
  -- whether one of the literals from place i on is true
  abbrev pub true_from : ℕ → Bool
  true_from i = clause_true v (clause_in (drop i cs))

  step : (i : ℕ) → i < length cs → true_from i ≡ (lit_true v (lit_in (get_or cs i 0)) || true_from (i + 1))
  step i h = ap (λ (l : List ℕ). clause_true v (clause_in l)) (drop-cons cs i 0 h) ∙ let z : suc i ≡ i + 1 = omega arith in ap (λ (k : ℕ). lit_true v (lit_in (get_or cs i 0)) || true_from k) z

  pub true_here : {i : ℕ} {b : Bool} → i < length cs → clause_true v (clause_in cs) ≡ true_from i → b ≡ lit_true v (lit_in (get_or cs i 0)) → b ≡ true → true ≡ clause_true v (clause_in cs)
  true_here {i} h e q y = sym (e ∙ step i h ∙ rw (sym q ∙ y))

  pub not_here : {i : ℕ} {b : Bool} → i < length cs → clause_true v (clause_in cs) ≡ true_from i → b ≡ lit_true v (lit_in (get_or cs i 0)) → b ≡ false → clause_true v (clause_in cs) ≡ true_from (i + 1)
  not_here {i} h e q n = e ∙ step i h ∙ rw (sym q ∙ n)

  pub nowhere : {i : ℕ} → length cs ≤ i → clause_true v (clause_in cs) ≡ true_from i → false ≡ clause_true v (clause_in cs)
  nowhere {i} h e = sym (e ∙ ap (λ (l : List ℕ). clause_true v (clause_in l)) (drop_of_length-le cs {i = i} h))

-- Variables in a row -----------------------------------------------------------------------------------------------------------------
module _ (v : Valuation) (a k : ℕ) where
  -- whether one of the k variables from a on is true, but for the first i
  abbrev pub on_from : ℕ → Bool
  on_from i = any v (from (a + i) (k - i))

  pub on_first : any v (from a k) ≡ on_from 0
  on_first = let p : a + 0 ≡ a = omega arith in let q : k - 0 ≡ k = omega arith in rw (p, q)

  one_on : (i : ℕ) → i < k → on_from i ≡ (v (a + i) || on_from (i + 1))
  one_on i h = let p : k - i ≡ suc (k - (i + 1)) = omega arith in let q : a + (i + 1) ≡ suc (a + i) = omega arith in rw (p, q)

  module _ {i : ℕ} (e : any v (from a k) ≡ on_from i) where
    pub on_here : {b : Bool} → i < k → b ≡ v (a + i) → b ≡ true → true ≡ any v (from a k)
    on_here h q y = sym (e ∙ one_on i h ∙ rw (sym q ∙ y))

    pub off_here : {b : Bool} → i < k → b ≡ v (a + i) → b ≡ false → any v (from a k) ≡ on_from (i + 1)
    off_here h q n = e ∙ one_on i h ∙ rw (sym q ∙ n)

    pub off_all : k ≤ i → false ≡ any v (from a k)
    off_all h = let z : k - i ≡ 0 = omega arith in sym (e ∙ rw z)

  -- where none is, each is false
  pub each_off : any v (from a k) ≡ false → (j : ℕ) → j < k → v (a + j) ≡ false
  each_off e j h = false_of (v (a + j)) (λ t. clash (any_in v (from a k) (a + j) (from_in (a + j) a k (omega arith) (omega arith)) t) e)
