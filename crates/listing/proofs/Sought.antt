-- The search for the first true variable, and the values as they are lent.
-- By one step of the search.
use mathlib.Core.Path.{◌≡◌, sym, ap, ◌∙◌}
use mathlib.Core.Bool.{Bool, true, false, cond}
use mathlib.Core.List.{List}
use Prim.Native.Nat.{ℕ, suc, ◌+◌, ◌-◌, ◌≤◌, ◌<◌}
use native.Mathlib.Omega.{arith}
use lib.Dec.{eqb}
use lib.ListN.{get_or, get_or-map}
use Rattle.lists.proofs.Bool.{eqb_other}
use Rattle.planning.specs.Model.{Valuation}
use Rattle.listing.specs.Walk.{first_true, value_of}

-- a value stands one place before its variable's number
value_at : (vs : List ℕ) (n : ℕ) → 1 ≤ n → value_of vs n ≡ eqb 1 (get_or vs (n - 1) 0)
value_at vs n h = let z : n ≡ suc (n - 1) = omega arith in ap (value_of vs) z ∙ get_or-map (eqb 1) vs (n - 1) 0

pub value_true : (vs : List ℕ) (n : ℕ) → 1 ≤ n → get_or vs (n - 1) 0 ≡ 1 → value_of vs n ≡ true
value_true vs n h e = value_at vs n h ∙ ap (eqb 1) e

pub value_false : (vs : List ℕ) (n : ℕ) → 1 ≤ n → (get_or vs (n - 1) 0 ≡ 1 → ⊥) → value_of vs n ≡ false
value_false vs n h u = value_at vs n h ∙ eqb_other 1 (get_or vs (n - 1) 0) (λ e. u (sym e))

-- none of the first i variables is true
pub record Sought (v : Valuation) (b k i : ℕ) : Type 0 where
  pub at : i ≤ k
  pub rest : first_true v b k ≡ i + first_true v (b + i) (k - i)

pub sought_none : (v : Valuation) (b k : ℕ) → Sought v b k 0
sought_none v b k =
    let z : b + 0 ≡ b = omega arith in
    let y : k - 0 ≡ k = omega arith in
    let x : first_true v b k ≡ 0 + first_true v b k = omega arith in
    record { at = omega arith; rest = rw (z, y) x }

module _ {v : Valuation} {b k i : ℕ} (u : Sought v b k i) where
  -- the next one
  one_on : i < k → first_true v (b + i) (k - i) ≡ cond (v (b + i)) 0 (suc (first_true v (suc (b + i)) (k - (i + 1))))
  one_on h = let z : k - i ≡ suc (k - (i + 1)) = omega arith in ap (first_true v (b + i)) z

  pub sought_here : i < k → v (b + i) ≡ true → i ≡ first_true v b k
  sought_here h e =
      let z : first_true v (b + i) (k - i) ≡ 0 = one_on h ∙ ap (λ (c : Bool). cond c 0 (suc (first_true v (suc (b + i)) (k - (i + 1))))) e in
      omega (arith, u.rest, z)

  pub sought_more : i < k → v (b + i) ≡ false → Sought v b k (i + 1)
  sought_more h e =
      let z : first_true v (b + i) (k - i) ≡ suc (first_true v (suc (b + i)) (k - (i + 1)))
      = one_on h ∙ ap (λ (c : Bool). cond c 0 (suc (first_true v (suc (b + i)) (k - (i + 1))))) e in
      let y : suc (b + i) ≡ b + (i + 1) = omega arith in
      let x : first_true v (suc (b + i)) (k - (i + 1)) ≡ first_true v (b + (i + 1)) (k - (i + 1)) = ap (λ (c : ℕ). first_true v c (k - (i + 1))) y in
      record { at = omega arith; rest = omega (arith, u.rest, z, x) }

  pub sought_all : k ≤ i → k ≡ first_true v b k
  sought_all h =
      let z : k - i ≡ 0 = omega arith in
      let y : first_true v (b + i) (k - i) ≡ 0 = ap (first_true v (b + i)) z in
      omega (arith, u.rest, u.at, y)
