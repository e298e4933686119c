-- Words combined with their partners in another list: what union and difference have in common.
-- By recursion on both lists.
use Rattle.std.proofs.Common.{◌≡◌, ℕ, zero, suc, ◌<◌, ◌≤◌, List, [], ◌∷◌, length, get_or, take, set, sym, refl, ap, arith}
use Rattle.bitset.specs.Set.{onto}

module _ (f : ℕ → ℕ → ℕ) where
  pub length_onto : (ws vs : List ℕ) → length (onto f ws vs) ≡ length ws
  length_onto [] vs = refl
  length_onto (w ∷ ws) [] = refl
  length_onto (w ∷ ws) (v ∷ vs) = ap suc (length_onto ws vs)

  -- a partner of 0 that changes nothing may as well be missing
  pub get_d_onto : ((w : ℕ) → f w 0 ≡ w) → (ws vs : List ℕ) (k : ℕ) → k < length ws → get_or (onto f ws vs) k 0 ≡ f (get_or ws k 0) (get_or vs k 0)
  get_d_onto u [] vs k h = absurd (omega arith)
  get_d_onto u (w ∷ ws) [] k h = sym (u (get_or (w ∷ ws) k 0))
  get_d_onto u (w ∷ ws) (v ∷ vs) zero h = refl
  get_d_onto u (w ∷ ws) (v ∷ vs) (suc k) h = get_d_onto u ws vs k (omega arith)

  -- no partners, one more partner, and partners enough
  pub onto_none : (ws : List ℕ) → onto f ws [] ≡ ws
  onto_none [] = refl
  onto_none (w ∷ ws) = refl

  pub onto_more : (ws vs : List ℕ) (k : ℕ) → k < length vs
      → set (onto f ws (take k vs)) k (f (get_or (onto f ws (take k vs)) k 0) (get_or vs k 0)) ≡ onto f ws (take (suc k) vs)
  onto_more [] vs k h = refl
  onto_more (w ∷ ws) [] k h = absurd (omega arith)
  onto_more (w ∷ ws) (v ∷ vs) zero h = ap (λ (l : List ℕ). f w v ∷ l) (sym (onto_none ws))
  onto_more (w ∷ ws) (v ∷ vs) (suc k) h = ap (λ (l : List ℕ). f w v ∷ l) (onto_more ws vs k (omega arith))

  pub onto_enough : (ws vs : List ℕ) (k : ℕ) → length ws ≤ k → onto f ws (take k vs) ≡ onto f ws vs
  onto_enough [] vs k h = refl
  onto_enough (w ∷ ws) vs zero h = absurd (omega arith)
  onto_enough (w ∷ ws) [] (suc k) h = refl
  onto_enough (w ∷ ws) (v ∷ vs) (suc k) h = ap (λ (l : List ℕ). f w v ∷ l) (onto_enough ws vs k (omega arith))
