-- The values that an answer gives: a variable is true where it stands without a minus, false where it stands with one.
-- By recursion on the numbers.
use mathlib.Core.Path.{◌≡◌, refl, sym, ap, ◌∙◌, subst}
use mathlib.Core.Bool.{true, false}
use mathlib.Core.List.{List, [], ◌∷◌}
use mathlib.Core.Logic.{inl, inr, ◌↔◌}
use Prim.Native.Nat.{ℕ, zero, suc, ◌+◌, ◌≤◌}
use native.Mathlib.Omega.{arith}
use native.Mathlib.Decide.{ℕ_discrete}
use Rattle.lists.specs.List.{any, ◌∈◌}
use Rattle.lists.proofs.Bool.{clash, eqb_sound, eqb_same, eqb_other}
use Rattle.lists.proofs.Member.{any_out, any_in}
use Rattle.lists.proofs.Place.{get_d_map_from}
use Rattle.planning.specs.Clause.{Lit, pos, neg, variable_of}
use Rattle.planning.specs.Model.{value}
use Rattle.solver.specs.Questions.{makes_true, times, truths}
use Rattle.solver.proofs.Once.{times_own, times_other}

pub true_other : (k : ℕ) (l : Lit) → (k ≡ variable_of l → ⊥) → makes_true k l ≡ false
true_other k (pos n) u = eqb_other k n u
true_other k (neg n) u = refl

-- a variable that does not stand is not made true
pub none_true : (k : ℕ) (ls : List Lit) → times k ls ≡ 0 → any (makes_true k) ls ≡ false
none_true k [] h = refl
none_true k (l ∷ ls) h = go (ℕ_discrete k (variable_of l)) (λ g. none_true k ls g)
  where
    go : Dec (k ≡ variable_of l) → (times k ls ≡ 0 → any (makes_true k) ls ≡ false) → any (makes_true k) (l ∷ ls) ≡ false
    go (yes e) f = absurd (omega (arith, subst (λ (j : ℕ). times j (l ∷ ls) ≡ 0) e h, times_own l ls))
    go (no u) f = rw (true_other k l u) (f (sym (times_other k l ls u) ∙ h))

makes_out : (k : ℕ) (l : Lit) → makes_true k l ≡ true → l ≡ pos k
makes_out k (pos n) h = ap pos (sym (eqb_sound k n h))
makes_out k (neg n) h = clash h refl

pub true_is : (k : ℕ) (ls : List Lit) → (any (makes_true k) ls ≡ true) ↔ (pos k ∈ ls)
true_is k ls = (
  λ h. let r = any_out (makes_true k) ls h in subst (λ (l : Lit). l ∈ ls) (makes_out k r.0 r.2) r.1,
  λ m. any_in (makes_true k) ls (pos k) m (eqb_same k),
)

not_there : (k : ℕ) (l : Lit) (ls : List Lit) → k ≡ variable_of l → times k ls ≡ 0 → l ∈ ls → ⊥
not_there k l (x ∷ xs) e t (inl z) = omega (arith, subst (λ (y : Lit). times (variable_of y) (x ∷ xs) ≡ 0) z (subst (λ (j : ℕ). times j (x ∷ xs) ≡ 0) e t), times_own x xs)
not_there k l (x ∷ xs) e t (inr m) = go (ℕ_discrete k (variable_of x)) (λ g. not_there k l xs e g m)
  where
    go : Dec (k ≡ variable_of x) → (times k xs ≡ 0 → ⊥) → ⊥
    go (yes z) f = omega (arith, subst (λ (j : ℕ). times j (x ∷ xs) ≡ 0) z t, times_own x xs)
    go (no u) f = f (sym (times_other k x xs u) ∙ t)
not_there k l [] e t m = m

-- of a variable that stands once
pub false_is : (k : ℕ) (ls : List Lit) → times k ls ≡ 1 → (any (makes_true k) ls ≡ false) ↔ (neg k ∈ ls)
false_is k [] h = absurd (omega arith)
false_is k (l ∷ ls) h = go (ℕ_discrete k (variable_of l)) (λ g. false_is k ls g)
  where
    here : (l : Lit) → k ≡ variable_of l → times k ls ≡ 0 → (any (makes_true k) (l ∷ ls) ≡ false) ↔ (neg k ∈ (l ∷ ls))
    here (pos n) e t = (λ q. clash (rw (e, eqb_same n)) q, λ m. absurd (at m))
      where
        at : neg k ∈ (pos n ∷ ls) → ⊥
        at (inl z) = let w : ◌≡◌ {A = ℕ} 0 1 = cc in omega arith
        at (inr m) = not_there k (neg k) ls refl t m
    here (neg n) e t = (λ q. inl (ap neg e), λ m. none_true k ls t)

    there : (l : Lit) → (k ≡ variable_of l → ⊥) → ((any (makes_true k) ls ≡ false) ↔ (neg k ∈ ls)) → (any (makes_true k) (l ∷ ls) ≡ false) ↔ (neg k ∈ (l ∷ ls))
    there (pos n) u f = rw (eqb_other k n u) (λ q. inr (f.0 q), λ m. f.1 (at m))
      where
        at : neg k ∈ (pos n ∷ ls) → neg k ∈ ls
        at (inl z) = absurd (let w : ◌≡◌ {A = ℕ} 0 1 = cc in omega arith)
        at (inr m) = m
    there (neg n) u f = (λ q. inr (f.0 q), λ m. f.1 (at m))
      where
        at : neg k ∈ (neg n ∷ ls) → neg k ∈ ls
        at (inl z) = absurd (u (let w : k ≡ n = cc in w))
        at (inr m) = m

    go : Dec (k ≡ variable_of l) → (times k ls ≡ 1 → (any (makes_true k) ls ≡ false) ↔ (neg k ∈ ls)) → (any (makes_true k) (l ∷ ls) ≡ false) ↔ (neg k ∈ (l ∷ ls))
    go (yes e) f = here l e (at e)
      where
        at : k ≡ variable_of l → times k ls ≡ 0
        at e = let r = subst (λ (j : ℕ). times j (l ∷ ls) ≡ 1) e h in rw e (omega (arith, r, times_own l ls))
    go (no u) f = there l u (f (sym (times_other k l ls u) ∙ h))

-- "variable j's value at place j of the values, counted from 1: 1 if true, 0 if false"
pub value_of : (n k : ℕ) (ls : List Lit) → 1 ≤ k → k ≤ n → value (truths n ls) k ≡ any (makes_true k) ls
value_of n zero ls p q = absurd (omega arith)
value_of n (suc k) ls p q = let z : 1 + k ≡ suc k = omega arith in get_d_map_from (λ k. any (makes_true k) ls) 1 n k false q ∙ ap (λ (j : ℕ). any (makes_true j) ls) z
