-- Rising lists, which stand for sets: their members are in range, and those numbers that such a list has, rising, are the list.
-- By recursion on how many numbers are left.
use mathlib.Core.Path.{◌≡◌, refl, sym, ap, ◌∙◌, subst}
use mathlib.Core.Bool.{Bool, true, false, ◌||◌}
use mathlib.Core.List.{List, [], ◌∷◌}
use mathlib.Core.Logic.{inl, inr}
use Prim.Native.Nat.{ℕ, zero, suc, ◌+◌, ◌≤◌, ◌<◌}
use native.Mathlib.Nat.{zero-add}
use native.Mathlib.Omega.{arith}
use native.Mathlib.Decide.{ℕ_discrete}
use Rattle.lists.specs.List.{cons_if, filter, ◌∈◌, from, up_to, has, Rising}
use Rattle.lists.proofs.Bool.{eqb_other}
use Rattle.lists.proofs.Member.{filter_same, has_in, has_not}
use Rattle.lists.proofs.Number.{from_range}

pub rising_range : (k n : ℕ) (xs : List ℕ) → Rising k n xs → (x : ℕ) → x ∈ xs → (k ≤ x) × (x < n)
rising_range k n [] h x m = absurd m
rising_range k n (y ∷ ys) h x (inl e) = rw e (h.0, h.1)
rising_range k n (y ∷ ys) h x (inr m) = let r = rising_range (suc y) n ys h.2 x m in (omega (arith, h.0), r.1)

filter_rising : (c k : ℕ) (xs : List ℕ) → Rising k (k + c) xs → filter (has xs) (from k c) ≡ xs
filter_rising zero k [] r = refl
filter_rising zero k (x ∷ xs) r = absurd (omega (arith, r.0, r.1))
filter_rising (suc c) k [] r = filter_none (from k (suc c))
  where
    filter_none : (ys : List ℕ) → filter (has []) ys ≡ []
    filter_none [] = refl
    filter_none (y ∷ ys) = filter_none ys
filter_rising (suc c) k (x ∷ xs) r = go (ℕ_discrete k x) (λ ys q. filter_rising c (suc k) ys q)
  where
    z : k + suc c ≡ suc k + c
    z = omega arith

    rest : k ≡ x → ((ys : List ℕ) → Rising (suc k) (suc k + c) ys → filter (has ys) (from (suc k) c) ≡ ys) → filter (has (x ∷ xs)) (from (suc k) c) ≡ xs
    rest e f =
        filter_same (has (x ∷ xs)) (has xs) (from (suc k) c)
        (λ y m. ap (λ (b : Bool). b || has xs y) (eqb_other y x (λ q. let s = from_range y (suc k) c m in omega arith)))
        ∙ f xs (subst (λ (n : ℕ). Rising n (suc k + c) xs) (ap suc (sym e)) (subst (λ (n : ℕ). Rising (suc x) n xs) z r.2))

    go : Dec (k ≡ x) → ((ys : List ℕ) → Rising (suc k) (suc k + c) ys → filter (has ys) (from (suc k) c) ≡ ys) → filter (has (x ∷ xs)) (from k (suc c)) ≡ x ∷ xs
    go (yes e) f =
        ap (λ (b : Bool). cons_if b k (filter (has (x ∷ xs)) (from (suc k) c))) (has_in (x ∷ xs) k (inl e)) ∙ cc (rest e f)
    go (no u) f =
        ap (λ (b : Bool). cons_if b k (filter (has (x ∷ xs)) (from (suc k) c)))
        (has_not (x ∷ xs) k (λ m. low m))
        ∙ f (x ∷ xs) (omega (arith, r.0), subst (λ (n : ℕ). x < n) z r.1, subst (λ (n : ℕ). Rising (suc x) n xs) z r.2)
      where
        low : k ∈ (x ∷ xs) → ⊥
        low (inl e) = u e
        low (inr m) = let s = rising_range (suc x) (k + suc c) xs r.2 k m in omega (arith, r.0)

pub filter_has : (n : ℕ) (xs : List ℕ) → Rising 0 n xs → filter (has xs) (up_to n) ≡ xs
filter_has n xs r = filter_rising n 0 xs (subst (λ (m : ℕ). Rising 0 m xs) (sym (zero-add n)) r)

-- and the numbers that pass a test rise
rising_lower : (k n : ℕ) (xs : List ℕ) → Rising (suc k) n xs → Rising k n xs
rising_lower k n [] r = tt
rising_lower k n (x ∷ xs) r = (omega (arith, r.0), r.1, r.2)

rising_from : (p : ℕ → Bool) (k c : ℕ) → Rising k (k + c) (filter p (from k c))
rising_from p k zero = tt
rising_from p k (suc c) = go (p k) (subst (λ (n : ℕ). Rising (suc k) n (filter p (from (suc k) c))) (omega arith) (rising_from p (suc k) c))
  where
    go : (b : Bool) → Rising (suc k) (k + suc c) (filter p (from (suc k) c)) → Rising k (k + suc c) (cons_if b k (filter p (from (suc k) c)))
    go true r = (omega arith, omega arith, r)
    go false r = rising_lower k (k + suc c) (filter p (from (suc k) c)) r

pub rising_filter : (p : ℕ → Bool) (n : ℕ) → Rising 0 n (filter p (up_to n))
rising_filter p n = subst (λ (m : ℕ). Rising 0 m (filter p (up_to n))) (zero-add n) (rising_from p 0 n)
