-- Numbers in a row, and members numbered in a row.
-- By recursion on how many there are, and on the list.
use mathlib.Core.Path.{◌≡◌, refl, sym, ap, ◌∙◌, subst}
use mathlib.Core.List.{List, [], ◌∷◌}
use mathlib.Core.Logic.{◌⊎◌, inl, inr}
use Prim.Native.Nat.{ℕ, zero, suc, ◌+◌, ◌≤◌, ◌<◌}
use native.Mathlib.Omega.{arith}
use native.Mathlib.Decide.{ℕ_discrete}
use lib.ListN.{length}
use Rattle.lists.specs.List.{number, ◌∈◌, Distinct, from, up_to}

pub from_range : (n k c : ℕ) → n ∈ from k c → (k ≤ n) × (n < k + c)
from_range n k zero m = absurd m
from_range n k (suc c) (inl e) = omega arith
from_range n k (suc c) (inr m) = let r = from_range n (suc k) c m in omega arith

pub from_in : (n k c : ℕ) → k ≤ n → n < k + c → n ∈ from k c
from_in n k zero h l = absurd (omega arith)
from_in n k (suc c) h l = go (ℕ_discrete n k) (λ p q. from_in n (suc k) c p q)
  where
    go : Dec (n ≡ k) → (suc k ≤ n → n < suc k + c → n ∈ from (suc k) c) → (n ≡ k) ⊎ (n ∈ from (suc k) c)
    go (yes e) f = inl e
    go (no u) f = inr (f (omega arith) (omega arith))

pub up_to_range : (n c : ℕ) → n ∈ up_to c → n < c
up_to_range n c m = let r = from_range n 0 c m in omega arith

pub up_to_in : (n c : ℕ) → n < c → n ∈ up_to c
up_to_in n c h = from_in n 0 c (omega arith) (omega arith)

pub distinct_from : (k c : ℕ) → Distinct (from k c)
distinct_from k zero = tt
distinct_from k (suc c) = (λ m. let r = from_range k (suc k) c m in omega arith, distinct_from (suc k) c)

pub length_from : (k c : ℕ) → length (from k c) ≡ c
length_from k zero = refl
length_from k (suc c) = ap suc (length_from (suc k) c)

-- Numbered members -------------------------------------------------------------------------------------------------------
module _ {A : Type 0} where
  pub number_thing : (b : ℕ) (xs : List A) (x : ℕ × A) → x ∈ number b xs → x.1 ∈ xs
  number_thing b [] x m = absurd m
  number_thing b (y ∷ ys) x (inl e) = inl (ap (λ (z : ℕ × A). z.1) e)
  number_thing b (y ∷ ys) x (inr m) = inr (number_thing (suc b) ys x m)

  pub number_in : (b : ℕ) (xs : List A) (a : A) → a ∈ xs → (n : ℕ) × ((n, a) ∈ number b xs)
  number_in b [] a m = absurd m
  number_in b (y ∷ ys) a (inl e) = (b, inl (ap (λ (z : A). (b, z)) e))
  number_in b (y ∷ ys) a (inr m) = let r = number_in (suc b) ys a m in (r.0, inr r.1)

  pub number_range : (b : ℕ) (xs : List A) (x : ℕ × A) → x ∈ number b xs → (b ≤ x.0) × (x.0 < b + length xs)
  number_range b [] x m = absurd m
  number_range b (y ∷ ys) x (inl e) = let h : x.0 ≡ b = ap (λ (z : ℕ × A). z.0) e in omega arith
  number_range b (y ∷ ys) x (inr m) = let h = number_range (suc b) ys x m in omega arith

  pub number_length : (b : ℕ) (xs : List A) → length (number b xs) ≡ length xs
  number_length b [] = refl
  number_length b (x ∷ xs) = ap suc (number_length (suc b) xs)

  pub number_at : (b : ℕ) (xs : List A) (n : ℕ) → b ≤ n → n < b + length xs → (a : A) × ((n, a) ∈ number b xs)
  number_at b [] n h k = absurd (omega arith)
  number_at b (y ∷ ys) n h k = go (ℕ_discrete n b) (λ p q. number_at (suc b) ys n p q)
    where
      go : Dec (n ≡ b) → (suc b ≤ n → n < suc b + length ys → (a : A) × ((n, a) ∈ number (suc b) ys)) → (a : A) × ((n, a) ∈ number b (y ∷ ys))
      go (yes e) f = (y, inl (ap (λ (z : ℕ). (z, y)) e))
      go (no u) f = let r = f (omega arith) (omega arith) in (r.0, inr r.1)

  pub number_unique : (b : ℕ) (xs : List A) → Distinct xs → (x y : ℕ × A) → x ∈ number b xs → y ∈ number b xs → x.1 ≡ y.1 → x ≡ y
  number_unique b [] d x y m k e = absurd m
  number_unique b (z ∷ zs) d x y (inl p) (inl q) e = p ∙ sym q
  number_unique b (z ∷ zs) d x y (inl p) (inr k) e =
      absurd (d.0 (subst (λ (t : A). t ∈ zs) (sym e ∙ ap (λ (w : ℕ × A). w.1) p) (number_thing (suc b) zs y k)))
  number_unique b (z ∷ zs) d x y (inr m) (inl q) e =
      absurd (d.0 (subst (λ (t : A). t ∈ zs) (e ∙ ap (λ (w : ℕ × A). w.1) q) (number_thing (suc b) zs x m)))
  number_unique b (z ∷ zs) d x y (inr m) (inr k) e = number_unique (suc b) zs d.1 x y m k e
