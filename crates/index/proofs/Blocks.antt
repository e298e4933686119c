-- Lists laid one behind the other, in blocks of one length: how long they are together, and what stands at a place.
-- By recursion on the blocks. Block n begins at place `begin n`.
use mathlib.Core.Path.{◌≡◌, sym, ap, ◌∙◌}
use mathlib.Core.List.{List, [], ◌∷◌, ◌++◌}
use Prim.Native.Nat.{ℕ, zero, suc, ◌+◌, ◌*◌, ◌<◌}
use native.Mathlib.Omega.{arith}
use lib.ListN.{length, get_or, length-append, get_or-append}
use lib.Seq.{get_or-append-add}
use Rattle.lists.specs.List.{concat_map}

module _ {A : Type 0} (f : A → List ℕ) (d : A) (w : ℕ) (begin : ℕ → ℕ) (zeroth : begin 0 ≡ 0) (next : (n : ℕ) → begin (suc n) ≡ w + begin n) (width : (a : A) → length (f a) ≡ w) where
  pub length_blocks : (xs : List A) → length (concat_map f xs) ≡ begin (length xs)
  length_blocks [] = sym zeroth
  length_blocks (x ∷ xs) = omega (arith, length-append (f x) (concat_map f xs), width x, length_blocks xs, next (length xs))

  pub get_d_blocks : (xs : List A) (n k : ℕ) → n < length xs → k < w → get_or (concat_map f xs) (begin n + k) 0 ≡ get_or (f (get_or xs n d)) k 0
  get_d_blocks [] n k h l = absurd (omega arith)
  get_d_blocks (x ∷ xs) zero k h l =
      ap (λ (i : ℕ). get_or (f x ++ concat_map f xs) i 0) (omega (arith, zeroth))
      ∙ get_or-append (f x) (concat_map f xs) 0 k (omega (arith, width x))
  get_d_blocks (x ∷ xs) (suc n) k h l =
      let e : begin (suc n) + k ≡ length (f x) + (begin n + k) = omega (arith, next n, width x) in
      ap (λ (i : ℕ). get_or (f x ++ concat_map f xs) i 0) e
      ∙ get_or-append-add (f x) (concat_map f xs) (begin n + k) 0 ∙ get_d_blocks xs n k (omega arith) l

-- Fifteen and five numbers a block
module _ {A : Type 0} (f : A → List ℕ) (d : A) where
  pub fifteens : ((a : A) → length (f a) ≡ 15) → (xs : List A) (n k : ℕ) → n < length xs → k < 15 → get_or (concat_map f xs) (15 * n + k) 0 ≡ get_or (f (get_or xs n d)) k 0
  fifteens width xs n k h l = get_d_blocks f d 15 (λ n. 15 * n) (omega arith) (λ n. omega arith) width xs n k h l

  pub length_fifteens : ((a : A) → length (f a) ≡ 15) → (xs : List A) → length (concat_map f xs) ≡ 15 * length xs
  length_fifteens width xs = length_blocks f d 15 (λ n. 15 * n) (omega arith) (λ n. omega arith) width xs

  pub fives : ((a : A) → length (f a) ≡ 5) → (xs : List A) (n k : ℕ) → n < length xs → k < 5 → get_or (concat_map f xs) (5 * n + k) 0 ≡ get_or (f (get_or xs n d)) k 0
  fives width xs n k h l = get_d_blocks f d 5 (λ n. 5 * n) (omega arith) (λ n. omega arith) width xs n k h l

  pub length_fives : ((a : A) → length (f a) ≡ 5) → (xs : List A) → length (concat_map f xs) ≡ 5 * length xs
  length_fives width xs = length_blocks f d 5 (λ n. 5 * n) (omega arith) (λ n. omega arith) width xs
