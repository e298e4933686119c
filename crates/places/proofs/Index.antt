-- Lists by index: what goes through a list goes through its places.
-- By recursion on the list.
use mathlib.Core.Path.{◌≡◌, refl, sym, ap, ap₂, ◌∙◌}
use mathlib.Core.List.{List, [], ◌∷◌, ◌++◌, map, map-append}
use mathlib.Core.Logic.{inl, inr}
use Prim.Native.Nat.{ℕ, zero, suc, ◌+◌, ◌-◌, ◌<◌}
use native.Mathlib.Omega.{arith}
use lib.ListN.{length, get_or}
use Rattle.lists.specs.List.{◌∈◌, concat_map, number, from, up_to}
use Rattle.lists.proofs.Every.{concat_map_same}
use Rattle.lists.proofs.Number.{up_to_range, number_length}
use Rattle.lists.proofs.Place.{map_up_to}
use Rattle.planning.specs.Clause.{Clause, neg, not_both, pairs}

module _ {B : Type 0} where
  -- the numbers from 1 on are those from 0 on and 1 more
  pub concat_map_shift : (f : ℕ → List B) (k n : ℕ) → concat_map f (from (suc k) n) ≡ concat_map (λ i. f (suc i)) (from k n)
  concat_map_shift f k zero = refl
  concat_map_shift f k (suc n) = ap (λ l. f (suc k) ++ l) (concat_map_shift f (suc k) n)

  -- functions that are the same below n
  pub concat_map_below : (f g : ℕ → List B) (n : ℕ) → ((i : ℕ) → i < n → f i ≡ g i) → concat_map f (up_to n) ≡ concat_map g (up_to n)
  concat_map_below f g n h = concat_map_same f g (up_to n) (λ i m. h i (up_to_range i n m))

module _ {A B : Type 0} where
  pub map_same : (f g : A → B) (xs : List A) → ((x : A) → x ∈ xs → f x ≡ g x) → map f xs ≡ map g xs
  map_same f g [] h = refl
  map_same f g (x ∷ xs) h = cc (h x (inl refl), map_same f g xs (λ y m. h y (inr m)))

  pub concat_map_one : (f : A → B) (xs : List A) → concat_map (λ x. f x ∷ []) xs ≡ map f xs
  concat_map_one f [] = refl
  concat_map_one f (x ∷ xs) = ap (λ l. f x ∷ l) (concat_map_one f xs)

module _ {B : Type 0} where
  pub map_below : (f g : ℕ → B) (n : ℕ) → ((i : ℕ) → i < n → f i ≡ g i) → map f (up_to n) ≡ map g (up_to n)
  map_below f g n h = map_same f g (up_to n) (λ i m. h i (up_to_range i n m))

  pub row_same : (f g : ℕ → B) (m n : ℕ) → m ≡ n → ((i : ℕ) → f i ≡ g i) → map f (up_to m) ≡ map g (up_to n)
  row_same f g m n e h = rw e (map_below f g n (λ i l. h i))

module _ {A B C : Type 0} where
  pub map_concat_map : (f : B → C) (g : A → List B) (xs : List A) → map f (concat_map g xs) ≡ concat_map (λ x. map f (g x)) xs
  map_concat_map f g [] = refl
  map_concat_map f g (x ∷ xs) = map-append f (g x) (concat_map g xs) ∙ ap (λ l. map f (g x) ++ l) (map_concat_map f g xs)

  pub concat_map_map : (f : B → List C) (g : A → B) (xs : List A) → concat_map f (map g xs) ≡ concat_map (λ x. f (g x)) xs
  concat_map_map f g [] = refl
  concat_map_map f g (x ∷ xs) = ap (λ l. f (g x) ++ l) (concat_map_map f g xs)

-- By index -------------------------------------------------------------------------------------------------------------------
module _ {A B : Type 0} (d : A) where
  pub concat_map_index : (f : A → List B) (xs : List A) → concat_map f xs ≡ concat_map (λ i. f (get_or xs i d)) (up_to (length xs))
  concat_map_index f [] = refl
  concat_map_index f (x ∷ xs) = ap (λ l. f x ++ l) (concat_map_index f xs ∙ sym (concat_map_shift (λ i. f (get_or (x ∷ xs) i d)) 0 (length xs)))

  pub map_index : (f : A → B) (xs : List A) → map f xs ≡ map (λ i. f (get_or xs i d)) (up_to (length xs))
  map_index f xs = sym (map_up_to (λ i. f (get_or xs i d)) f d (length xs) xs refl (λ i h. refl))

get_d_number : {A : Type 0} (d : A) (b : ℕ) (xs : List A) (i : ℕ) → i < length xs → get_or (number b xs) i (0, d) ≡ (b + i, get_or xs i d)
get_d_number d b [] i h = absurd (omega arith)
get_d_number d b (x ∷ xs) zero h = let z : b ≡ b + 0 = omega arith in ap (λ (n : ℕ). (n, x)) z
get_d_number d b (x ∷ xs) (suc i) h =
    let z : suc b + i ≡ b + suc i = omega arith in
    get_d_number d (suc b) xs i (omega arith) ∙ ap (λ (n : ℕ). (n, get_or xs i d)) z

module _ {A B : Type 0} (d : A) where
  pub concat_map_number : (f : ℕ × A → List B) (b : ℕ) (xs : List A) → concat_map f (number b xs) ≡ concat_map (λ i. f (b + i, get_or xs i d)) (up_to (length xs))
  concat_map_number f b xs =
      concat_map_index (0, d) f (number b xs)
      ∙ (ap (λ (n : ℕ). concat_map (λ i. f (get_or (number b xs) i (0, d))) (up_to n)) (number_length b xs)
      ∙ concat_map_below (λ i. f (get_or (number b xs) i (0, d))) (λ i. f (b + i, get_or xs i d)) (length xs) (λ i h. ap f (get_d_number d b xs i h)))

  pub map_number : (f : ℕ × A → B) (b : ℕ) (xs : List A) → map f (number b xs) ≡ map (λ i. f (b + i, get_or xs i d)) (up_to (length xs))
  map_number f b xs =
      map_index (0, d) f (number b xs)
      ∙ (ap (λ (n : ℕ). map (λ i. f (get_or (number b xs) i (0, d))) (up_to n)) (number_length b xs)
      ∙ map_below (λ i. f (get_or (number b xs) i (0, d))) (λ i. f (b + i, get_or xs i d)) (length xs) (λ i h. ap f (get_d_number d b xs i h)))

-- Clauses of two variables ---------------------------------------------------------------------------------------------------
-- n with variables b, b + 1, ..
pub not_both_number : {A : Type 0} (n b : ℕ) (xs : List A) → not_both n (number b xs) ≡ map (λ i. neg n ∷ neg (b + i) ∷ []) (up_to (length xs))
not_both_number n b [] = refl
not_both_number n b (x ∷ xs) = map_number x (λ y. neg n ∷ neg y.0 ∷ []) b (x ∷ xs)

-- pairs by index: row x has the later ones
abbrev pub pair_row : (b n x : ℕ) → List Clause
pair_row b n x = map (λ i. neg (b + x) ∷ neg (b + (x + suc i)) ∷ []) (up_to (n - suc x))

pub pairs_number : {A : Type 0} (b : ℕ) (xs : List A) → pairs (number b xs) ≡ concat_map (pair_row b (length xs)) (up_to (length xs))
pairs_number b [] = refl
pairs_number b (x ∷ xs) =
    let n = length xs in
    ap₂ (λ k l. k ++ l)
    (not_both_number b (suc b) xs
    ∙ row_same _ _ n (suc n - 1) (omega arith) (λ i. let e : b + 0 ≡ b = omega arith in let q : b + (0 + suc i) ≡ suc b + i = omega arith in rw (e, q)))
    (pairs_number (suc b) xs
    ∙ (concat_map_below (pair_row (suc b) n) (λ y. pair_row b (suc n) (suc y)) n
    (λ y h. row_same _ _ (n - suc y) (suc n - suc (suc y)) (omega arith)
    (λ i. let e : suc b + y ≡ b + suc y = omega arith in let q : suc b + (y + suc i) ≡ b + (suc y + suc i) = omega arith in rw (e, q)))
    ∙ sym (concat_map_shift (pair_row b (suc n)) 0 n)))
