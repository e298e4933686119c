-- Members by their place.
-- By induction on the list.
use mathlib.Core.Path.{◌≡◌, refl, ap, ap₂, ◌∙◌}
use mathlib.Core.Bool.{Bool, true, false}
use mathlib.Core.List.{List, [], ◌∷◌, ◌++◌, map, append-nil}
use mathlib.Core.Option.{none, some}
use Prim.Native.Nat.{ℕ, zero, suc, ◌+◌, ◌-◌, ◌≤◌, ◌<◌}
use native.Mathlib.Omega.{arith}
use lib.ListN.{length, get_or, get_elem?}
use Rattle.lists.specs.List.{all, cons_if, filter, from, up_to}
use Rattle.lists.proofs.Bool.{and_l, and_r}

pub get_d_map_in : {A B : Type 0} (f : A → B) (xs : List A) (i : ℕ) (a : A) (b : B) → i < length xs → get_or (map f xs) i b ≡ f (get_or xs i a)
get_d_map_in f [] i a b h = absurd (omega arith)
get_d_map_in f (x ∷ xs) zero a b h = refl
get_d_map_in f (x ∷ xs) (suc i) a b h = get_d_map_in f xs i a b (omega arith)

-- where all pass the test, each does
pub all_at : {A : Type 0} (p : A → Bool) (xs : List A) (i : ℕ) (d : A) → all p xs ≡ true → i < length xs → p (get_or xs i d) ≡ true
all_at p [] i d e h = absurd (omega arith)
all_at p (x ∷ xs) zero d e h = and_l (p x) (all p xs) e
all_at p (x ∷ xs) (suc i) d e h = all_at p xs i d (and_r (p x) (all p xs) e) (omega arith)

-- a function of places is a function of members, where it is so at each place
pub map_from : {A B : Type 0} (f : ℕ → B) (g : A → B) (d : A) (k n : ℕ) (xs : List A) → n ≡ length xs
    → ((i : ℕ) → i < length xs → f (k + i) ≡ g (get_or xs i d)) → map f (from k n) ≡ map g xs
map_from f g d k zero [] e h = refl
map_from f g d k zero (x ∷ xs) e h = absurd (omega (arith, e))
map_from f g d k (suc n) [] e h = absurd (omega (arith, e))
map_from {A} {B} f g d k (suc n) (x ∷ xs) e h =
    let z : k + 0 ≡ k = omega arith in
    ap₂ (λ (b : B) (bs : List B). b ∷ bs) (rw z at (h 0 (omega arith)))
    (map_from f g d (suc k) n xs (omega (arith, e)) (λ i l. let y : suc k + i ≡ k + suc i = omega arith in rw y (h (suc i) (omega arith))))

pub map_up_to : {A B : Type 0} (f : ℕ → B) (g : A → B) (d : A) (n : ℕ) (xs : List A) → n ≡ length xs → ((i : ℕ) → i < length xs → f i ≡ g (get_or xs i d)) → map f (up_to n) ≡ map g xs
map_up_to f g d n xs e h = map_from f g d 0 n xs e (λ i l. let z : 0 + i ≡ i = omega arith in rw z (h i l))

-- a list that has f i at each place i
pub listed : {A : Type 0} (f : ℕ → A) (d : A) (n : ℕ) (xs : List A) → n ≡ length xs → ((i : ℕ) → i < n → f i ≡ get_or xs i d) → map f (up_to n) ≡ xs
listed {A} f d n xs e h = map_up_to f (λ (x : A). x) d n xs e (λ i l. h i (omega (arith, e))) ∙ same xs
  where
    same : (xs : List A) → map (λ (x : A). x) xs ≡ xs
    same [] = refl
    same (x ∷ xs) = ap (λ (l : List A). x ∷ l) (same xs)

-- what stands at a place of a function of numbers
pub get_d_map_from : {B : Type 0} (f : ℕ → B) (k n i : ℕ) (d : B) → i < n → get_or (map f (from k n)) i d ≡ f (k + i)
get_d_map_from f k zero i d h = absurd (omega arith)
get_d_map_from f k (suc n) zero d h = let z : k ≡ k + 0 = omega arith in ap f z
get_d_map_from f k (suc n) (suc i) d h = let z : suc k + i ≡ k + suc i = omega arith in get_d_map_from f (suc k) n i d (omega arith) ∙ ap f z

pub get_d_map_past : {B : Type 0} (f : ℕ → B) (k n i : ℕ) (d : B) → n ≤ i → get_or (map f (from k n)) i d ≡ d
get_d_map_past f k zero i d h = refl
get_d_map_past f k (suc n) zero d h = absurd (omega arith)
get_d_map_past f k (suc n) (suc i) d h = get_d_map_past f (suc k) n i d (omega arith)

pub elem_map_from : {B : Type 0} (f : ℕ → B) (k n i : ℕ) → i < n → get_elem? (map f (from k n)) i ≡ some (f (k + i))
elem_map_from f k zero i h = absurd (omega arith)
elem_map_from f k (suc n) zero h = let z : k ≡ k + 0 = omega arith in ap (λ (j : ℕ). some (f j)) z
elem_map_from f k (suc n) (suc i) h = let z : suc k + i ≡ k + suc i = omega arith in elem_map_from f (suc k) n i (omega arith) ∙ ap (λ (j : ℕ). some (f j)) z

pub elem_map_past : {B : Type 0} (f : ℕ → B) (k n i : ℕ) → n ≤ i → get_elem? (map f (from k n)) i ≡ none
elem_map_past f k zero i h = refl
elem_map_past f k (suc n) zero h = absurd (omega arith)
elem_map_past f k (suc n) (suc i) h = elem_map_past f (suc k) n i (omega arith)

-- numbers from k on, in two runs
pub from_add : (k m n : ℕ) → from k (m + n) ≡ from k m ++ from (k + m) n
from_add k zero n = let z : 0 + n ≡ n = omega arith in let y : k ≡ k + 0 = omega arith in ap (from k) z ∙ ap (λ (j : ℕ). from j n) y
from_add k (suc m) n =
    let z : suc m + n ≡ suc (m + n) = omega arith in
    let y : suc k + m ≡ k + suc m = omega arith in
    ap (from k) z ∙ ap (λ (l : List ℕ). k ∷ l) (from_add (suc k) m n ∙ ap (λ (j : ℕ). from (suc k) m ++ from j n) y)

-- Tests over numbers ---------------------------------------------------------------------------------------------------------
pub filter_append : {A : Type 0} (p : A → Bool) (xs ys : List A) → filter p (xs ++ ys) ≡ filter p xs ++ filter p ys
filter_append p [] ys = refl
filter_append {A} p (x ∷ xs) ys = go (p x) (filter_append p xs ys)
  where
    go : (b : Bool) → filter p (xs ++ ys) ≡ filter p xs ++ filter p ys → cons_if b x (filter p (xs ++ ys)) ≡ cons_if b x (filter p xs) ++ filter p ys
    go true e = ap (λ (l : List A). x ∷ l) e
    go false e = e

filter_none : (p : ℕ → Bool) (k n : ℕ) → ((i : ℕ) → k ≤ i → p i ≡ false) → filter p (from k n) ≡ []
filter_none p k zero h = refl
filter_none p k (suc n) h = rw (h k (omega arith)) (filter_none p (suc k) n (λ i l. h i (omega arith)))

-- the numbers below m, and the n behind them
pub filter_split : (p : ℕ → Bool) (m n : ℕ) → filter p (up_to (m + n)) ≡ filter p (up_to m) ++ filter p (from m n)
filter_split p m n =
    let z : 0 + m ≡ m = omega arith in
    ap (filter p) (from_add 0 m n) ∙ filter_append p (up_to m) (from (0 + m) n) ∙ ap (λ (j : ℕ). filter p (up_to m) ++ filter p (from j n)) z

-- numbers that do not pass add nothing
pub filter_enough : (p : ℕ → Bool) (m n : ℕ) → n ≤ m → ((i : ℕ) → n ≤ i → p i ≡ false) → filter p (up_to m) ≡ filter p (up_to n)
filter_enough p m n h f =
    let e : m ≡ n + (m - n) = omega arith in
    ap (λ (k : ℕ). filter p (up_to k)) e ∙ filter_split p n (m - n)
    ∙ ap (λ (l : List ℕ). filter p (up_to n) ++ l) (filter_none p n (m - n) f) ∙ append-nil (filter p (up_to n))

-- a list of one member
pub one_word : (l : List ℕ) → length l ≡ 1 → get_or l 0 0 ∷ [] ≡ l
one_word [] h = absurd (omega arith)
one_word (w ∷ []) h = refl
one_word (w ∷ v ∷ l) h = absurd (omega arith)
