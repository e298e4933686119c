-- Lists: the few functions that the definitions of every crate use, beside those of the language's own library.
-- Assumes nothing.
use Rattle.std.specs.Prelude.{◌≡◌, Bool, true, false, not, cond, ◌&&◌, ◌||◌, List, [], ◌∷◌, ◌++◌, ◌⊎◌, ℕ, zero, suc, ◌≤◌, ◌<◌, eqb}

module _ {A : Type 0} where
  -- x in front of xs where the test passed
  abbrev pub cons_if : Bool → A → List A → List A
  cons_if true x xs = x ∷ xs
  cons_if false x xs = xs

  -- the members that pass a test, in their order
  abbrev pub filter : (A → Bool) → List A → List A
  filter p [] = []
  filter p (x ∷ xs) = cons_if (p x) x (filter p xs)

  -- does some member pass the test?
  abbrev pub any : (A → Bool) → List A → Bool
  any p [] = false
  any p (x ∷ xs) = p x || any p xs

  -- do all members pass the test?
  abbrev pub all : (A → Bool) → List A → Bool
  all p [] = true
  all p (x ∷ xs) = p x && all p xs

  -- how many members stand before the first that passes the test: its place, counted from 0; their count, where none passes
  abbrev pub find_index : (A → Bool) → List A → ℕ
  find_index p [] = 0
  find_index p (x ∷ xs) = cond (p x) 0 (suc (find_index p xs))

  -- the first members, as long as they pass the test
  abbrev pub take_while : (A → Bool) → List A → List A
  take_while p [] = []
  take_while p (x ∷ xs) = cond (p x) (x ∷ take_while p xs) []

  -- the others: those from the first on that does not pass
  abbrev pub drop_while : (A → Bool) → List A → List A
  drop_while p [] = []
  drop_while p (x ∷ xs) = cond (p x) (drop_while p xs) (x ∷ xs)

  -- is no member equal, by the test `equal`, to a later one?
  abbrev pub none_twice : (A → A → Bool) → List A → Bool
  none_twice equal [] = true
  none_twice equal (x ∷ xs) = not (any (equal x) xs) && none_twice equal xs

  -- each member with a number in front, rising from n
  abbrev pub number : ℕ → List A → List (ℕ × A)
  number n [] = []
  number n (x ∷ xs) = (n, x) ∷ number (suc n) xs

  -- a is a member
  infix 4 ◌∈◌
  abbrev pub ◌∈◌ : A → List A → Type 0
  a ∈ [] = ⊥
  a ∈ (x ∷ xs) = (a ≡ x) ⊎ (a ∈ xs)

  -- no member stands twice
  abbrev pub Distinct : List A → Type 0
  Distinct [] = Unit {0}
  Distinct (x ∷ xs) = (x ∈ xs → ⊥) × Distinct xs

  -- every member has the property
  abbrev pub Every : (A → Type 0) → List A → Type 0
  Every P [] = Unit {0}
  Every P (x ∷ xs) = P x × Every P xs

  -- the lists one after the other
  abbrev pub concat : List (List A) → List A
  concat [] = []
  concat (xs ∷ xss) = xs ++ concat xss

module _ {A B : Type 0} where
  -- what f gives for each member, one after the other
  abbrev pub concat_map : (A → List B) → List A → List B
  concat_map f [] = []
  concat_map f (x ∷ xs) = f x ++ concat_map f xs

-- Numbers ------------------------------------------------------------------------------------------------------------
-- k, k + 1, .. : n numbers
abbrev pub from : ℕ → ℕ → List ℕ
from k zero = []
from k (suc n) = k ∷ from (suc k) n

-- 0, 1, .. n - 1
abbrev pub up_to : ℕ → List ℕ
up_to n = from 0 n

-- is n a member?
abbrev pub has : List ℕ → ℕ → Bool
has xs n = any (eqb n) xs

-- a set of numbers: rising, so that none stands twice, and each at least k and below n
abbrev pub Rising : ℕ → ℕ → List ℕ → Type 0
Rising k n [] = Unit {0}
Rising k n (x ∷ xs) = (k ≤ x) × (x < n) × Rising (suc x) n xs
