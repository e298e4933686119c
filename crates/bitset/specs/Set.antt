-- Sets of numbers as words (the field's bit sets), for any number of words.
-- Assumes nothing.
use Rattle.std.specs.Prelude.{◌≡◌, ℕ, ◌-◌, ◌*◌, ◌/◌, ◌%◌, ◌^◌, min, Bool, List, [], ◌∷◌, ◌++◌, length, take, drop, replicate, ◌==◌, bit_and, bit_or, slice_index, slice_set}
use Rattle.lists.specs.List.{filter, up_to}

-- binary digit i of the word w
abbrev pub bit : ℕ → ℕ → ℕ
bit w i = w / 2 ^ i % 2

-- is i a member? It stands as digit i % 64 of word i / 64; past the last word nothing is one
abbrev pub contains : List ℕ → ℕ → Bool
contains ws i = bit (slice_index ws (i / 64)) (i % 64) == 1

-- the members below n, rising
abbrev pub members_below : List ℕ → ℕ → List ℕ
members_below ws n = filter (contains ws) (up_to n)

-- all members, rising
abbrev pub members : List ℕ → List ℕ
members ws = members_below ws (64 * length ws)

-- ws with i as a member; as it was, where it has no word for i
abbrev pub inserted : List ℕ → ℕ → List ℕ
inserted ws i = slice_set ws (i / 64) (bit_or (slice_index ws (i / 64)) (2 ^ (i % 64)))

-- the set of these numbers, in n words
abbrev pub set_of : ℕ → List ℕ → List ℕ
set_of n [] = replicate n 0
set_of n (i ∷ is) = inserted (set_of n is) i

-- f of each word and its partner in vs; a word that has none stays
abbrev pub onto : (ℕ → ℕ → ℕ) → List ℕ → List ℕ → List ℕ
onto f [] vs = []
onto f (w ∷ ws) [] = w ∷ ws
onto f (w ∷ ws) (v ∷ vs) = f w v ∷ onto f ws vs

-- ws with those members of vs for which it has a word
abbrev pub union : List ℕ → List ℕ → List ℕ
union ws vs = onto bit_or ws vs

-- the word w without the members of v
abbrev pub without : ℕ → ℕ → ℕ
without w v = w - bit_and w v

-- ws without the members of vs
abbrev pub difference : List ℕ → List ℕ → List ℕ
difference ws vs = onto without ws vs

-- ms written to the front of o, as many as fit: r of them, and what stands after them stays
pub record Listed (ms o o' : List ℕ) (r : ℕ) : Type 0 where
  pub count : r ≡ min (length ms) (length o)
  pub text : o' ≡ take r ms ++ drop r o
