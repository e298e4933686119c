-- What the words of a set mean: its members, and what the operations make of them. The statements alone; proofs/Promises.antt proves them.
-- Assumes nothing.
use Rattle.std.specs.Prelude.{◌≡◌, ℕ, ◌+◌, ◌*◌, ◌/◌, ◌^◌, ◌<◌, ◌≤◌, true, not, ◌&&◌, ◌||◌, List, [], ◌∷◌, length, take, ◌==◌, count_ones, nat_lt, slice_index}
use Rattle.lists.specs.List.{Every, has, Rising}
use Rattle.bitset.specs.Set.{contains, members_below, members, inserted, set_of, union, difference}

-- how many digits are set in all the words
abbrev pub ones_of : List ℕ → ℕ
ones_of [] = 0
ones_of (w ∷ ws) = count_ones w + ones_of ws

pub record Promises : Type 0 where
  -- what is a member after each operation, and that no word is added or lost
  pub insert : (ws : List ℕ) (i j : ℕ) → contains (inserted ws i) j ≡ (contains ws j || (j == i && nat_lt (i / 64) (length ws)))
  pub insert_length : (ws : List ℕ) (i : ℕ) → length (inserted ws i) ≡ length ws
  pub unite : (ws vs : List ℕ) (j : ℕ) → contains (union ws vs) j ≡ (contains ws j || (nat_lt (j / 64) (length ws) && contains vs j))
  pub unite_length : (ws vs : List ℕ) → length (union ws vs) ≡ length ws
  pub subtract : (ws vs : List ℕ) (j : ℕ) → contains (difference ws vs) j ≡ (contains ws j && not (contains vs j))
  pub subtract_length : (ws vs : List ℕ) → length (difference ws vs) ≡ length ws
  -- the list of members rises, and has just the members
  pub rising : (ws : List ℕ) → Rising 0 (64 * length ws) (members ws)
  pub member : (ws : List ℕ) (i : ℕ) → contains ws i ≡ has (members ws) i
  -- the members below a number are the first ones, and their count is the place of a member in the list
  pub first : (ws : List ℕ) (i : ℕ) → members_below ws i ≡ take (length (members_below ws i)) (members ws)
  pub place : (ws : List ℕ) (i : ℕ) → contains ws i ≡ true → slice_index (members ws) (length (members_below ws i)) ≡ i
  -- at most 64 members a word, so that no count of fewer than 2^58 words wraps; and as many as digits are set
  pub at_most : (ws : List ℕ) → length (members ws) ≤ 64 * length ws
  pub digits : (ws : List ℕ) → Every (λ (w : ℕ). w < 2 ^ 64) ws → length (members ws) ≡ ones_of ws
  -- a set has the members that it was made of, and its words are those of its members
  pub made : (n : ℕ) (is : List ℕ) → Rising 0 (64 * n) is → members (set_of n is) ≡ is
  pub whole : (ws : List ℕ) → Every (λ (w : ℕ). w < 2 ^ 64) ws → set_of (length ws) (members ws) ≡ ws
