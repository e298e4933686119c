-- Inside the calls, nothing to believe: what a write into a buffer leaves, which is what was written at its place, and everything else as it
-- was. Assumes nothing.
use Rattle.std.specs.Prelude.{◌≡◌, List, ◌++◌, ℕ, ◌+◌, length, take, drop}

-- xs was written into o from the place at on: o' is what o holds then, and the place behind what was written is r
pub record Wrote (o : List ℕ) (at : ℕ) (xs : List ℕ) (o' : List ℕ) (r : ℕ) : Type 0 where
  pub end : r ≡ at + length xs
  pub text : o' ≡ take at o ++ xs ++ drop (at + length xs) o
