-- What a row that is not empty stands in is there: its node, its column, its place in it.
-- By cases on the tests.
use mathlib.Core.Path.{◌≡◌, refl}
use mathlib.Core.Bool.{Bool, true, false, ◌&&◌, cond}
use Prim.Native.Nat.{ℕ, ◌<◌}
use native.Mathlib.Omega.{arith}
use lib.Dec.{ltb}
use borrow.Author.Tests.{ltb-true}
use Rattle.places.specs.ClausePlace.{Source, group_at, nodes_in, row_len}

-- inside a row that is not empty
pub record Inside (S : Source) (r n g x y i : ℕ) : Type 0 where
  pub in_node : n < nodes_in S r
  pub in_x : x < (group_at S r n g).xs
  pub in_y : y < (group_at S r n g).ys
  pub in_row : i < (group_at S r n g).len x y

pub inside : (S : Source) (r n g x y i : ℕ) → i < row_len S r n g x y → Inside S r n g x y i
inside S r n g x y i h = go (ltb n (nodes_in S r)) (ltb x (group_at S r n g).xs) (ltb y (group_at S r n g).ys) refl refl refl h
  where
    go : (a b c : Bool) → ltb n (nodes_in S r) ≡ a → ltb x (group_at S r n g).xs ≡ b → ltb y (group_at S r n g).ys ≡ c
        → i < cond (a && (b && c)) ((group_at S r n g).len x y) 0 → Inside S r n g x y i
    go true true true p q s h = record { in_node = ltb-true n (nodes_in S r) p; in_x = ltb-true x (group_at S r n g).xs q; in_y = ltb-true y (group_at S r n g).ys s; in_row = h }
    go true true false p q s h = absurd (omega arith)
    go true false c p q s h = absurd (omega arith)
    go false b c p q s h = absurd (omega arith)
