-- The loops of a node and of a slot, letter by letter.
-- By cases on the letter.
use mathlib.Core.Path.{◌≡◌, refl, sym, ◌∙◌}
use mathlib.Core.List.{List}
use Prim.Native.Nat.{ℕ, zero, suc, ◌≤◌, ◌<◌}
use native.Mathlib.Omega.{arith}
use borrow.Author.Tests.{lt-ltb}
use Rattle.planning.specs.Table.{Table}
use Rattle.planning.specs.Record.{records}
use Rattle.planning.proofs.Record.{records_rising}
use Rattle.places.specs.ClausePlace.{group_at, nodes_in, groups_in, row_len}
use Rattle.places.proofs.Small.{Short, short, short_row, records_children}
use Rattle.index.specs.Index.{source}
use Rattle.shape.specs.Shape.{Indexed, HasLetter}

-- the second part of rule 4
pub part_two : (g : ℕ) → g < 2 → (g ≡ 0 → ⊥) → g ≡ 1
part_two zero h u = absurd (u refl)
part_two (suc zero) h u = refl
part_two (suc (suc g)) h u = absurd (omega arith)

-- All rules ------------------------------------------------------------------------------------------------------------------
-- a clause for each fact
pub start_len : (T : Table) (n g x y : ℕ) → g < groups_in 2 → T.facts ≡ (group_at (source T) 2 n g).len x y
start_len T n zero x y h = refl
start_len T n (suc g) x y h = absurd (omega arith)

module _ {T : Table} {ix : List ℕ} (i : Indexed T ix) where
  pub sizes_of : (r n g : ℕ) → Short (group_at (source T) r n g)
  sizes_of r n g =
      short T i.accepted.limits (records T) (records_rising T i.accepted.sound.root) (records_children T i.accepted.limits i.accepted.sound.root) r n g

  pub row_most : (r n g x y : ℕ) → row_len (source T) r n g x y ≤ 128
  row_most r n g x y = short_row T i.accepted.limits (records T) (records_rising T i.accepted.sound.root)
      (records_children T i.accepted.limits i.accepted.sound.root) r n g x y

-- A row ----------------------------------------------------------------------------------------------------------------------
module _ {T : Table} {ix : List ℕ} (d : Indexed T ix) {r n g : ℕ} (i : HasLetter (source T) r n g) where
  pub in_row : {k x y : ℕ} → x < (group_at (source T) r n g).xs → y < (group_at (source T) r n g).ys → k ≡ (group_at (source T) r n g).len x y
      → (k ≡ row_len (source T) r n g x y) × (k ≤ 128)
  in_row {k} {x} {y} h l e =
      let q : k ≡ row_len (source T) r n g x y =
      e ∙ sym (rw (lt-ltb n (nodes_in (source T) r) i.there, lt-ltb x (group_at (source T) r n g).xs h, lt-ltb y (group_at (source T) r n g).ys l)) in
      (q, omega (arith, row_most d r n g x y))

pub known_most : {a b c : ℕ} → a ≡ b → b ≤ c → (a ≡ b) × (a ≤ c)
known_most e h = (e, omega arith)
