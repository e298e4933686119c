-- What the cursor's method hands back, as places: the first of those that are left, and the others behind it.
-- By the definition of what is handed back.
use mathlib.Core.Path.{◌≡◌, refl, sym, ap, ap₂, ◌∙◌}
use mathlib.Core.List.{List, [], ◌∷◌}
use Prim.Native.Nat.{ℕ}
use native.Mathlib.Omega.{arith}
use Rattle.planning.specs.Table.{Table}
use Rattle.places.specs.Nest.{Pos}
use Rattle.places.specs.ClausePlace.{shape}
use Rattle.places.specs.Cursor.{after}
use Rattle.places.proofs.Cursor.{left_behind}
use Rattle.index.specs.Index.{source}
use Rattle.cursor.specs.Cursor.{pos_of, of_pos, left_in, answer_of, next_of}
use Rattle.cursor.specs.declared.Cursor.{Cursor}
use Rattle.std.specs.Prelude.{Some, None}

some_same : {A : Type 0} {x y : A} → Some x ≡ Some y → x ≡ y
some_same e = cc

module _ (T : Table) (c : Cursor) where
  pub handed_clause : (p d : Cursor) → Some (p, d) ≡ next_of T c → left_in T c ≡ pos_of p ∷ left_in T d
  handed_clause p d e = go (left_in T c) refl e
    where
      go : (l : List Pos) → left_in T c ≡ l → Some (p, d) ≡ answer_of T l → left_in T c ≡ pos_of p ∷ left_in T d
      go [] q f = let z : ◌≡◌ {A = ℕ} 0 1 = cc in absurd (omega arith)
      go (x ∷ xs) q f =
          let w : (p, d) ≡ (of_pos T x, of_pos T (after x)) = some_same f in
          let a : p ≡ of_pos T x = ap (λ (z : Cursor × Cursor). z.0) w in
          let b : d ≡ of_pos T (after x) = ap (λ (z : Cursor × Cursor). z.1) w in
          let r : left_in T d ≡ xs = ap (left_in T) b ∙ left_behind (shape (source T)) (pos_of c) x xs q in
          q ∙ ap₂ (λ (m : Cursor) (l : List Pos). pos_of m ∷ l) (sym a) (sym r)

  pub handed_end : None ≡ next_of T c → left_in T c ≡ []
  handed_end e = go (left_in T c) refl e
    where
      go : (l : List Pos) → left_in T c ≡ l → None ≡ answer_of T l → left_in T c ≡ []
      go [] q f = q
      go (x ∷ xs) q f = let z : ◌≡◌ {A = ℕ} 0 1 = cc in absurd (omega arith)
