-- The search for a line, and the text from there on.
-- By the laws of walking, and of counts.
use mathlib.Core.Path.{◌≡◌, refl, sym, ap, ◌∙◌}
use mathlib.Core.List.{List, [], ◌∷◌, map, map-map}
use Prim.Native.Nat.{ℕ, zero, suc, ◌+◌, ◌-◌, ◌≤◌, ◌<◌}
use native.Mathlib.Omega.{arith}
use lib.ListN.{drop}
use Rattle.planning.specs.Table.{Table}
use Rattle.planning.specs.Record.{records}
use Rattle.planning.specs.Clause.{formula}
use Rattle.planning.specs.Text.{clause_line, lines}
use Rattle.places.specs.Nest.{Pos, at, positions, left}
use Rattle.places.specs.ClausePlace.{Source, literals, nodes_in, shape, place_at, source_of}
use Rattle.places.specs.Cursor.{begin, lines_left, Seeking}
use Rattle.places.specs.Total.{count_at}
use Rattle.places.proofs.Walk.{left_start}
use Rattle.places.proofs.Formula.{clause_at, good, formula_places}
use Rattle.places.proofs.Cursor.{four_rules}
use Rattle.places.proofs.Total.{skip_node}

-- The search for a line --------------------------------------------------------------------------------------------------------
module _ (S : Source) (j : ℕ) where
  pub seek_start : Seeking S j j begin
  seek_start = record { rest = ap (drop j) (left_start (shape S) (good S) (four_rules S)) }

  pub seek_node : {k : ℕ} (r n : ℕ) → Seeking S j k (at r n 0 0 0 0) → n < nodes_in S r → count_at S r n ≤ k → Seeking S j (k - count_at S r n) (at r (n + 1) 0 0 0 0)
  seek_node {k} r n s h l =
      let e : count_at S r n + (k - count_at S r n) ≡ k = omega arith in
      record { rest = sym (skip_node S r n (k - count_at S r n) h) ∙ (ap (λ m. drop m (left (shape S) (at r n 0 0 0 0))) e ∙ s.rest) }

-- The text -----------------------------------------------------------------------------------------------------------------------
map_drop : {A B : Type 0} (f : A → B) (j : ℕ) (xs : List A) → map f (drop j xs) ≡ drop j (map f xs)
map_drop f zero xs = refl
map_drop f (suc j) [] = refl
map_drop f (suc j) (x ∷ xs) = map_drop f j xs

module _ (T : Table) where
  -- the lines from clause j on
  pub text_left : (j : ℕ) (c : Pos) → Seeking (source_of T (records T)) j 0 c → lines_left (source_of T (records T)) c ≡ drop (suc j) (lines T)
  text_left j c s =
      let S = source_of T (records T) in
      ap (λ l. map clause_line (map (literals S) (map (place_at S) l))) s.rest
      ∙ (ap (map clause_line) (map-map (literals S) (place_at S) (drop j (positions (shape S))) ∙ (map_drop (clause_at S) j (positions (shape S)) ∙ ap (drop j) (formula_places T)))
      ∙ map_drop clause_line j (formula T))
