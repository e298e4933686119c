-- The clauses of the formula under values, row by row.
-- By what is left from a place on.
use mathlib.Core.Path.{◌≡◌, refl, sym, ap, ◌∙◌}
use mathlib.Core.Bool.{Bool, true, false, ◌&&◌}
use mathlib.Core.List.{List, ◌∷◌, map, map-map, ◌++◌}
use mathlib.Core.Logic.{◌⊎◌, inl, inr}
use Prim.Native.Nat.{ℕ, zero, suc, ◌+◌, ◌-◌, ◌≤◌, ◌<◌}
use native.Mathlib.Numerals.{add-one}
use native.Mathlib.Omega.{arith}
use Rattle.lists.specs.List.{from}
use Rattle.lists.proofs.Order.{le_or_lt}
use Rattle.lists.proofs.Member.{all_append}
use Rattle.planning.specs.Table.{Table}
use Rattle.planning.specs.Clause.{Clause, formula}
use Rattle.planning.specs.Model.{Valuation, clause_true, satisfies}
use Rattle.writer.specs.Literal.{code_of, clause_in}
use Rattle.writer.proofs.Literals.{clause_code}
use Rattle.places.specs.Nest.{Pos, at, left, positions}
use Rattle.places.specs.ClausePlace.{literals, place_at, shape}
use Rattle.places.proofs.Formula.{formula_places}
use Rattle.places.proofs.Walk.{left_clause}
use Rattle.index.specs.Index.{source}
use Rattle.cursor.specs.Cursor.{Stands, In, Holds, Moved, Found}
use Rattle.cursor.proofs.Moves.{left_at_end, row_used}
use Rattle.cursor.specs.declared.Cursor.{Cursor}
use Rattle.model.specs.Clauses.{clauses_at, clauses_from, clauses_behind, row_clause, row_size, row_clauses, RowTrue}

-- a clause from the codes of its literals
pub codes_true : (v : Valuation) (C : Clause) {l : List ℕ} → l ≡ map code_of C → clause_true v (clause_in l) ≡ clause_true v C
codes_true v C e = ap (λ (l : List ℕ). clause_true v (clause_in l)) e ∙ ap (clause_true v) (clause_code C)

-- A row ----------------------------------------------------------------------------------------------------------------------------
module _ (T : Table) (c : Cursor) where
  -- k clauses of the row of c from place i on, and all clauses from that place on
  abbrev pub row_from : ℕ → ℕ → List Clause
  row_from i k = map (row_clause T c) (from i k)

  abbrev along_row : ℕ → List Clause
  along_row i = clauses_at T (left (shape (source T)) (at c.rule c.node c.group c.x c.y i))

  row_split : (k i : ℕ) → i + k ≡ row_size T c → along_row i ≡ row_from i k ++ clauses_behind T c
  unfolding shape
  row_split zero i e = let z : i ≡ row_size T c = omega arith in ap along_row z
  row_split (suc k) i e =
      ap (clauses_at T) (left_clause (shape (source T)) c.rule c.node c.group c.x c.y i (omega arith))
      ∙ ap (λ (l : List Clause). row_clause T c i ∷ l) (row_split k (i + 1) (omega arith) ∙ rw (add-one i))

  -- the clauses from c on: its row's, and those behind the row
  pub from_split : Stands T c → clauses_from T c ≡ row_clauses T c ++ clauses_behind T c
  from_split s = go (le_or_lt c.i (row_size T c))
    where
      go : (c.i ≤ row_size T c) ⊎ (row_size T c < c.i) → clauses_from T c ≡ row_clauses T c ++ clauses_behind T c
      go (inl h) = row_split (row_size T c - c.i) c.i (omega arith)
      go (inr h) = let z : row_size T c - c.i ≡ 0 = omega arith in rw z (ap (clauses_at T) (row_used s (omega (arith, s.len))))

  row_true : {v : Valuation} → RowTrue T v c → (k i : ℕ) → i + k ≡ row_size T c → satisfies v (row_from i k) ≡ true
  row_true t zero i e = refl
  row_true t (suc k) i e = rw (t.satisfied i (omega arith)) (rw (add-one i) at (row_true t k (i + 1) (omega arith)))

-- `is_row_satisfied`: the clauses of the row before place i are satisfied
pub record Along (T : Table) (v : Valuation) (c : Cursor) (i : ℕ) : Type 0 where
  pub at : i ≤ c.len
  pub same : satisfies v (row_clauses T c) ≡ satisfies v (row_from T c i (c.len - i))

-- a clause stands at c, and at place i of its row
pub here : {T : Table} {c : Cursor} → Stands T c → c.i < c.len → Holds T c
here s h = record { stands = s; clause = omega (arith, s.len) }

pub further : {T : Table} {c : Cursor} {i : ℕ} → Stands T c → i < c.len → Holds T (record { rule = c.rule; node = c.node; group = c.group; x = c.x; y = c.y; i = i; len = c.len })
further s h = record { stands = record { rule = s.rule; node = s.node; group = s.group; x = s.x; y = s.y; len = s.len }; clause = omega (arith, s.len) }

-- nothing of the row is left
pub row_over : {T : Table} {c : Cursor} (v : Valuation) → Stands T c → c.len ≤ c.i → true ≡ satisfies v (row_clauses T c)
row_over {T} {c} v s h = let z : row_size T c - c.i ≡ 0 = omega (arith, s.len) in rw z

module _ {T : Table} {v : Valuation} {c : Cursor} (s : Stands T c) where
  pub row_told : c.i < c.len → RowTrue T v c → true ≡ satisfies v (row_clauses T c)
  row_told h t = sym (row_true T c t (row_size T c - c.i) c.i (omega (arith, s.len)))

  pub along_first : c.i < c.len → Along T v c c.i
  along_first h = record { at = omega arith; same = ap (λ (k : ℕ). satisfies v (row_from T c c.i (k - c.i))) (sym s.len) }

  module _ {i : ℕ} (u : Along T v c i) where
    step : i < c.len → satisfies v (row_clauses T c) ≡ satisfies v (row_clause T c i ∷ row_from T c (i + 1) (c.len - (i + 1)))
    step h = let z : c.len - i ≡ suc (c.len - (i + 1)) = omega arith in u.same ∙ rw (z, add-one i)

    pub along_off : i < c.len → clause_true v (row_clause T c i) ≡ false → false ≡ satisfies v (row_clauses T c)
    along_off h n = sym (step h ∙ rw n)

    pub along_more : i < c.len → clause_true v (row_clause T c i) ≡ true → Along T v c (i + 1)
    along_more h y = record { at = omega arith; same = step h ∙ rw y }

    pub along_end : c.len ≤ i → true ≡ satisfies v (row_clauses T c)
    along_end h = let z : c.len - i ≡ 0 = omega arith in sym (u.same ∙ rw z)

-- `is_model`: all clauses before c are satisfied ---------------------------------------------------------------------------------------
pub record Checking (T : Table) (v : Valuation) (c : Cursor) : Type 0 where
  pub left : satisfies v (formula T) ≡ satisfies v (clauses_from T c)
  pub inside : In T c

pub checking_none : {T : Table} {v : Valuation} {c : Cursor} → Found T 0 c → Checking T v c
checking_none {T} {v} {c} f = record {
  left = ap (satisfies v) (sym (ap (clauses_at T) f.same ∙ (map-map (literals (source T)) (place_at (source T)) (positions (shape (source T))) ∙ formula_places T)));
  inside = f.inside;
}

module _ {T : Table} {v : Valuation} {c : Cursor} (k : Checking T v c) (s : Stands T c) {r : Bool} (t : r ≡ satisfies v (row_clauses T c)) where
  -- the row, then what is behind it
  both : satisfies v (formula T) ≡ (r && satisfies v (clauses_behind T c))
  both = k.left ∙ ap (satisfies v) (from_split T c s) ∙ all_append (clause_true v) (row_clauses T c) (clauses_behind T c) ∙ ap (λ (b : Bool). b && satisfies v (clauses_behind T c)) (sym t)

  pub checking_off : r ≡ false → false ≡ satisfies v (formula T)
  checking_off n = sym (both ∙ rw n)

  pub checking_row : {d : Cursor} → r ≡ true → Moved T c d → Checking T v d
  checking_row y m = record { left = both ∙ rw y (ap (λ (l : List Pos). satisfies v (clauses_at T l)) m.same); inside = m.inside }

pub checking_end : {T : Table} {v : Valuation} {c : Cursor} → Checking T v c → 4 ≤ c.rule → true ≡ satisfies v (formula T)
checking_end {T} {v} {c} k h = sym (k.left ∙ go k.inside)
  where
    go : In T c → satisfies v (clauses_from T c) ≡ true
    go (inl s) = absurd (omega (arith, s.rule))
    go (inr e) = ap (λ (d : Cursor). satisfies v (clauses_from T d)) e ∙ ap (λ (l : List Pos). satisfies v (clauses_at T l)) (left_at_end T)
