-- Inside the calls, nothing to believe: the clauses that a cursor hands out. All of them are planning's formula.
-- Assumes nothing.
use Rattle.std.specs.Prelude.{◌≡◌, true, List, map, ℕ, ◌-◌, ◌<◌}
use Rattle.lists.specs.List.{from}
use Rattle.planning.specs.Table.{Table}
use Rattle.planning.specs.Clause.{Clause}
use Rattle.planning.specs.Model.{Valuation, clause_true}
use Rattle.places.specs.Nest.{Pos, at, left}
use Rattle.places.specs.ClausePlace.{literals, place_at, row_len, shape}
use Rattle.index.specs.Index.{source}
use Rattle.cursor.specs.Cursor.{pos_of, left_in, row_end}
use Rattle.cursor.specs.declared.Cursor.{Cursor}

-- the clause at a cursor
abbrev pub clause_at : Table → Cursor → Clause
clause_at T c = literals (source T) (place_at (source T) (pos_of c))

-- the clauses at places
abbrev pub clauses_at : Table → List Pos → List Clause
clauses_at T l = map (literals (source T)) (map (place_at (source T)) l)

-- the clauses that the cursor has yet to hand out, and those behind its row
abbrev pub clauses_from : Table → Cursor → List Clause
clauses_from T c = clauses_at T (left_in T c)

abbrev pub clauses_behind : Table → Cursor → List Clause
clauses_behind T c = clauses_at T (left (shape (source T)) (row_end T c))

-- clause j of the row of c, and the row's clauses from c on
abbrev pub row_clause : Table → Cursor → ℕ → Clause
row_clause T c j = literals (source T) (place_at (source T) (at c.rule c.node c.group c.x c.y j))

abbrev pub row_size : Table → Cursor → ℕ
row_size T c = row_len (source T) c.rule c.node c.group c.x c.y

abbrev pub row_clauses : Table → Cursor → List Clause
row_clauses T c = map (row_clause T c) (from c.i (row_size T c - c.i))

-- every clause of the row of c is satisfied
pub record RowTrue (T : Table) (v : Valuation) (c : Cursor) : Type 0 where
  pub satisfied : (j : ℕ) → j < row_size T c → clause_true v (row_clause T c j) ≡ true
