-- Inside the encoding, nothing to believe: lines written one behind the other. What is written is planning's text.
-- Assumes nothing.
use Rattle.std.specs.Prelude.{◌≡◌, List, ℕ, ◌+◌, ◌-◌, ◌≤◌, ◌<◌, length, Option, Some, None}
use Rattle.lists.specs.List.{concat}
use Rattle.lists.specs.Written.{Wrote}
use Rattle.planning.specs.Table.{Table}
use Rattle.planning.specs.Text.{clause_line, fitting, written, next_line}
use Rattle.places.specs.ClausePlace.{literals, place_at}
use Rattle.places.specs.Cursor.{lines_left}
use Rattle.index.specs.Index.{source}
use Rattle.cursor.specs.Cursor.{pos_of}
use Rattle.cursor.specs.declared.Cursor.{Cursor}
use Rattle.text.specs.declared.Lines.{Lines}

-- the line of the clause at a cursor
abbrev pub line_at : Table → Cursor → List ℕ
line_at T c = clause_line (literals (source T) (place_at (source T) (pos_of c)))

-- the lines that the cursor has yet to hand out
abbrev pub lines_from : Table → Cursor → List (List ℕ)
lines_from T c = lines_left (source T) (pos_of c)

-- line l was written behind the first a bytes of o, where it fits, and its end is r; where it does not, nothing was written
abbrev pub PutLine : List ℕ → (a : ℕ) (o o' : List ℕ) → Option ℕ → Type 0
PutLine l a o o' None = (length o - a < length l) × (o' ≡ o)
PutLine l a o o' (Some r) = (length l ≤ length o - a) × Wrote o a l o' r

-- as many of these lines as fit were written behind the first a bytes of o, the first of them being line j
pub record Put (ls : List (List ℕ)) (a j : ℕ) (o o' : List ℕ) (r : Lines) : Type 0 where
  pub text : Wrote o a (concat (fitting (length o - a) ls)) o' r.used
  pub next : r.next ≡ j + length (fitting (length o - a) ls)

-- a text call's lines
pub record PutText (T : Table) (j : ℕ) (o o' : List ℕ) (r : Lines) : Type 0 where
  pub text : Wrote o 0 (written T j (length o)) o' r.used
  pub next : r.next ≡ next_line T j (length o)
