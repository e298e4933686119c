-- Inside the encoding, nothing to believe: the cursor, which is a position, and what it has yet to hand out.
-- Assumes nothing.
use Rattle.std.specs.Prelude.{◌≡◌, List, map, ℕ, ◌+◌, drop}
use Rattle.planning.specs.Clause.{Clause}
use Rattle.planning.specs.Text.{clause_line}
use Rattle.places.specs.Nest.{Pos, at, positions, left}
use Rattle.places.specs.ClausePlace.{Source, ClausePlace, literals, shape, place_at}

-- the cursor behind a clause
abbrev pub after : Pos → Pos
after p = at p.rule p.node p.group p.x p.y (p.i + 1)

abbrev pub begin : Pos
begin = at 0 0 0 0 0 0

-- the places that the cursor has yet to hand out, their clauses, their lines
abbrev pub places_left : Source → Pos → List ClausePlace
places_left S c = map (place_at S) (left (shape S) c)

abbrev pub clauses_left : Source → Pos → List Clause
clauses_left S c = map (literals S) (places_left S c)

abbrev pub lines_left : Source → Pos → List (List ℕ)
lines_left S c = map clause_line (clauses_left S c)

-- on the way to line j + 1: k clauses from the cursor on are still to be passed over
pub record Seeking (S : Source) (j k : ℕ) (c : Pos) : Type 0 where
  pub rest : drop k (left (shape S) c) ≡ drop j (positions (shape S))
