-- Inside the encoding, nothing to believe: the clause cursor, what its method `next` hands back, and what is left behind a row or a node that
-- is passed over. The places it goes through are those of crate `places`, whose clauses in this order are planning's formula. Assumes nothing.
use Rattle.std.specs.Prelude.{◌≡◌, cond, List, [], ◌∷◌, ◌⊎◌, ℕ, ◌+◌, ◌-◌, ◌*◌, ◌≤◌, ◌<◌, eqb, ltb, drop, Option, Some, None}
use Rattle.planning.specs.Table.{Table}
use Rattle.planning.specs.Clause.{Clause as PlanningClause}
use Rattle.places.specs.Nest.{Pos, at, left, positions}
use Rattle.places.specs.ClausePlace.{shape, group_at, groups_in, nodes_in, row_len, literals, place_at}
use Rattle.places.specs.Cursor.{after, clauses_left, Seeking}
use Rattle.index.specs.Index.{source}
use Rattle.cursor.specs.declared.Cursor.{Cursor}

-- how many clauses the row of a place has
abbrev pub row_of : Table → Pos → ℕ
row_of T p = row_len (source T) p.rule p.node p.group p.x p.y

-- a cursor is a place: rule, node, letter, row (x, y) and clause i of the row; and how many clauses the row has
abbrev pub pos_of : Cursor → Pos
pos_of c = at c.rule c.node c.group c.x c.y c.i

abbrev pub of_pos : Table → Pos → Cursor
of_pos T p = record { rule = p.rule; node = p.node; group = p.group; x = p.x; y = p.y; i = p.i; len = row_of T p }

-- the places that are left, their clauses, and the clause at a place
abbrev pub left_in : Table → Cursor → List Pos
left_in T c = left (shape (source T)) (pos_of c)

abbrev pub clauses_in : Table → Cursor → List PlanningClause
clauses_in T c = clauses_left (source T) (pos_of c)

abbrev pub clause_at : Table → Cursor → PlanningClause
clause_at T c = literals (source T) (place_at (source T) (pos_of c))

-- what the method hands back: the next clause's place and the cursor behind it, or the end
abbrev pub answer_of : Table → List Pos → Option (Cursor × Cursor)
answer_of T [] = None
answer_of T (p ∷ ps) = Some (of_pos T p, of_pos T (after p))

abbrev pub next_of : Table → Cursor → Option (Cursor × Cursor)
next_of T c = answer_of T (left_in T c)

-- the meaning of each case, where the cursor stood at c: no clause is left; or the first that is left stands at the place, and the others are
-- left behind it
abbrev pub Means : Table → Cursor → Option (Cursor × Cursor) → Type 0
Means T c None = clauses_in T c ≡ []
Means T c (Some (p, d)) = clauses_in T c ≡ clause_at T p ∷ clauses_in T d

-- a cursor stands at a letter of a node, or at the end, which is rule 4
pub record Stands (T : Table) (c : Cursor) : Type 0 where
  pub rule : c.rule < 4
  pub node : c.node < nodes_in (source T) c.rule
  pub group : c.group < groups_in c.rule
  pub x : c.x ≤ 128
  pub y : c.y ≤ 8
  pub len : c.len ≡ row_of T (pos_of c)

abbrev pub at_end : Cursor
at_end = record { rule = 4; node = 0; group = 0; x = 0; y = 0; i = 0; len = 0 }

abbrev pub In : Table → Cursor → Type 0
In T c = Stands T c ⊎ (c ≡ at_end)

-- a clause stands at a cursor
pub record Holds (T : Table) (c : Cursor) : Type 0 where
  pub stands : Stands T c
  pub clause : c.i < row_len (source T) c.rule c.node c.group c.x c.y

-- what is known of what is handed back
abbrev pub Handed : Table → Option (Cursor × Cursor) → Type 0
Handed T None = Unit {0}
Handed T (Some (p, d)) = Holds T p × In T d

-- falls at every move
abbrev pub rank_of : Cursor → ℕ
rank_of c = (4 - c.rule) * 100000000000 + ((1024 - c.node) * 10000000 + ((8 - c.group) * 100000 + ((128 - c.x) * 100 + (8 - c.y))))

-- the first place of the node behind c's, or of the next rule's first node; the end, where there is none
abbrev pub behind_node : Table → Cursor → Cursor
behind_node T c =
    cond (ltb (c.node + 1) (nodes_in (source T) c.rule)) (of_pos T (at c.rule (c.node + 1) 0 0 0 0))
    (cond (eqb (c.rule + 1) 4) at_end
    (cond (eqb (nodes_in (source T) (c.rule + 1)) 0) at_end (of_pos T (at (c.rule + 1) 0 0 0 0 0))))

-- the first place of the row behind c's
abbrev pub behind_row : Table → Cursor → Cursor
behind_row T c =
    let g = group_at (source T) c.rule c.node c.group in
    cond (ltb (c.y + 1) g.ys) (of_pos T (at c.rule c.node c.group c.x (c.y + 1) 0))
    (cond (ltb (c.x + 1) g.xs) (of_pos T (at c.rule c.node c.group (c.x + 1) 0 0))
    (cond (ltb (c.group + 1) (groups_in c.rule)) (of_pos T (at c.rule c.node (c.group + 1) 0 0 0)) (behind_node T c)))

-- the row of c is passed over
abbrev pub row_end : Table → Cursor → Pos
row_end T c = at c.rule c.node c.group c.x c.y (row_len (source T) c.rule c.node c.group c.x c.y)

pub record Moved (T : Table) (c d : Cursor) : Type 0 where
  pub is : d ≡ behind_row T c
  pub same : left (shape (source T)) (row_end T c) ≡ left_in T d
  pub less : rank_of d < rank_of c
  pub inside : In T d
  pub first : d.i ≡ 0

-- the node of c is passed over
pub record NodePassed (T : Table) (c d : Cursor) : Type 0 where
  pub is : d ≡ behind_node T c
  pub same : left (shape (source T)) (at c.rule (c.node + 1) 0 0 0 0) ≡ left_in T d
  pub less : rank_of d < rank_of c
  pub inside : In T d
  pub start : (d.group ≡ 0) × (d.x ≡ 0) × (d.y ≡ 0) × (d.i ≡ 0)

-- a row's first place, from which k clauses are to be passed over to stand before clause j. Left free: which row up to that of
-- clause j it is, and with it k; all of both, where there is no clause j
pub record SoughtRow (T : Table) (j k : ℕ) (c : Cursor) : Type 0 where
  pub seeking : Seeking (source T) j k (pos_of c)
  pub inside : In T c
  pub first : c.i ≡ 0

-- the cursor at the first of these places; the end, where there is none
abbrev pub cursor_of : Table → List Pos → Cursor
cursor_of T [] = at_end
cursor_of T (p ∷ ps) = of_pos T p

-- the cursor before clause j
pub record Found (T : Table) (j : ℕ) (c : Cursor) : Type 0 where
  pub is : c ≡ cursor_of T (drop j (positions (shape (source T))))
  pub same : left_in T c ≡ drop j (positions (shape (source T)))
  pub inside : In T c
