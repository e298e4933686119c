-- The cursor's moves: one law for each way that the code goes on.
-- By the laws of what is left from a place on.
use mathlib.Core.Path.{◌≡◌, refl, sym, ap, ◌∙◌}
use mathlib.Core.Bool.{false}
use mathlib.Core.List.{List, [], map}
use mathlib.Core.Logic.{inl, inr}
use Prim.Native.Nat.{ℕ, zero, suc, ◌+◌, ◌-◌, ◌*◌, ◌≤◌, ◌<◌}
use native.Mathlib.Omega.{arith}
use lib.Dec.{ltb}
use borrow.Author.Tests.{lt-ltb, le-ltb, eq-eqb, ne_eqb}
use Rattle.lists.proofs.Order.{ne_lt}
use Rattle.planning.specs.Table.{Table}
use Rattle.planning.specs.Place.{root_place}
use Rattle.planning.specs.Clause.{Clause as PlanningClause}
use Rattle.places.specs.Nest.{Pos, at, left}
use Rattle.places.specs.ClausePlace.{Source, shape, group_at, groups_in, nodes_in, row_len, literals, place_at}
use Rattle.places.proofs.Formula.{good}
use Rattle.places.proofs.Walk.{left_clause, left_row, left_column, left_group, left_node}
use Rattle.places.proofs.Total.{skip_rule, skip_last}
use Rattle.index.specs.Index.{source}
use Rattle.index.proofs.Known.{nodes_count}
use Rattle.shape.specs.Shape.{Indexed, HasLetter}
use Rattle.shape.proofs.Nodes.{few_nodes, few_slots}
use Rattle.tree.proofs.Visits.{nodes_some}
use Rattle.cursor.specs.Cursor.{of_pos, left_in, answer_of, next_of, Means, Stands, at_end, In, Handed, row_end, Moved, NodePassed}
use Rattle.cursor.specs.declared.Cursor.{Cursor}
use Rattle.std.specs.Prelude.{Some, None}

pub letter_of : {T : Table} {c : Cursor} → Stands T c → HasLetter (source T) c.rule c.node c.group
letter_of s = record { rule = s.rule; there = s.node; group = s.group }

-- every rule has a letter
some_letter : (r : ℕ) → 0 < groups_in r
some_letter zero = omega arith
some_letter (suc zero) = omega arith
some_letter (suc (suc zero)) = omega arith
some_letter (suc (suc (suc zero))) = omega arith
some_letter (suc (suc (suc (suc r)))) = omega arith

few_letters : (r : ℕ) → groups_in r ≤ 7
few_letters zero = omega arith
few_letters (suc zero) = omega arith
few_letters (suc (suc zero)) = omega arith
few_letters (suc (suc (suc zero))) = omega arith
few_letters (suc (suc (suc (suc r)))) = omega arith

nodes_most : {T : Table} {ix : List ℕ} → Indexed T ix → (r : ℕ) → nodes_in (source T) r ≤ 1024
nodes_most i zero = omega arith
nodes_most {T} i (suc zero) = few_nodes T i.accepted
nodes_most i (suc (suc zero)) = omega arith
nodes_most {T} i (suc (suc (suc zero))) = few_slots T i.accepted
nodes_most i (suc (suc (suc (suc r)))) = omega arith

-- the first letter of a node
pub begins : {T : Table} {r n : ℕ} → r < 4 → n < nodes_in (source T) r → HasLetter (source T) r n 0
begins {T} {r} h l = record { rule = h; there = l; group = some_letter r }

pub next_letter : {T : Table} {c : Cursor} {k : ℕ} → Stands T c → k ≡ groups_in c.rule → c.group + 1 < k → HasLetter (source T) c.rule c.node (c.group + 1)
next_letter s e h = record { rule = s.rule; there = s.node; group = omega (arith, e) }

-- What falls -----------------------------------------------------------------------------------------------------------------
fall_y : (h y : ℕ) → y < 8 → h + (8 - (y + 1)) < h + (8 - y)
fall_y h y l = omega arith

fall_x : (x z : ℕ) → x < 128 → (128 - (x + 1)) * 100 + 8 < (128 - x) * 100 + z
fall_x x z l = omega arith

fall_g : (g z : ℕ) → g < 8 → (8 - (g + 1)) * 100000 + 12808 < (8 - g) * 100000 + z
fall_g g z l = omega arith

fall_n : (n z : ℕ) → n < 1024 → (1024 - (n + 1)) * 10000000 + 812808 < (1024 - n) * 10000000 + z
fall_n n z l = omega arith

fall_r : (r z : ℕ) → r < 4 → (4 - (r + 1)) * 100000000000 + 10240812808 < (4 - r) * 100000000000 + z
fall_r r z l = omega arith

under : (h : ℕ) {a b : ℕ} → a < b → h + a < h + b
under h l = omega arith

-- The end --------------------------------------------------------------------------------------------------------------------
pub left_at_end : (T : Table) → left_in T at_end ≡ []
unfolding left shape
left_at_end T = refl

-- A node passed ----------------------------------------------------------------------------------------------------------------
pub start_stands : (T : Table) (r n : ℕ) → r < 4 → n < nodes_in (source T) r → Stands T (of_pos T (at r n 0 0 0 0))
start_stands T r n h l = record { rule = h; node = l; group = some_letter r; x = omega arith; y = omega arith; len = refl }

module _ {T : Table} {ix : List ℕ} {c : Cursor} (i : Indexed T ix) (s : Stands T c) where
  few : c.node < 1024
  few = omega (arith, s.node, nodes_most i c.rule)

  low : (1024 - c.node) * 10000000 + ((8 - c.group) * 100000 + ((128 - c.x) * 100 + (8 - c.y))) < 10240812809
  low = omega arith

  pub node_next : {k : ℕ} → k ≡ nodes_in (source T) c.rule → c.node + 1 < k → NodePassed T c (of_pos T (at c.rule (c.node + 1) 0 0 0 0))
  node_next {k} e h = record {
    is = sym (rw (lt-ltb (c.node + 1) (nodes_in (source T) c.rule) (omega (arith, e))));
    same = refl;
    less = under ((4 - c.rule) * 100000000000) (fall_n c.node ((8 - c.group) * 100000 + ((128 - c.x) * 100 + (8 - c.y))) few);
    inside = inl (start_stands T c.rule (c.node + 1) s.rule (omega arith));
    start = (refl, refl, refl, refl);
  }

  module _ {k : ℕ} (e : k ≡ nodes_in (source T) c.rule) (last : k ≤ c.node + 1) where
    no_node : ltb (c.node + 1) (nodes_in (source T) c.rule) ≡ false
    no_node = le-ltb (c.node + 1) (nodes_in (source T) c.rule) (omega (arith, e))

    pub rule_last : c.rule + 1 ≡ 4 → NodePassed T c at_end
    rule_last q =
        let z : c.rule ≡ 3 = omega arith in
        let l : nodes_in (source T) c.rule ≤ c.node + 1 = omega (arith, e) in
        record {
          is = sym (rw (no_node, eq-eqb (c.rule + 1) 4 q));
          same = rw z (skip_last (source T) (c.node + 1) (rw z at l)) ∙ sym (left_at_end T);
          less = omega (arith, s.rule);
          inside = inr refl;
          start = (refl, refl, refl, refl);
        }

    passed : c.rule < 3 → left (shape (source T)) (at c.rule (c.node + 1) 0 0 0 0) ≡ left (shape (source T)) (at (c.rule + 1) 0 0 0 0 0)
    passed l = skip_rule (source T) c.rule (c.node + 1) (omega (arith, e)) l

    pub rule_next : (c.rule + 1 ≡ 4 → ⊥) → {m : ℕ} → m ≡ nodes_in (source T) (c.rule + 1) → (m ≡ 0 → ⊥) → NodePassed T c (of_pos T (at (c.rule + 1) 0 0 0 0 0))
    rule_next u {m} f v =
        let some : 0 < m = ne_lt (omega arith) (λ w. v (sym w)) in
        let l : c.rule < 3 = omega (arith, ne_lt (omega (arith, s.rule)) u) in
        record {
          is = sym (rw (no_node, ne_eqb (c.rule + 1) 4 u, ne_eqb (nodes_in (source T) (c.rule + 1)) 0 (λ w. v (f ∙ w))));
          same = passed l;
          less = fall_r c.rule ((1024 - c.node) * 10000000 + ((8 - c.group) * 100000 + ((128 - c.x) * 100 + (8 - c.y)))) s.rule;
          inside = inl (start_stands T (c.rule + 1) 0 (omega arith) (omega (arith, f, some)));
          start = (refl, refl, refl, refl);
        }

    pub rule_empty : (c.rule + 1 ≡ 4 → ⊥) → {m : ℕ} → m ≡ nodes_in (source T) (c.rule + 1) → m ≡ 0 → NodePassed T c at_end
    rule_empty u {m} f v =
        let l : c.rule < 3 = omega (arith, ne_lt (omega (arith, s.rule)) u) in
        record {
          is = sym (rw (no_node, ne_eqb (c.rule + 1) 4 u, eq-eqb (nodes_in (source T) (c.rule + 1)) 0 (sym f ∙ v)));
          same = passed l ∙ nothing c.rule l (omega (arith, f));
          less = omega (arith, s.rule);
          inside = inr refl;
          start = (refl, refl, refl, refl);
        }
      where
        nothing : (r : ℕ) → r < 3 → nodes_in (source T) (r + 1) ≡ 0 → left (shape (source T)) (at (r + 1) 0 0 0 0 0) ≡ left_in T at_end
        nothing zero l q = absurd (omega (arith, q, nodes_count T, nodes_some (root_place T)))
        nothing (suc zero) l q = absurd (omega (arith, q))
        nothing (suc (suc zero)) l q = skip_last (source T) 0 (omega (arith, q)) ∙ sym (left_at_end T)
        nothing (suc (suc (suc r))) l q = absurd (omega arith)

-- A row passed -----------------------------------------------------------------------------------------------------------------
module _ {T : Table} {ix : List ℕ} {c : Cursor} (i : Indexed T ix) (s : Stands T c) where
  abbrev S : Source
  S = source T

  abbrev len : ℕ
  len = row_len S c.rule c.node c.group c.x c.y

  pub row_next : {ky : ℕ} → ky ≡ (group_at S c.rule c.node c.group).ys → ky ≤ 8 → c.y + 1 < ky
      → Moved T c (of_pos T (at c.rule c.node c.group c.x (c.y + 1) 0))
  unfolding shape
  row_next {ky} ys most h = record {
    is = sym (rw (lt-ltb (c.y + 1) (group_at S c.rule c.node c.group).ys (omega (arith, ys))));
    same = left_row (shape S) (good S) c.rule c.node c.group c.x c.y len (omega arith);
    less = under ((4 - c.rule) * 100000000000) (under ((1024 - c.node) * 10000000) (under ((8 - c.group) * 100000) (fall_y ((128 - c.x) * 100) c.y (omega arith))));
    inside = inl (record { rule = s.rule; node = s.node; group = s.group; x = s.x; y = omega arith; len = refl });
    first = refl;
  }

  module _ {ky : ℕ} (ys : ky ≡ (group_at S c.rule c.node c.group).ys) (lastY : ky ≤ c.y + 1) where
    no_row : ltb (c.y + 1) (group_at S c.rule c.node c.group).ys ≡ false
    no_row = le-ltb (c.y + 1) (group_at S c.rule c.node c.group).ys (omega (arith, ys))

    pub column_next : {kx : ℕ} → kx ≡ (group_at S c.rule c.node c.group).xs → kx ≤ 128 → c.x + 1 < kx
        → Moved T c (of_pos T (at c.rule c.node c.group (c.x + 1) 0 0))
    unfolding shape
    column_next {kx} xs most h = record {
      is = sym (rw (no_row, lt-ltb (c.x + 1) (group_at S c.rule c.node c.group).xs (omega (arith, xs))));
      same = left_column (shape S) (good S) c.rule c.node c.group c.x c.y len (omega arith) (omega (arith, ys));
      less = under ((4 - c.rule) * 100000000000) (under ((1024 - c.node) * 10000000) (under ((8 - c.group) * 100000) (fall_x c.x (8 - c.y) (omega arith))));
      inside = inl (record { rule = s.rule; node = s.node; group = s.group; x = omega arith; y = omega arith; len = refl });
      first = refl;
    }

    module _ {kx : ℕ} (xs : kx ≡ (group_at S c.rule c.node c.group).xs) (lastX : kx ≤ c.x + 1) {kg : ℕ} (gs : kg ≡ groups_in c.rule) where
      no_column : ltb (c.x + 1) (group_at S c.rule c.node c.group).xs ≡ false
      no_column = le-ltb (c.x + 1) (group_at S c.rule c.node c.group).xs (omega (arith, xs))

      pub letter_next : c.group + 1 < kg → Moved T c (of_pos T (at c.rule c.node (c.group + 1) 0 0 0))
      unfolding shape
      letter_next h = record {
        is = sym (rw (no_row, no_column, lt-ltb (c.group + 1) (groups_in c.rule) (omega (arith, gs))));
        same = left_group (shape S) (good S) c.rule c.node c.group c.x c.y len (omega arith) (omega (arith, ys)) (omega (arith, xs)) (omega (arith, gs));
        less = under ((4 - c.rule) * 100000000000) (under ((1024 - c.node) * 10000000) (fall_g c.group ((128 - c.x) * 100 + (8 - c.y)) (omega (arith, s.group, few_letters c.rule))));
        inside = inl (record { rule = s.rule; node = s.node; group = omega (arith, gs); x = omega arith; y = omega arith; len = refl });
        first = refl;
      }

      pub node_passed : kg ≤ c.group + 1 → {d : Cursor} → NodePassed T c d → Moved T c d
      unfolding shape
      node_passed h {d} p = record {
        is = p.is ∙ sym (rw (no_row, no_column, le-ltb (c.group + 1) (groups_in c.rule) (omega (arith, gs))));
        same = left_node (shape S) (good S) c.rule c.node c.group c.x c.y len (omega arith) (omega (arith, ys)) (omega (arith, xs)) (omega (arith, gs)) ∙ p.same;
        less = p.less;
        inside = p.inside;
        first = p.start.3;
      }

-- The method -------------------------------------------------------------------------------------------------------------------
pub stands_of : {T : Table} {c : Cursor} → In T c → c.rule < 4 → Stands T c
stands_of (inl s) h = s
stands_of {T} {c} (inr e) h = let q : c.rule ≡ 4 = ap (λ (d : Cursor). d.rule) e in absurd (omega arith)

-- on the way from c₀ the cursor is at c
pub record Upto (T : Table) (c₀ c : Cursor) : Type 0 where
  pub same : left_in T c₀ ≡ left_in T c
  pub inside : In T c

-- nothing of the row is left
pub row_used : {T : Table} {c : Cursor} → Stands T c → c.len ≤ c.i → left_in T c ≡ left (shape (source T)) (row_end T c)
unfolding shape
row_used {T} {c} s h =
    left_row (shape (source T)) (good (source T)) c.rule c.node c.group c.x c.y c.i (omega (arith, s.len))
    ∙ sym (left_row (shape (source T)) (good (source T)) c.rule c.node c.group c.x c.y (row_len (source T) c.rule c.node c.group c.x c.y) (omega arith))

pub upto_move : {T : Table} {c₀ c d : Cursor} → Upto T c₀ c → c.rule < 4 → c.len ≤ c.i → Moved T c d → Upto T c₀ d
upto_move u r h m = record { same = u.same ∙ row_used (stands_of u.inside r) h ∙ m.same; inside = m.inside }

module _ {T : Table} {c₀ c : Cursor} (u : Upto T c₀ c) where
  -- the clauses of places
  abbrev clauses_of : List Pos → List PlanningClause
  clauses_of ps = map (literals (source T)) (map (place_at (source T)) ps)

  -- the place behind c's, in its row
  abbrev behind : Cursor
  behind = record { rule = c.rule; node = c.node; group = c.group; x = c.x; y = c.y; i = c.i + 1; len = c.len }

  pub hands_out : c.rule < 4 → c.i < c.len → (Some (c, behind) ≡ next_of T c₀) × Handed T (Some (c, behind)) × Means T c₀ (Some (c, behind))
  unfolding shape
  hands_out r h =
      let s = stands_of u.inside r in
      let l : c.i < row_len (source T) c.rule c.node c.group c.x c.y = omega (arith, s.len) in
      let q = u.same ∙ left_clause (shape (source T)) c.rule c.node c.group c.x c.y c.i l in (
        ap (λ (k : ℕ). Some (record { rule = c.rule; node = c.node; group = c.group; x = c.x; y = c.y; i = c.i; len = k }, record { rule = c.rule; node = c.node; group = c.group; x = c.x; y = c.y; i = c.i + 1; len = k })) s.len
            ∙ sym (ap (answer_of T) q),
        (record { stands = s; clause = l }, inl (record { rule = s.rule; node = s.node; group = s.group; x = s.x; y = s.y; len = s.len })),
        ap clauses_of q,
      )

  pub ends : 4 ≤ c.rule → (None ≡ next_of T c₀) × Handed T None × Means T c₀ None
  ends h = let q = u.same ∙ go u.inside in (sym (ap (answer_of T) q), tt, ap clauses_of q)
    where
      go : In T c → left_in T c ≡ []
      go (inl s) = absurd (omega (arith, s.rule))
      go (inr e) = ap (left_in T) e ∙ left_at_end T

-- Sums that fit ------------------------------------------------------------------------------------------------------------------
pub few_after : {T : Table} {ix : List ℕ} {c : Cursor} → Indexed T ix → Stands T c → c.node + 1 ≤ 1024
few_after {T} {ix} {c} i s = omega (arith, s.node, nodes_most i c.rule)

pub letters_after : {T : Table} {c : Cursor} → Stands T c → c.group + 1 ≤ 7
letters_after {T} {c} s = omega (arith, s.group, few_letters c.rule)

pub next_rule : {T : Table} {c : Cursor} → Stands T c → (c.rule + 1 ≡ 4 → ⊥) → c.rule + 1 < 4
next_rule s u = ne_lt (omega (arith, s.rule)) u

pub some_node : {k m : ℕ} → k ≡ m → (k ≡ 0 → ⊥) → 0 < m
some_node {k} e u = omega (arith, e, ne_lt (omega arith) (λ w. u (sym w)))
