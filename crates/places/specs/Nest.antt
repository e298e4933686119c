-- Inside the encoding, nothing to believe: positions in a nest of loops, in order, and what is left from a position on. A cursor is such a
-- position. Assumes nothing.
use Rattle.std.specs.Prelude.{◌≡◌, List, [], ◌∷◌, ◌++◌, ℕ, ◌+◌, ◌-◌, ◌≤◌}
use Rattle.lists.specs.List.{concat_map, from}

-- what f gives at k, k + 1, .. up to and without the limit
abbrev pub up_from : {A : Type 0} → (ℕ → List A) → (k limit : ℕ) → List A
up_from f k limit = concat_map f (from k (limit - k))

-- rule, node, group (letter) within the node, row (x, y) within the group, clause i of the row
pub record Pos : Type 0 where
  pub rule : ℕ
  pub node : ℕ
  pub group : ℕ
  pub x : ℕ
  pub y : ℕ
  pub i : ℕ

abbrev pub at : (r n g x y i : ℕ) → Pos
at r n g x y i = record { rule = r; node = n; group = g; x = x; y = y; i = i }

-- the loops' limits
pub record Shape : Type 0 where
  pub rules : ℕ
  pub nodes : ℕ → ℕ
  pub groups : ℕ → ℕ
  pub xs : (r n g : ℕ) → ℕ
  pub ys : (r n g : ℕ) → ℕ
  pub len : (r n g x y : ℕ) → ℕ

module _ (S : Shape) where
  abbrev pub row : (r n g x y : ℕ) → (i : ℕ) → List Pos
  row r n g x y i = up_from (λ j. at r n g x y j ∷ []) i (S.len r n g x y)

  abbrev pub rows : (r n g x : ℕ) → (y : ℕ) → List Pos
  rows r n g x y = up_from (λ z. row r n g x z 0) y (S.ys r n g)

  abbrev pub columns : (r n g : ℕ) → (x : ℕ) → List Pos
  columns r n g x = up_from (λ z. rows r n g z 0) x (S.xs r n g)

  abbrev pub groups_from : (r n : ℕ) → (g : ℕ) → List Pos
  groups_from r n g = up_from (λ z. columns r n z 0) g (S.groups r)

  abbrev pub nodes_from : (r : ℕ) → (n : ℕ) → List Pos
  nodes_from r n = up_from (λ z. groups_from r z 0) n (S.nodes r)

  abbrev pub rules_from : (r : ℕ) → List Pos
  rules_from r = up_from (λ z. nodes_from z 0) r S.rules

  -- all positions, in order
  abbrev pub positions : List Pos
  positions = rules_from 0

  -- those at or after the cursor c
  unfoldable pub left : Pos → List Pos
  left c =
      row c.rule c.node c.group c.x c.y c.i
      ++ (rows c.rule c.node c.group c.x (c.y + 1)
      ++ (columns c.rule c.node c.group (c.x + 1)
      ++ (groups_from c.rule c.node (c.group + 1)
      ++ (nodes_from c.rule (c.node + 1)
      ++ rules_from (c.rule + 1)))))

  -- every node has a group; outside of its limits a row is empty
  pub record Good : Type 0 where
    pub some_group : (r : ℕ) → 1 ≤ S.groups r
    pub out_n : (r n g x y : ℕ) → S.nodes r ≤ n → S.len r n g x y ≡ 0
    pub out_x : (r n g x y : ℕ) → S.xs r n g ≤ x → S.len r n g x y ≡ 0
    pub out_y : (r n g x y : ℕ) → S.ys r n g ≤ y → S.len r n g x y ≡ 0
