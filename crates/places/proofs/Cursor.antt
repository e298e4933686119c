-- Next after next, the cursor hands out every place of the formula, in order.
-- Level by level: behind each position the later ones are left.
use mathlib.Core.Path.{◌≡◌, refl, sym, ap₂, ◌∙◌, subst}
use mathlib.Core.List.{List, [], ◌∷◌, ◌++◌, append_assoc, append-nil}
use Prim.Native.Nat.{ℕ, zero, suc, ◌+◌, ◌-◌, ◌≤◌}
use native.Mathlib.Omega.{arith}
use native.Mathlib.Numerals.{add-one}
use Rattle.lists.specs.List.{concat_map, from}
use Rattle.places.specs.Nest.{up_from, Pos, at, Shape, row, rows, columns, groups_from, nodes_from, rules_from, left}
use Rattle.places.specs.ClausePlace.{Source, shape}
use Rattle.places.specs.Cursor.{after}

module _ (S : Shape) where
  -- behind each of these the later ones are left, and then post
  abbrev pub Chain : List Pos → List Pos → Type 0
  Chain [] post = Unit {0}
  Chain (p ∷ ps) post = (left S (after p) ≡ ps ++ post) × Chain ps post

  chain_append : (ps qs post : List Pos) → Chain ps (qs ++ post) → Chain qs post → Chain (ps ++ qs) post
  chain_append [] qs post c d = d
  chain_append (p ∷ ps) qs post c d = (c.0 ∙ sym (append_assoc ps qs post), chain_append ps qs post c.1 d)

  chain_up_from : (f : ℕ → List Pos) (post : List Pos) (k n : ℕ) → ((j : ℕ) → Chain (f j) (up_from f (j + 1) n ++ post)) → Chain (up_from f k n) post
  chain_up_from f post k n h = go (n - k) k (omega arith)
    where
      go : (m k : ℕ) → m ≡ n - k → Chain (concat_map f (from k m)) post
      go zero k e = tt
      go (suc m) k e =
          let q : n - (k + 1) ≡ m = omega arith in
          chain_append (f k) (concat_map f (from (suc k) m)) post
          (subst (λ (l : List Pos). Chain (f k) (l ++ post)) (ap₂ (λ a b. concat_map f (from a b)) (add-one k) q) (h k))
          (go m (suc k) (omega arith))

  -- what stands behind a rule, a node, a group, a column, a row
  abbrev behind_rule : (r : ℕ) → List Pos
  behind_rule r = rules_from S (r + 1)

  abbrev behind_node : (r n : ℕ) → List Pos
  behind_node r n = nodes_from S r (n + 1) ++ behind_rule r

  abbrev behind_group : (r n g : ℕ) → List Pos
  behind_group r n g = groups_from S r n (g + 1) ++ behind_node r n

  abbrev behind_column : (r n g x : ℕ) → List Pos
  behind_column r n g x = columns S r n g (x + 1) ++ behind_group r n g

  abbrev behind_row : (r n g x y : ℕ) → List Pos
  behind_row r n g x y = rows S r n g x (y + 1) ++ behind_column r n g x

  -- level by level
  chain_row : (r n g x y i : ℕ) → Chain (row S r n g x y i) (behind_row r n g x y)
  unfolding left
  chain_row r n g x y i = chain_up_from (λ j. at r n g x y j ∷ []) (behind_row r n g x y) i (S.len r n g x y) (λ j. (refl, tt))

  chain_rows : (r n g x y : ℕ) → Chain (rows S r n g x y) (behind_column r n g x)
  chain_rows r n g x y = chain_up_from (λ z. row S r n g x z 0) (behind_column r n g x) y (S.ys r n g) (λ z. chain_row r n g x z 0)

  chain_columns : (r n g x : ℕ) → Chain (columns S r n g x) (behind_group r n g)
  chain_columns r n g x = chain_up_from (λ z. rows S r n g z 0) (behind_group r n g) x (S.xs r n g) (λ z. chain_rows r n g z 0)

  chain_groups : (r n g : ℕ) → Chain (groups_from S r n g) (behind_node r n)
  chain_groups r n g = chain_up_from (λ z. columns S r n z 0) (behind_node r n) g (S.groups r) (λ z. chain_columns r n z 0)

  chain_nodes : (r n : ℕ) → Chain (nodes_from S r n) (behind_rule r)
  chain_nodes r n = chain_up_from (λ z. groups_from S r z 0) (behind_rule r) n (S.nodes r) (λ z. chain_groups r z 0)

  chain_rules : (r : ℕ) → Chain (rules_from S r) []
  chain_rules r =
      chain_up_from (λ z. nodes_from S z 0) [] r S.rules
      (λ z. subst (λ (l : List Pos). Chain (nodes_from S z 0) l) (sym (append-nil (behind_rule z))) (chain_nodes z 0))

  -- a piece and what is behind it, where nothing more comes
  chain_join : (ps qs : List Pos) → Chain ps qs → Chain qs [] → Chain (ps ++ qs) []
  chain_join ps qs c d = chain_append ps qs [] (subst (λ (l : List Pos). Chain ps l) (sym (append-nil qs)) c) d

  -- behind each position that is left the later ones are left
  pub chain_left : (c : Pos) → Chain (left S c) []
  unfolding left
  chain_left c =
      let r = c.rule in let n = c.node in let g = c.group in let x = c.x in let y = c.y in
      chain_join (row S r n g x y c.i) (behind_row r n g x y) (chain_row r n g x y c.i)
      (chain_join (rows S r n g x (y + 1)) (behind_column r n g x) (chain_rows r n g x (y + 1))
      (chain_join (columns S r n g (x + 1)) (behind_group r n g) (chain_columns r n g (x + 1))
      (chain_join (groups_from S r n (g + 1)) (behind_node r n) (chain_groups r n (g + 1))
      (chain_join (nodes_from S r (n + 1)) (behind_rule r) (chain_nodes r (n + 1)) (chain_rules (r + 1))))))

  -- whatever the cursor: behind the first position that is left the others are left
  pub left_behind : (c p : Pos) (ps : List Pos) → left S c ≡ p ∷ ps → left S (after p) ≡ ps
  left_behind c p ps e = (subst (λ (l : List Pos). Chain l []) e (chain_left c)).0 ∙ append-nil ps

pub four_rules : (S : Source) → 1 ≤ (shape S).rules
unfolding shape
four_rules S = omega arith

-- with a table's own records
