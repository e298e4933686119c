-- How a cursor walks: one law for each way that it goes on.
-- By the laws of loops, level by level.
use mathlib.Core.Path.{◌≡◌, refl, sym, ap, ◌∙◌}
use mathlib.Core.List.{List, [], ◌∷◌, ◌++◌, append_assoc}
use mathlib.Core.Logic.{◌⊎◌, inl, inr}
use Prim.Native.Nat.{ℕ, zero, suc, ◌+◌, ◌-◌, ◌≤◌, ◌<◌}
use native.Mathlib.Omega.{arith}
use Rattle.lists.specs.List.{concat_map, from}
use Rattle.lists.proofs.Order.{le_or_lt}
use Rattle.places.specs.Nest.{up_from, Pos, at, Shape, row, rows, columns, groups_from, nodes_from, rules_from, positions, left, Good}

module _ {A : Type 0} (f : ℕ → List A) where
  pub up_from_end : (k n : ℕ) → n ≤ k → up_from f k n ≡ []
  up_from_end k n h = go (n - k) (omega arith)
    where
      go : (m : ℕ) → m ≡ 0 → concat_map f (from k m) ≡ []
      go zero e = refl
      go (suc m) e = absurd (omega arith)

  pub up_from_more : (k n : ℕ) → k < n → up_from f k n ≡ f k ++ up_from f (k + 1) n
  up_from_more k n h = go (n - k) (n - (k + 1)) (k + 1) (omega arith) (omega arith)
    where
      go : (m m' k' : ℕ) → m ≡ suc m' → k' ≡ suc k → concat_map f (from k m) ≡ f k ++ concat_map f (from k' m')
      go m m' k' e q = rw (e, q)

  -- where all of them are empty
  pub up_from_none : ((k : ℕ) → f k ≡ []) → (k n : ℕ) → up_from f k n ≡ []
  up_from_none h k n = go k (n - k)
    where
      go : (k m : ℕ) → concat_map f (from k m) ≡ []
      go k zero = refl
      go k (suc m) = rw (h k, go (suc k) m)

  -- the first, also where there is none if it is then empty
  pub up_from_first : (k n : ℕ) → (n ≤ k → f k ≡ []) → up_from f k n ≡ f k ++ up_from f (k + 1) n
  up_from_first k n h = go (le_or_lt n k)
    where
      go : (n ≤ k) ⊎ (k < n) → up_from f k n ≡ f k ++ up_from f (k + 1) n
      go (inl l) = up_from_end k n l ∙ sym (rw (h l, up_from_end (k + 1) n (omega arith)))
      go (inr l) = up_from_more k n l

module _ (S : Shape) where
  -- a clause
  pub left_clause : (r n g x y i : ℕ) → i < S.len r n g x y → left S (at r n g x y i) ≡ at r n g x y i ∷ left S (at r n g x y (i + 1))
  unfolding left
  left_clause r n g x y i h = rw (up_from_more (λ j. at r n g x y j ∷ []) i (S.len r n g x y) h)

module _ (S : Shape) (good : Good S) where
  -- the parts of a group, a node, a rule, from their first rows on
  rows_fresh : (r n g x : ℕ) → (y : ℕ) → rows S r n g x y ≡ row S r n g x y 0 ++ rows S r n g x (y + 1)
  rows_fresh r n g x y = up_from_first (λ z. row S r n g x z 0) y (S.ys r n g) (λ h. up_from_end (λ j. at r n g x y j ∷ []) 0 (S.len r n g x y) (omega (arith, good.out_y r n g x y h)))

  columns_fresh : (r n g x : ℕ) → columns S r n g x ≡ rows S r n g x 0 ++ columns S r n g (x + 1)
  columns_fresh r n g x = up_from_first (λ z. rows S r n g z 0) x (S.xs r n g)
      (λ h. up_from_none (λ z. row S r n g x z 0) (λ y. up_from_end (λ j. at r n g x y j ∷ []) 0 (S.len r n g x y) (omega (arith, good.out_x r n g x y h))) 0 (S.ys r n g))

  -- to the next row, column, group, node, rule
  pub left_row : (r n g x y i : ℕ) → S.len r n g x y ≤ i → left S (at r n g x y i) ≡ left S (at r n g x (y + 1) 0)
  unfolding left
  left_row r n g x y i h =
      rw (up_from_end (λ j. at r n g x y j ∷ []) i (S.len r n g x y) h, rows_fresh r n g x (y + 1))
      (append_assoc (row S r n g x (y + 1) 0) (rows S r n g x (y + 1 + 1)) _)

  -- each with what comes after it
  fresh_columns : (r n g x : ℕ) (t : List Pos) → columns S r n g x ++ t ≡ row S r n g x 0 0 ++ (rows S r n g x 1 ++ (columns S r n g (x + 1) ++ t))
  fresh_columns r n g x t =
      ap (λ l. l ++ t) (columns_fresh r n g x ∙ ap (λ l. l ++ columns S r n g (x + 1)) (rows_fresh r n g x 0))
      ∙ simp append_assoc

  fresh_groups : (r n g : ℕ) (t : List Pos) → g < S.groups r
      → groups_from S r n g ++ t ≡ row S r n g 0 0 0 ++ (rows S r n g 0 1 ++ (columns S r n g 1 ++ (groups_from S r n (g + 1) ++ t)))
  fresh_groups r n g t h =
      ap (λ l. l ++ t) (up_from_more (λ z. columns S r n z 0) g (S.groups r) h)
      ∙ (append_assoc (columns S r n g 0) (groups_from S r n (g + 1)) t ∙ fresh_columns r n g 0 (groups_from S r n (g + 1) ++ t))

  row_out : (r n g x y : ℕ) → S.len r n g x y ≡ 0 → row S r n g x y 0 ≡ []
  row_out r n g x y e = up_from_end (λ j. at r n g x y j ∷ []) 0 (S.len r n g x y) (omega arith)

  node_out : (r n : ℕ) → S.nodes r ≤ n → groups_from S r n 0 ≡ []
  node_out r n h = up_from_none (λ z. columns S r n z 0)
      (λ g. up_from_none (λ z. rows S r n g z 0)
      (λ x. up_from_none (λ z. row S r n g x z 0) (λ y. row_out r n g x y (good.out_n r n g x y h)) 0 (S.ys r n g)) 0 (S.xs r n g)) 0 (S.groups r)

  fresh_nodes : (r n : ℕ) (t : List Pos)
      → nodes_from S r n ++ t ≡ row S r n 0 0 0 0 ++ (rows S r n 0 0 1 ++ (columns S r n 0 1 ++ (groups_from S r n 1 ++ (nodes_from S r (n + 1) ++ t))))
  fresh_nodes r n t =
      ap (λ l. l ++ t) (up_from_first (λ z. groups_from S r z 0) n (S.nodes r) (node_out r n))
      ∙ (append_assoc (groups_from S r n 0) (nodes_from S r (n + 1)) t ∙ fresh_groups r n 0 (nodes_from S r (n + 1) ++ t) (good.some_group r))

  fresh_rules : (r : ℕ) → r < S.rules
      → rules_from S r ≡ row S r 0 0 0 0 0 ++ (rows S r 0 0 0 1 ++ (columns S r 0 0 1 ++ (groups_from S r 0 1 ++ (nodes_from S r 1 ++ rules_from S (r + 1)))))
  fresh_rules r h = up_from_more (λ z. nodes_from S z 0) r S.rules h ∙ fresh_nodes r 0 (rules_from S (r + 1))

  -- all that is left from the first position of a node on
  pub left_node_start : (r n : ℕ) → left S (at r n 0 0 0 0) ≡ nodes_from S r n ++ rules_from S (r + 1)
  unfolding left
  left_node_start r n = sym (fresh_nodes r n (rules_from S (r + 1)))

  pub left_start : 1 ≤ S.rules → left S (at 0 0 0 0 0 0) ≡ positions S
  unfolding left
  left_start h = sym (fresh_rules 0 h)

  module _ (r n g x y i : ℕ) (none : S.len r n g x y ≤ i) where
    row_none : row S r n g x y i ≡ []
    row_none = up_from_end (λ j. at r n g x y j ∷ []) i (S.len r n g x y) none

    module _ (last : S.ys r n g ≤ y + 1) where
      rows_none : rows S r n g x (y + 1) ≡ []
      rows_none = up_from_end (λ z. row S r n g x z 0) (y + 1) (S.ys r n g) last

      pub left_column : left S (at r n g x y i) ≡ left S (at r n g (x + 1) 0 0)
      unfolding left
      left_column = rw (row_none, rows_none) (fresh_columns r n g (x + 1) (groups_from S r n (g + 1) ++ (nodes_from S r (n + 1) ++ rules_from S (r + 1))))

      module _ (lastX : S.xs r n g ≤ x + 1) where
        columns_none : columns S r n g (x + 1) ≡ []
        columns_none = up_from_end (λ z. rows S r n g z 0) (x + 1) (S.xs r n g) lastX

        pub left_group : g + 1 < S.groups r → left S (at r n g x y i) ≡ left S (at r n (g + 1) 0 0 0)
        unfolding left
        left_group h = rw (row_none, rows_none, columns_none) (fresh_groups r n (g + 1) (nodes_from S r (n + 1) ++ rules_from S (r + 1)) h)

        module _ (lastG : S.groups r ≤ g + 1) where
          groups_none : groups_from S r n (g + 1) ≡ []
          groups_none = up_from_end (λ z. columns S r n z 0) (g + 1) (S.groups r) lastG

          pub left_node : left S (at r n g x y i) ≡ left S (at r (n + 1) 0 0 0 0)
          unfolding left
          left_node = rw (row_none, rows_none, columns_none, groups_none) (fresh_nodes r (n + 1) (rules_from S (r + 1)))

          module _ (lastN : S.nodes r ≤ n + 1) where
            nodes_none : nodes_from S r (n + 1) ≡ []
            nodes_none = up_from_end (λ z. groups_from S r z 0) (n + 1) (S.nodes r) lastN
