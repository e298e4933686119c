-- The literals of all places, in order, are the formula.
-- Level by level of the loops, then rule by rule.
use mathlib.Core.Path.{◌≡◌, refl, sym, ap, ap₂, ◌∙◌}
use mathlib.Core.List.{List, [], ◌∷◌, ◌++◌, map, append-nil}
use Prim.Native.Nat.{ℕ, zero, suc, ◌+◌, ◌-◌, ◌≤◌, ◌<◌}
use native.Mathlib.Omega.{arith}
use lib.ListN.{length, get_or}
use lib.Dec.{ltb}
use borrow.Author.Tests.{lt-ltb, le-ltb}
use Rattle.lists.specs.List.{concat_map, number, up_to}
use Rattle.lists.proofs.Bool.{and_off}
use Rattle.planning.specs.Table.{Table, job}
use Rattle.planning.specs.Place.{Place, slot, inner, root_place}
use Rattle.planning.specs.Record.{records}
use Rattle.planning.specs.Variable.{task_vars, slots}
use Rattle.planning.specs.Clause.{Clause, var_of, rule3, rule4, formula}
use Rattle.places.specs.Nest.{up_from, Pos, at, row, rows, columns, groups_from, nodes_from, positions, Good}
use Rattle.places.specs.Flat.{tasks_at, clauses_of}
use Rattle.places.specs.ClausePlace.{no_node, Source, root, start, node_at, slot_at, literals, group_at, nodes_in, groups_in, row_len, shape, place_at, source_of}
use Rattle.places.proofs.Records.{tree_nodes, tasks_of_lem, nodes_records, rule2_records, slots_records, vars_records}
use Rattle.places.proofs.Index.{concat_map_shift, concat_map_below, concat_map_one, map_concat_map, concat_map_index}
use Rattle.places.proofs.Groups.{row_clauses, group_clauses, slot_clauses, single_clauses, node_clauses, slot_clauses_lem}

up_from_zero : {A : Type 0} (f : ℕ → List A) (n : ℕ) → up_from f 0 n ≡ concat_map f (up_to n)
up_from_zero f n = let e : n - 0 ≡ n = omega arith in rw e

module _ (S : Source) where
  -- the clause at a position
  abbrev pub clause_at : Pos → Clause
  clause_at p = literals S (place_at S p)

  pub good : Good (shape S)
  unfolding shape
  good = record {
    some_group = some;
    out_n = λ r n g x y h. rw (le-ltb n (nodes_in S r) h);
    out_x = λ r n g x y h. rw (le-ltb x (group_at S r n g).xs h, and_off (ltb n (nodes_in S r)));
    out_y = λ r n g x y h. rw (le-ltb y (group_at S r n g).ys h, and_off (ltb x (group_at S r n g).xs), and_off (ltb n (nodes_in S r)));
  }
    where
      some : (r : ℕ) → 1 ≤ groups_in r
      some zero = omega arith
      some (suc zero) = omega arith
      some (suc (suc zero)) = omega arith
      some (suc (suc (suc zero))) = omega arith
      some (suc (suc (suc (suc r)))) = omega arith

  module _ (r n : ℕ) (inN : n < nodes_in S r) where
    len_in : (g x y : ℕ) → x < (group_at S r n g).xs → y < (group_at S r n g).ys → row_len S r n g x y ≡ (group_at S r n g).len x y
    len_in g x y h k = rw (lt-ltb n (nodes_in S r) inN, lt-ltb x (group_at S r n g).xs h, lt-ltb y (group_at S r n g).ys k)

    row_map : (g x y : ℕ) → x < (group_at S r n g).xs → y < (group_at S r n g).ys → map clause_at (row (shape S) r n g x y 0) ≡ row_clauses S (group_at S r n g) x y
    unfolding shape
    row_map g x y h k =
        ap (map clause_at) (up_from_zero (λ j. at r n g x y j ∷ []) (row_len S r n g x y))
        ∙ (map_concat_map clause_at (λ j. at r n g x y j ∷ []) (up_to (row_len S r n g x y))
        ∙ (concat_map_one (λ i. clause_at (at r n g x y i)) (up_to (row_len S r n g x y))
        ∙ ap (λ m. map (λ i. clause_at (at r n g x y i)) (up_to m)) (len_in g x y h k)))

    rows_map : (g x : ℕ) → x < (group_at S r n g).xs → map clause_at (rows (shape S) r n g x 0) ≡ concat_map (λ y. row_clauses S (group_at S r n g) x y) (up_to (group_at S r n g).ys)
    unfolding shape
    rows_map g x h =
        ap (map clause_at) (up_from_zero (λ z. row (shape S) r n g x z 0) (group_at S r n g).ys)
        ∙ (map_concat_map clause_at (λ z. row (shape S) r n g x z 0) (up_to (group_at S r n g).ys)
        ∙ concat_map_below _ _ (group_at S r n g).ys (λ y k. row_map g x y h k))

    columns_map : (g : ℕ) → map clause_at (columns (shape S) r n g 0) ≡ group_clauses S (group_at S r n g)
    unfolding shape
    columns_map g =
        ap (map clause_at) (up_from_zero (λ z. rows (shape S) r n g z 0) (group_at S r n g).xs)
        ∙ (map_concat_map clause_at (λ z. rows (shape S) r n g z 0) (up_to (group_at S r n g).xs)
        ∙ concat_map_below _ _ (group_at S r n g).xs (λ x h. rows_map g x h))

    pub groups_map : map clause_at (groups_from (shape S) r n 0) ≡ concat_map (λ g. group_clauses S (group_at S r n g)) (up_to (groups_in r))
    unfolding shape
    groups_map =
        ap (map clause_at) (up_from_zero (λ z. columns (shape S) r n z 0) (groups_in r))
        ∙ (map_concat_map clause_at (λ z. columns (shape S) r n z 0) (up_to (groups_in r))
        ∙ concat_map_below _ _ (groups_in r) (λ g h. columns_map g))

  pub nodes_map : (r : ℕ) → map clause_at (nodes_from (shape S) r 0) ≡ concat_map (λ n. concat_map (λ g. group_clauses S (group_at S r n g)) (up_to (groups_in r))) (up_to (nodes_in S r))
  unfolding shape
  nodes_map r =
      ap (map clause_at) (up_from_zero (λ z. groups_from (shape S) r z 0) (nodes_in S r))
      ∙ (map_concat_map clause_at (λ z. groups_from (shape S) r z 0) (up_to (nodes_in S r))
      ∙ concat_map_below _ _ (nodes_in S r) (λ n h. groups_map r n h))

  pub rule1_map : map clause_at (nodes_from (shape S) 0 0) ≡ literals S root ∷ []
  rule1_map = nodes_map 0

  pub rule2_map : map clause_at (nodes_from (shape S) 1 0) ≡ concat_map (clauses_of S.table) S.nodes
  rule2_map =
      nodes_map 1
      ∙ (concat_map_below _ (λ n. clauses_of S.table (node_at S n)) (length S.nodes) (λ n h. node_clauses S n)
      ∙ sym (concat_map_index no_node (clauses_of S.table) S.nodes))

  pub rule3_map : map clause_at (nodes_from (shape S) 2 0) ≡ rule3 S.table S.facts
  rule3_map = nodes_map 2 ∙ (append-nil _ ∙ (append-nil _ ∙ single_clauses S S.table.facts (λ i. start i)))

  pub rule4_map : map clause_at (nodes_from (shape S) 3 0) ≡ concat_map (λ n. slot_clauses S.table S.facts n (slot_at S n)) (up_to (length S.slots))
  rule4_map = nodes_map 3 ∙ concat_map_below _ _ (length S.slots) (λ n h. slot_clauses_lem S n)

rule4_index : (T : Table) (b k : ℕ) (xss : List (List (ℕ × ℕ))) → rule4 T b k xss ≡ concat_map (λ i. slot_clauses T b (k + i) (get_or xss i [])) (up_to (length xss))
rule4_index T b k [] = refl
rule4_index T b k (xs ∷ xss) =
    let z : k + 0 ≡ k = omega arith in
    rw z (ap (λ l. slot_clauses T b k xs ++ l) (
    rule4_index T b (suc k) xss
    ∙ (concat_map_below _ (λ i. slot_clauses T b (k + suc i) (get_or xss i [])) (length xss)
    (λ i h. let e : suc k + i ≡ k + suc i = omega arith in rw e)
    ∙ sym (concat_map_shift (λ i. slot_clauses T b (k + i) (get_or (xs ∷ xss) i [])) 0 (length xss)))
    ))

root_tasks : (T : Table) (p : Place) (n b : ℕ) → tasks_at (get_or (tree_nodes T p n b) 0 no_node) ≡ task_vars p b
root_tasks T (slot L) n b = ap (number b) (tasks_of_lem T (slot L))
root_tasks T (inner L ps) n b = refl

-- The theorems -----------------------------------------------------------------------------------------------------------
module _ (S : Source) where
  all_map : map (clause_at S) (positions (shape S))
      ≡ literals S root ∷ (concat_map (clauses_of S.table) S.nodes ++ (rule3 S.table S.facts ++ rule4 S.table S.facts 0 S.slots))
  unfolding shape
  all_map =
      map_concat_map (clause_at S) (λ z. nodes_from (shape S) z 0) (up_to 4)
      ∙ ap₂ (λ k l. k ++ l) (rule1_map S)
      (ap₂ (λ k l. k ++ l) (rule2_map S)
      (ap₂ (λ k l. k ++ l) (rule3_map S)
      (append-nil _
      ∙ (rule4_map S
      ∙ (concat_map_below _ _ (length S.slots) (λ n h. let e : n ≡ 0 + n = omega arith in ap (λ m. slot_clauses S.table S.facts m (slot_at S n)) e)
      ∙ sym (rule4_index S.table S.facts 0 S.slots))))))

-- the places of a table's own records give the formula
pub formula_places : (T : Table) → map (clause_at (source_of T (records T))) (positions (shape (source_of T (records T)))) ≡ formula T
formula_places T =
    let S = source_of T (records T) in
    all_map S
    ∙ ap₂ (λ c l. c ∷ l)
    (ap (var_of (job T.root)) (ap (λ ns. tasks_at (get_or ns 0 no_node)) (nodes_records T) ∙ root_tasks T (root_place T) 0 1))
    (ap₂ (λ k l. k ++ l) (rule2_records T)
    (ap₂ (λ b xss. rule3 T b ++ rule4 T b 0 xss) (ap suc (vars_records T)) (slots_records T)))
