-- The counts are the lengths.
-- Group by group, and by recursion on how many are summed up.
use mathlib.Core.Path.{◌≡◌, refl, sym, ap, ap₂, ◌∙◌}
use mathlib.Core.Bool.{cond}
use mathlib.Core.List.{List, [], ◌++◌, map, append_assoc, append-nil}
use Prim.Native.Nat.{ℕ, zero, suc, ◌+◌, ◌-◌, ◌*◌, ◌≤◌, ◌<◌}
use native.Mathlib.Nat.{suc-mul, zero-mul}
use native.Mathlib.Omega.{arith}
use lib.ListN.{length, get_or, drop, length-append, length-map}
use lib.Seq.{drop-append-add}
use lib.Dec.{ltb}
use borrow.Author.Tests.{lt-ltb, le-ltb}
use Rattle.lists.specs.List.{concat_map, number, from, up_to}
use Rattle.lists.proofs.Number.{length_from, number_length}
use Rattle.planning.specs.Table.{Table}
use Rattle.planning.specs.Record.{records}
use Rattle.planning.specs.Clause.{Clause, formula}
use Rattle.planning.proofs.Sizes.Count.{pairs_count}
use Rattle.places.specs.Nest.{at, groups_from, nodes_from, rules_from, positions, left}
use Rattle.places.specs.ClausePlace.{Source, tasks_n, node_at, slot_at, Group, pair_group, group_at, groups_in, nodes_in, shape, literals, source_of}
use Rattle.places.specs.Total.{sum_to, group_count, pair_count, widths_to, body_count, pass_count, node_count, effect_count, slot_count, count_at, clause_count}
use Rattle.places.proofs.Index.{concat_map_shift}
use Rattle.places.proofs.Groups.{row_clauses, group_clauses, pair_clauses}
use Rattle.places.proofs.Formula.{clause_at, good, groups_map, nodes_map, formula_places}
use Rattle.places.proofs.Walk.{up_from_end, up_from_more, left_node_start}

-- Sums --------------------------------------------------------------------------------------------------------------------
pub sum_to_first : (f : ℕ → ℕ) (n : ℕ) → sum_to f (suc n) ≡ f 0 + sum_to (λ i. f (suc i)) n
sum_to_first f zero = omega arith
sum_to_first f (suc n) = omega (arith, sum_to_first f n)

pub sum_to_same : (f g : ℕ → ℕ) (n : ℕ) → ((i : ℕ) → i < n → f i ≡ g i) → sum_to f n ≡ sum_to g n
sum_to_same f g zero h = refl
sum_to_same f g (suc n) h = cc (sum_to_same f g n (λ i k. h i (omega arith)), h n (omega arith))

pub sum_to_const : (c n : ℕ) → sum_to (λ i. c) n ≡ n * c
sum_to_const c zero = sym (zero-mul c)
sum_to_const c (suc n) = omega (arith, sum_to_const c n, suc-mul n c)

pub length_concat_map : {B : Type 0} (f : ℕ → List B) (n : ℕ) → length (concat_map f (up_to n)) ≡ sum_to (λ i. length (f i)) n
length_concat_map f zero = refl
length_concat_map f (suc n) =
    length-append (f 0) (concat_map f (from 1 n))
    ∙ (ap (λ m. length (f 0) + m) (ap length (concat_map_shift f 0 n) ∙ length_concat_map (λ i. f (suc i)) n)
    ∙ sym (sum_to_first (λ i. length (f i)) n))

length_row : {B : Type 0} (f : ℕ → B) (n : ℕ) → length (map f (up_to n)) ≡ n
length_row f n = length-map (up_to n) f ∙ length_from 0 n

pub group_count_lem : (S : Source) (G : Group) → length (group_clauses S G) ≡ group_count G
group_count_lem S G =
    length_concat_map (λ x. concat_map (λ y. row_clauses S G x y) (up_to G.ys)) G.xs
    ∙ sum_to_same _ _ G.xs (λ x h.
    length_concat_map (λ y. row_clauses S G x y) G.ys
    ∙ sum_to_same _ _ G.ys (λ y k. length_row (λ i. literals S (G.place x y i)) (G.len x y)))

-- Groups --------------------------------------------------------------------------------------------------------------------
pair_count_lem : (b n : ℕ) → group_count (pair_group b n) ≡ pair_count n
pair_count_lem b n =
    let S : Source = record { table = record { facts = 0; steps = []; jobs = 0; methods = []; start = []; root = 0; depth = 0 }; nodes = []; slots = []; facts = 0 } in
    let e : length (number b (up_to n)) ≡ n = number_length b (up_to n) ∙ length_from 0 n in
    sym (group_count_lem S (pair_group b n))
    ∙ (ap length (pair_clauses S b n (up_to n) (length_from 0 n))
    ∙ (pairs_count (number b (up_to n)) ∙ ap pair_count e))

length_seven : (f : ℕ → List Clause) → length (concat_map f (up_to 7))
    ≡ length (f 0) + (length (f 1) + (length (f 2) + (length (f 3) + (length (f 4) + (length (f 5) + length (f 6))))))
length_seven f = simp (append-nil, length-append)

module _ (S : Source) (n : ℕ) where
  group_at_lem : (r g : ℕ) (c : ℕ) → group_count (group_at S r n g) ≡ c → length (group_clauses S (group_at S r n g)) ≡ c
  group_at_lem r g c e = group_count_lem S (group_at S r n g) ∙ e

  node_count_lem : length (concat_map (λ g. group_clauses S (group_at S 1 n g)) (up_to 7)) ≡ node_count S.table (node_at S n)
  node_count_lem =
      let N = node_at S n in
      length_seven (λ g. group_clauses S (group_at S 1 n g))
      ∙ ap₂ (λ a b. a + b) (group_at_lem 1 0 _ (pair_count_lem N.first (tasks_n N)))
      (ap₂ (λ a b. a + b) (group_at_lem 1 1 _ (pair_count_lem (N.first + tasks_n N) (length N.methods)))
      (ap₂ (λ a b. a + b) (group_at_lem 1 2 (length N.jobs) (omega arith))
      (ap₂ (λ a b. a + b) (group_at_lem 1 3 (length N.methods) (omega arith))
      (ap₂ (λ a b. a + b) (group_at_lem 1 4 (sum_to (body_count S.table N) (length N.methods)) refl)
      (ap₂ (λ a b. a + b) (group_at_lem 1 5 (length N.steps * pass_count N) (sum_to_const (pass_count N) (length N.steps)))
      (group_at_lem 1 6 (widths_to N (length N.children)) (sum_to_same _ _ (length N.children) (λ x h. omega arith))))))))

  slot_count_lem : length (concat_map (λ g. group_clauses S (group_at S 3 n g)) (up_to 2)) ≡ slot_count S.table (slot_at S n)
  slot_count_lem =
      length-append (group_clauses S (group_at S 3 n 0)) (group_clauses S (group_at S 3 n 1) ++ [])
      ∙ ap₂ (λ a b. a + b)
      (group_at_lem 3 0 (sum_to (λ x. effect_count S.table (get_or (slot_at S n) x (0, 0)).1) (length (slot_at S n))) (sum_to_same _ _ (length (slot_at S n)) (λ x h. omega arith)))
      (ap length (append-nil (group_clauses S (group_at S 3 n 1))) ∙ group_at_lem 3 1 (S.table.facts + S.table.facts) (sum_to_const 2 S.table.facts ∙ omega arith))

-- Nodes, and all -------------------------------------------------------------------------------------------------------------
module _ (S : Source) where
  groups_count : (r n : ℕ) → n < nodes_in S r → length (concat_map (λ g. group_clauses S (group_at S r n g)) (up_to (groups_in r))) ≡ count_at S r n
  groups_count zero n h = refl
  groups_count (suc zero) n h = node_count_lem S n
  groups_count (suc (suc zero)) n h =
      ap length (append-nil (group_clauses S (group_at S 2 n 0))) ∙ group_at_lem S n 2 0 S.table.facts (omega arith)
  groups_count (suc (suc (suc zero))) n h = slot_count_lem S n
  groups_count (suc (suc (suc (suc r)))) n h = absurd (omega arith)

  -- the clauses of a node of a rule
  pub count_node : (r n : ℕ) → n < nodes_in S r → length (groups_from (shape S) r n 0) ≡ count_at S r n
  count_node r n h = sym (length-map (groups_from (shape S) r n 0) (clause_at S)) ∙ (ap length (groups_map S r n h) ∙ groups_count r n h)

  -- of a rule
  pub count_rule : (r : ℕ) → length (nodes_from (shape S) r 0) ≡ sum_to (count_at S r) (nodes_in S r)
  count_rule r =
      sym (length-map (nodes_from (shape S) r 0) (clause_at S))
      ∙ (ap length (nodes_map S r)
      ∙ (length_concat_map (λ n. concat_map (λ g. group_clauses S (group_at S r n g)) (up_to (groups_in r))) (nodes_in S r)
      ∙ sum_to_same _ _ (nodes_in S r) (λ n h. groups_count r n h)))

  length_four : {A : Type 0} (a b c d : List A) → length (a ++ (b ++ (c ++ (d ++ [])))) ≡ length a + (length b + (length c + length d))
  length_four a b c d = simp (append-nil, length-append)

  pub count_all : length (positions (shape S)) ≡ clause_count S
  unfolding shape
  count_all =
      length_four (nodes_from (shape S) 0 0) (nodes_from (shape S) 1 0) (nodes_from (shape S) 2 0) (nodes_from (shape S) 3 0)
      ∙ omega (arith, count_rule 0, count_rule 1, count_rule 2, count_rule 3)

  -- a whole node is passed over
  pub skip_node : (r n k : ℕ) → n < nodes_in S r → drop (count_at S r n + k) (left (shape S) (at r n 0 0 0 0)) ≡ drop k (left (shape S) (at r (n + 1) 0 0 0 0))
  unfolding shape
  skip_node r n k h =
      let G = groups_from (shape S) r n 0 in
      let M = nodes_from (shape S) r (n + 1) in
      let R = rules_from (shape S) (r + 1) in
      ap (drop (count_at S r n + k)) (left_node_start (shape S) (good S) r n ∙ (ap (λ l. l ++ R) (up_from_more (λ z. groups_from (shape S) r z 0) n (nodes_in S r) h) ∙ append_assoc G M R))
      ∙ (ap (λ c. drop (c + k) (G ++ (M ++ R))) (sym (count_node r n h))
      ∙ (drop-append-add G (M ++ R) k ∙ ap (drop k) (sym (left_node_start (shape S) (good S) r (n + 1)))))

  -- behind a rule's last node stands the next rule
  pub skip_rule : (r n : ℕ) → nodes_in S r ≤ n → r < 3 → left (shape S) (at r n 0 0 0 0) ≡ left (shape S) (at (r + 1) 0 0 0 0 0)
  unfolding shape
  skip_rule r n h k =
      left_node_start (shape S) (good S) r n
      ∙ (ap (λ l. l ++ rules_from (shape S) (r + 1)) (up_from_end (λ z. groups_from (shape S) r z 0) n (nodes_in S r) h)
      ∙ (up_from_more (λ z. nodes_from (shape S) z 0) (r + 1) 4 (omega arith)
      ∙ sym (left_node_start (shape S) (good S) (r + 1) 0)))

  pub skip_last : (n : ℕ) → nodes_in S 3 ≤ n → left (shape S) (at 3 n 0 0 0 0) ≡ []
  unfolding shape
  skip_last n h =
      left_node_start (shape S) (good S) 3 n
      ∙ ap (λ l. l ++ rules_from (shape S) 4) (up_from_end (λ z. groups_from (shape S) 3 z 0) n (nodes_in S 3) h)

-- "clauses" of the header, and question 11
pub formula_count : (T : Table) → length (formula T) ≡ clause_count (source_of T (records T))
formula_count T =
    let S = source_of T (records T) in
    sym (ap length (formula_places T)) ∙ (length-map (positions (shape S)) (clause_at S) ∙ count_all S)

-- Shorter sums ---------------------------------------------------------------------------------------------------------------
module _ (w : ℕ → ℕ) (l : ℕ) where
  named_below : (k : ℕ) → k ≤ l → sum_to (λ y. cond (ltb y l) 1 (w y)) k ≡ k
  named_below zero h = refl
  named_below (suc k) h = rw (lt-ltb k l (omega arith)) (omega (arith, named_below k (omega arith)))

  named_sum : (d : ℕ) → sum_to (λ y. cond (ltb y l) 1 (w y)) (l + d) + sum_to w l ≡ l + sum_to w (l + d)
  named_sum zero = let z : l + 0 ≡ l = omega arith in rw z (omega (arith, named_below l (omega arith)))
  named_sum (suc d) =
      let z : l + suc d ≡ suc (l + d) = omega arith in
      rw (z, le-ltb (l + d) l (omega arith)) (omega (arith, named_sum d))

sum_to_more : (w : ℕ → ℕ) (l d : ℕ) → sum_to w l ≤ sum_to w (l + d)
sum_to_more w l zero = let z : l + 0 ≡ l = omega arith in rw z (omega arith)
sum_to_more w l (suc d) = let z : l + suc d ≡ suc (l + d) = omega arith in rw z (omega (arith, sum_to_more w l d))
