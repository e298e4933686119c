-- The rows read node by node from a model's values are those of the tree that the model gives.
-- By recursion on the place, with the records and nodes that follow left open.
use mathlib.Core.Path.{◌≡◌, refl, sym, ap, ap₂, ◌∙◌}
use mathlib.Core.Bool.{Bool, true}
use mathlib.Core.List.{List, [], ◌∷◌, ◌++◌, map, append_assoc, append-nil}
use mathlib.Core.Option.{Option, none, some}
use Prim.Native.Nat.{ℕ, suc, ◌+◌, ◌<◌}
use native.Mathlib.Omega.{arith}
use lib.Dec.{ltb}
use lib.ListN.{length, get_or}
use Rattle.lists.specs.List.{concat_map, number, from}
use Rattle.lists.proofs.Bool.{clash, and_l, and_r}
use Rattle.planning.specs.Table.{Task, step, job, Table}
use Rattle.planning.specs.Tree.{Tree, alone, split, Trees, end, next}
use Rattle.planning.specs.Place.{Label, Place, slot, inner, Places, stop, also, methods_of, root_place, nodes}
use Rattle.planning.specs.Record.{Record, records_at, records_below, records}
use Rattle.planning.specs.Variable.{tasks_of, own_vars, part_vars, task_vars, first_fact_var, slots}
use Rattle.planning.specs.Clause.{var_of, rule2, rule3, rule4}
use Rattle.planning.specs.Model.{Valuation, clause_true, satisfies, value, chosen, Model, Gives}
use Rattle.planning.proofs.Task.{no_job, length_tasks}
use Rattle.planning.proofs.Satisfy.{sat_l, var_of_out}
use Rattle.planning.proofs.Trees.Hold.{Held, shown_task, shown_method, below, first_tree, later_trees, Holds, HoldsEach, Made, Fits, FitsEach}
use Rattle.planning.proofs.Trees.Solve.{solve}
use Rattle.planning.proofs.Trees.Chosen.{chosen_hot}
use Rattle.planning.proofs.Trees.Read.{read_holds}
use Rattle.planning.proofs.Trees.Places.{regular_root}
use Rattle.planning.proofs.Trees.Whole.{tree_formula}
use Rattle.places.specs.Flat.{non_empty, Node}
use Rattle.places.specs.ClausePlace.{no_node}
use Rattle.places.specs.Lookup.{no_record}
use Rattle.places.proofs.Lookup.{nodes_length}
use Rattle.places.proofs.Records.{Shaped, Shapeds, shaped_root, tree_nodes, trees_nodes, nodes_records}
use Rattle.index.specs.Index.{source}
use Rattle.listing.specs.Listing.{Names, Row, rows, rows_of, row_lines, listing}
use Rattle.listing.specs.Walk.{task_rows, node_rows, rows_at, rows_to, walked}

-- the rows of what a node holds, if it holds anything
abbrev held_rows : Option Tree → (d : ℕ) → List Row
held_rows none d = []
held_rows (some t) d = rows t d

-- One node -------------------------------------------------------------------------------------------------------------------
slot_rows : (ss : List ℕ) (o : Option Tree) (m : Option ℕ) (d : ℕ) → Held (map step ss) (shown_task o) → task_rows [] d (shown_task o) m ≡ held_rows o d
slot_rows ss none m d h = refl
slot_rows ss (some (alone s)) m d h = refl
slot_rows ss (some (split j k ts)) m d h = absurd (no_job j ss h)

-- a step that is handed down has no row of its own at an inner node
inner_rows : (js : List ℕ) (o : Option Tree) (d : ℕ) → non_empty js ≡ true → task_rows js d (shown_task o) (shown_method o) ++ rows_of (below o) (suc d) ≡ held_rows o d
inner_rows [] o d h = clash h refl
inner_rows (j ∷ js) none d h = refl
inner_rows (j ∷ js) (some (alone s)) d h = refl
inner_rows (j ∷ js) (some (split k m ts)) d h = refl

several : (ts : Trees) (d : ℕ) → held_rows (first_tree ts) d ++ rows_of (later_trees ts) d ≡ rows_of ts d
several end d = refl
several (next t ts) d = refl

-- Records and nodes side by side -----------------------------------------------------------------------------------------------
abbrev beside : Valuation → List Record → List Node → List Row
beside v [] Ns = []
beside v (r ∷ rs) [] = []
beside v (r ∷ rs) (N ∷ Ns) = node_rows v r.depth N ++ beside v rs Ns

module _ (T : Table) (v : Valuation) where
  held_method : (L : Label) (o : Option Tree) → Made T L o → Held (methods_of T L.jobs) (shown_method o)
  held_method L none h = tt
  held_method L (some (alone s)) h = tt
  held_method L (some (split j m ts)) h = h.0

  slot_tasks : (L : Label) (b : ℕ) → number b (map step L.steps ++ []) ≡ task_vars (slot L) b
  slot_tasks L b = ap (number b) (append-nil (map step L.steps))

  mutual
    over : (p : Place) (d u n b : ℕ) (o : Option Tree) (rs : List Record) (Ns : List Node) → Shaped T d p → Holds T v p b o → Fits T p o
        → beside v (records_at p d u n ++ rs) (tree_nodes T p n b ++ Ns) ≡ held_rows o d ++ beside v rs Ns
    over (slot L) d u n b o rs Ns s i f =
        ap (λ (r : List Row). r ++ beside v rs Ns)
        (ap (λ (t : Option Task). task_rows [] d t none) (ap (chosen v) (slot_tasks L b) ∙ chosen_hot v b (tasks_of (slot L)) (shown_task o) i f)
        ∙ slot_rows L.steps o none d f)
    over (inner L ps) d u n b o rs Ns s i f =
        let rest = beside v rs Ns in
        let c = b + own_vars T (inner L ps) in
        let e : b + (length L.steps + length L.jobs) ≡ b + length (tasks_of (inner L ps)) = omega (arith, length_tasks L.steps L.jobs) in
        ap₂ (λ (t : Option Task) (m : Option ℕ). task_rows L.jobs d t m ++ beside v (records_below ps (suc d) n (suc n) ++ rs) (trees_nodes T ps (suc n) c ++ Ns))
        (chosen_hot v b (tasks_of (inner L ps)) (shown_task o) i.0 f.0)
        (ap (λ (k : ℕ). chosen v (number k (methods_of T L.jobs))) e
        ∙ chosen_hot v (b + length (tasks_of (inner L ps))) (methods_of T L.jobs) (shown_method o) i.1 (held_method L o f.1))
        ∙ ap (λ (r : List Row). task_rows L.jobs d (shown_task o) (shown_method o) ++ r) (overs ps (suc d) n (suc n) c (below o) rs Ns s.1 i.2 f.2)
        ∙ sym (append_assoc (task_rows L.jobs d (shown_task o) (shown_method o)) (rows_of (below o) (suc d)) rest)
        ∙ ap (λ (r : List Row). r ++ rest) (inner_rows L.jobs o d (and_r (ltb d T.depth) (non_empty L.jobs) s.0))

    overs : (ps : Places) (d u n b : ℕ) (ts : Trees) (rs : List Record) (Ns : List Node) → Shapeds T d ps → HoldsEach T v ps b ts → FitsEach T ps ts
        → beside v (records_below ps d u n ++ rs) (trees_nodes T ps n b ++ Ns) ≡ rows_of ts d ++ beside v rs Ns
    overs stop d u n b ts rs Ns s i f = rw f
    overs (also p ps) d u n b ts rs Ns s i f =
        let qs = records_below ps d u (n + nodes p) in
        let Ms = trees_nodes T ps (n + nodes p) (b + part_vars T p) in
        ap₂ (beside v) (append_assoc (records_at p d u n) qs rs) (append_assoc (tree_nodes T p n b) Ms Ns)
        ∙ over p d u n b (first_tree ts) (qs ++ rs) (Ms ++ Ns) s.0 i.0 f.0
        ∙ ap (λ (r : List Row). held_rows (first_tree ts) d ++ r) (overs ps d u (n + nodes p) (b + part_vars T p) (later_trees ts) rs Ns s.1 i.1 f.1)
        ∙ sym (append_assoc (held_rows (first_tree ts) d) (rows_of (later_trees ts) d) (beside v rs Ns))
        ∙ ap (λ (r : List Row). r ++ beside v rs Ns) (several ts d)

  -- by number
  beside_from : (f : ℕ → List Row) (k : ℕ) (rs : List Record) (Ns : List Node) → length Ns ≡ length rs
      → ((i : ℕ) → i < length rs → f (k + i) ≡ node_rows v (get_or rs i no_record).depth (get_or Ns i no_node)) → concat_map f (from k (length Ns)) ≡ beside v rs Ns
  beside_from f k [] [] e h = refl
  beside_from f k [] (N ∷ Ns) e h = absurd (omega (arith, e))
  beside_from f k (r ∷ rs) [] e h = absurd (omega (arith, e))
  beside_from f k (r ∷ rs) (N ∷ Ns) e h =
      let z : k + 0 ≡ k = omega arith in
      ap₂ (λ (a b : List Row). a ++ b) (rw z at (h 0 (omega arith)))
      (beside_from f (suc k) rs Ns (omega (arith, e)) (λ i l. let y : suc k + i ≡ k + suc i = omega arith in rw y (h (suc i) (omega arith))))

  rows_beside : rows_to T v (length (source T).nodes) ≡ beside v (records T) (source T).nodes
  rows_beside = beside_from (rows_at T v) 0 (records T) (source T).nodes (nodes_length T (records T) 0 1) (λ i l. let z : 0 + i ≡ i = omega arith in rw z)

-- The theorem ----------------------------------------------------------------------------------------------------------------
module _ (T : Table) (vs : List Bool) (m : Model T vs) where
  -- what a model holds at the root
  at_root : (o : Option Tree) × Holds T (value vs) (root_place T) 1 o × Fits T (root_place T) o
  at_root =
      let s = sat_l (value vs) (tree_formula T) (rule3 T (first_fact_var T) ++ rule4 T (first_fact_var T) 0 (slots T)) m.true_clauses in
      let one = var_of (job T.root) (task_vars (root_place T) 1) in
      let r = solve T (value vs) (root_place T) 1 (some (job T.root)) (regular_root T)
      (and_r (clause_true (value vs) one) (satisfies (value vs) (rule2 T (root_place T) 1)) s)
      (var_of_out (value vs) (job T.root) (task_vars (root_place T) 1) (and_l (clause_true (value vs) one) (satisfies (value vs) (rule2 T (root_place T) 1)) s)) in
      (r.0, r.2, r.3)

  pub rows_are : (t : Tree) → Gives T vs t → rows_to T (value vs) (length (source T).nodes) ≡ rows t 0
  rows_are t g =
      let r = at_root in
      let e : r.0 ≡ some t = sym (read_holds T (value vs) (root_place T) 1 r.0 r.1 r.2) ∙ g in
      rows_beside T (value vs)
      ∙ ap₂ (beside (value vs)) (sym (append-nil (records T))) (nodes_records T ∙ sym (append-nil (tree_nodes T (root_place T) 0 1)))
      ∙ over T (value vs) (root_place T) 0 0 0 1 r.0 [] [] (shaped_root T) r.1 r.2
      ∙ append-nil (held_rows r.0 0)
      ∙ ap (λ (o : Option Tree). held_rows o 0) e

pub walked_is : {T : Table} {vs : List Bool} {t : Tree} (N : Names) → Model T vs → Gives T vs t → walked T N (value vs) ≡ listing N t
walked_is {T} {vs} {t} N m g = ap (row_lines N 0) (rows_are T vs m t g)
