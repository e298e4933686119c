-- What is worked out from the records is what the definitions say of the tree.
-- By recursion on the place.
use mathlib.Core.Path.{◌≡◌, refl, sym, ap, ◌∙◌}
use mathlib.Core.Bool.{true, false}
use mathlib.Core.List.{List, [], ◌∷◌, ◌++◌, map, append_assoc, append-nil}
use Prim.Native.Nat.{ℕ, zero, suc, ◌+◌, ◌<◌}
use native.Mathlib.Omega.{arith}
use lib.ListN.{length, length-map}
use borrow.Author.Tests.{lt-ltb, le-ltb}
use Rattle.lists.specs.List.{concat_map, number, up_to}
use Rattle.lists.proofs.Bool.{eqb_same, eqb_other}
use Rattle.lists.proofs.Every.{concat_map_append}
use Rattle.planning.specs.Table.{step, job, Table}
use Rattle.planning.specs.Place.{Label, Place, slot, inner, Places, stop, also, methods_of, child_count, child_label, inner_if, row, place, root_label, root_place, nodes, nodes_of, count}
use Rattle.planning.specs.Record.{Record, records_at, records_below, records}
use Rattle.planning.specs.Variable.{tasks_of, own_vars, part_vars, parts_vars, child_vars, slot_vars, slots_vars, node_vars, slots}
use Rattle.planning.specs.Clause.{pairs, job_clause, step_clauses, rule2, rules2}
use Rattle.planning.proofs.Task.{length_tasks, step_vars_lem}
use Rattle.planning.proofs.Everywhere.{children_of}
use Rattle.places.specs.Flat.{inner_at, own, own_all, Child, children_from, Node, nodes_from, child_tasks, slots_from, clauses_of, nodes_of as nodesOfRecords}

-- The test on a record tells inner nodes from slots --------------------------------------------------------------------------
abbrev mutual
  pub Shaped : Table → ℕ → Place → Type 0
  Shaped T d (slot L) = inner_at T d L.jobs ≡ false
  Shaped T d (inner L ps) = (inner_at T d L.jobs ≡ true) × Shapeds T (suc d) ps

  pub Shapeds : Table → ℕ → Places → Type 0
  Shapeds T d stop = Unit {0}
  Shapeds T d (also p ps) = Shaped T d p × Shapeds T d ps

module _ (T : Table) where
  shaped_if : (d : ℕ) (L : Label) (js : List ℕ) (ps : Places) → L.jobs ≡ js → d < T.depth → Shapeds T (suc d) ps → Shaped T d (inner_if js L ps)
  shaped_if d L [] ps e h s = rw (e, lt-ltb d T.depth h)
  shaped_if d L (j ∷ js) ps e h s = (rw (e, lt-ltb d T.depth h), s)

  shaped_row : (d : ℕ) (f : Label → Place) (Ls : List Label) → ((L : Label) → Shaped T d (f L)) → Shapeds T d (row f Ls)
  shaped_row d f [] h = tt
  shaped_row d f (L ∷ Ls) h = (h L, shaped_row d f Ls h)

  shaped_place : (k d : ℕ) (L : Label) → d + k ≡ T.depth → Shaped T d (place T k L)
  unfolding place
  shaped_place zero d L e = rw (le-ltb d T.depth (omega arith))
  shaped_place (suc k) d L e =
      shaped_if d L L.jobs (children_of T k L) refl (omega arith)
      (shaped_row (suc d) (λ M. place T k M) (map (child_label T L) (up_to (child_count T L))) (λ M. shaped_place k (suc d) M (omega arith)))

  pub shaped_root : Shaped T 0 (root_place T)
  shaped_root = shaped_place T.depth 0 (root_label T) (omega arith)

-- The children as the tree has them ------------------------------------------------------------------------------------------
-- the jobs that have a variable at a node, and what it may hold
abbrev pub var_jobs : Place → List ℕ
var_jobs (slot L) = []
var_jobs (inner L ps) = L.jobs

abbrev pub label_of : Place → Label
label_of (slot L) = L
label_of (inner L ps) = L

-- how many variables an inner node has itself, kind by kind
abbrev own_inner : Table → Label → ℕ
own_inner T L = length L.steps + length L.jobs + length (methods_of T L.jobs)

-- the first of these places has node number n and first variable b
abbrev pub kids : Table → Places → (n b : ℕ) → List Child
kids T stop n b = []
kids T (also p ps) n b = record { node = n; first = b; steps = (label_of p).steps; jobs = var_jobs p } ∷ kids T ps (n + nodes p) (b + part_vars T p)

module _ (T : Table) where
  pub tasks_of_lem : (p : Place) → map step (label_of p).steps ++ map job (var_jobs p) ≡ tasks_of p
  tasks_of_lem (slot L) = append-nil (map step L.steps)
  tasks_of_lem (inner L ps) = refl

  pub kids_tasks : (ps : Places) (n b : ℕ) → map child_tasks (kids T ps n b) ≡ child_vars T ps b
  kids_tasks stop n b = refl
  kids_tasks (also p ps) n b = cc (ap (number b) (tasks_of_lem p), kids_tasks ps (n + nodes p) (b + part_vars T p))

  own_slot : (d u : ℕ) (L : Label) → inner_at T d L.jobs ≡ false → own T (record { depth = d; parent = u; children = 0; label = L }) ≡ own_vars T (slot L)
  own_slot d u L e = rw e (omega (arith, length-map L.steps step))

  own_vars_lem : (L : Label) (ps : Places) → own_inner T L ≡ own_vars T (inner L ps)
  own_vars_lem L ps = omega (arith, length_tasks L.steps L.jobs)

  own_inner_lem : (d u c : ℕ) (L : Label) (ps : Places) → inner_at T d L.jobs ≡ true → own T (record { depth = d; parent = u; children = c; label = L }) ≡ own_vars T (inner L ps)
  own_inner_lem d u c L ps e = rw e (own_vars_lem L ps)

  same_from : (u k : ℕ) (rs : List Record) {n n' b b' : ℕ} → n ≡ n' → b ≡ b' → children_from T u k n b rs ≡ children_from T u k n' b' rs
  same_from u k rs p q = rw (p, q)

  -- the records below a node are passed over in the search for children of an earlier one
  mutual
    skip : (p : Place) (d v n u k b : ℕ) (rs : List Record) → Shaped T d p → (v ≡ u → ⊥) → u < n
        → children_from T u (suc k) n b (records_at p d v n ++ rs) ≡ children_from T u (suc k) (n + nodes p) (b + part_vars T p) rs
    skip (slot L) d v n u k b rs s w h = rw (eqb_other v u w) (same_from u (suc k) rs (omega arith) (ap (λ z. b + z) (own_slot d v L s)))
    skip (inner L ps) d v n u k b rs s w h =
        let o = own T (record { depth = d; parent = v; children = count ps; label = L }) in
        rw (eqb_other v u w) (
        skips ps (suc d) n (suc n) u k (b + o) rs s.1 (λ e. omega arith) (omega arith)
        ∙ same_from u (suc k) rs (omega arith) (omega (arith, own_inner_lem d v (count ps) L ps s.0))
        )

    skips : (ps : Places) (d v n u k b : ℕ) (rs : List Record) → Shapeds T d ps → (v ≡ u → ⊥) → u < n
        → children_from T u (suc k) n b (records_below ps d v n ++ rs) ≡ children_from T u (suc k) (n + nodes_of ps) (b + parts_vars T ps) rs
    skips stop d v n u k b rs s w h = same_from u (suc k) rs (omega arith) (omega arith)
    skips (also p ps) d v n u k b rs s w h =
        ap (children_from T u (suc k) n b) (append_assoc (records_at p d v n) (records_below ps d v (n + nodes p)) rs)
        ∙ (skip p d v n u k b (records_below ps d v (n + nodes p) ++ rs) s.0 w h
        ∙ (skips ps d v (n + nodes p) u k (b + part_vars T p) rs s.1 w (omega arith)
        ∙ same_from u (suc k) rs (omega arith) (omega arith)))

  skips_any : (ps : Places) (d v n u k b : ℕ) (rs : List Record) → Shapeds T d ps → (v ≡ u → ⊥) → u < n
      → children_from T u k n b (records_below ps d v n ++ rs) ≡ children_from T u k (n + nodes_of ps) (b + parts_vars T ps) rs
  skips_any ps d v n u zero b rs s w h = refl
  skips_any ps d v n u (suc k) b rs s w h = skips ps d v n u k b rs s w h

  -- the children found are those of the tree
  pub found : (ps : Places) (d u n b : ℕ) (rs : List Record) → Shapeds T d ps → u < n → children_from T u (count ps) n b (records_below ps d u n ++ rs) ≡ kids T ps n b
  found stop d u n b rs s h = refl
  found (also (slot L) ps) d u n b rs s h =
      rw (eqb_same u, s.0) (ap (λ l. record { node = n; first = b; steps = L.steps; jobs = [] } ∷ l) (
      same_from u (count ps) (records_below ps d u (n + 1) ++ rs) (omega arith) (omega (arith, length-map L.steps step))
      ∙ found ps d u (n + 1) (b + own_vars T (slot L)) rs s.1 (omega arith)
      ))
  found (also (inner L qs) ps) d u n b rs s h =
      rw (eqb_same u, s.0.0) (ap (λ l. record { node = n; first = b; steps = L.steps; jobs = L.jobs } ∷ l) (
      ap (children_from T u (count ps) (suc n) (b + own_inner T L)) (append_assoc (records_below qs (suc d) n (suc n)) (records_below ps d u (n + suc (nodes_of qs))) rs)
      ∙ (skips_any qs (suc d) n (suc n) u (count ps) (b + own_inner T L) (records_below ps d u (n + suc (nodes_of qs)) ++ rs) s.0.1 (λ e. omega arith) (omega arith)
      ∙ (same_from u (count ps) (records_below ps d u (n + suc (nodes_of qs)) ++ rs) (omega arith) (omega (arith, own_vars_lem L qs))
      ∙ found ps d u (n + suc (nodes_of qs)) (b + (own_vars T (inner L qs) + parts_vars T qs)) rs s.1 (omega arith)))
      ))

-- The nodes as the tree has them ---------------------------------------------------------------------------------------------
abbrev mutual
  pub tree_nodes : Table → Place → (n b : ℕ) → List Node
  tree_nodes T (slot L) n b = record { first = b; steps = L.steps; jobs = []; methods = []; children = [] } ∷ []
  tree_nodes T (inner L ps) n b =
      record { first = b; steps = L.steps; jobs = L.jobs; methods = methods_of T L.jobs; children = kids T ps (suc n) (b + own_vars T (inner L ps)) }
      ∷ trees_nodes T ps (suc n) (b + own_vars T (inner L ps))

  pub trees_nodes : Table → Places → (n b : ℕ) → List Node
  trees_nodes T stop n b = []
  trees_nodes T (also p ps) n b = tree_nodes T p n b ++ trees_nodes T ps (n + nodes p) (b + part_vars T p)

module _ (T : Table) where
  same_nodes : (rs : List Record) {n n' b b' : ℕ} → n ≡ n' → b ≡ b' → nodes_from T n b rs ≡ nodes_from T n' b' rs
  same_nodes rs p q = rw (p, q)

  mutual
    flat : (p : Place) (d u n b : ℕ) (rs : List Record) → Shaped T d p
        → nodes_from T n b (records_at p d u n ++ rs) ≡ tree_nodes T p n b ++ nodes_from T (n + nodes p) (b + part_vars T p) rs
    flat (slot L) d u n b rs s =
        rw s (ap (λ l. record { first = b; steps = L.steps; jobs = []; methods = []; children = [] } ∷ l) (same_nodes rs (omega arith) (omega (arith, length-map L.steps step))))
    flat (inner L ps) d u n b rs s =
        rw (s.0, own_vars_lem T L ps) (
        ap (λ l. record { first = b; steps = L.steps; jobs = L.jobs; methods = methods_of T L.jobs; children = l }
        ∷ nodes_from T (suc n) (b + own_vars T (inner L ps)) (records_below ps (suc d) n (suc n) ++ rs)) (found T ps (suc d) n (suc n) (b + own_vars T (inner L ps)) rs s.1 (omega arith))
        ∙ ap (λ l. record { first = b; steps = L.steps; jobs = L.jobs; methods = methods_of T L.jobs; children = kids T ps (suc n) (b + own_vars T (inner L ps)) } ∷ l) (
        flats ps (suc d) n (suc n) (b + own_vars T (inner L ps)) rs s.1
        ∙ ap (λ l. trees_nodes T ps (suc n) (b + own_vars T (inner L ps)) ++ l) (same_nodes rs (omega arith) (omega arith))
        )
        )

    flats : (ps : Places) (d u n b : ℕ) (rs : List Record) → Shapeds T d ps
        → nodes_from T n b (records_below ps d u n ++ rs) ≡ trees_nodes T ps n b ++ nodes_from T (n + nodes_of ps) (b + parts_vars T ps) rs
    flats stop d u n b rs s = same_nodes rs (omega arith) (omega arith)
    flats (also p ps) d u n b rs s =
        ap (nodes_from T n b) (append_assoc (records_at p d u n) (records_below ps d u (n + nodes p)) rs)
        ∙ (flat p d u n b (records_below ps d u (n + nodes p) ++ rs) s.0
        ∙ (ap (λ l. tree_nodes T p n b ++ l) (
        flats ps d u (n + nodes p) (b + part_vars T p) rs s.1
        ∙ ap (λ l. trees_nodes T ps (n + nodes p) (b + part_vars T p) ++ l) (same_nodes rs (omega arith) (omega arith))
        )
        ∙ sym (append_assoc (tree_nodes T p n b) (trees_nodes T ps (n + nodes p) (b + part_vars T p)) _)))

  no_jobs : (xs : List (ℕ × ℕ)) (b : ℕ) (ss : List ℕ) → concat_map (job_clause T xs) (number b (map step ss)) ≡ []
  no_jobs xs b [] = refl
  no_jobs xs b (s ∷ ss) = no_jobs xs (suc b) ss

  no_steps : (b : ℕ) (ss : List ℕ) → concat_map (step_clauses []) (number b (map step ss)) ≡ []
  no_steps b [] = refl
  no_steps b (s ∷ ss) = no_steps (suc b) ss

  mutual
    tree_clauses : (p : Place) (n b : ℕ) → concat_map (clauses_of T) (tree_nodes T p n b) ≡ rule2 T p b
    tree_clauses (slot L) n b =
        rw (append-nil (map step L.steps), no_jobs [] b L.steps, no_steps b L.steps)
        (append-nil _ ∙ append-nil (pairs (number b (map step L.steps))))
    tree_clauses (inner L ps) n b =
        rw (kids_tasks T ps (suc n) (b + own_vars T (inner L ps)), trees_clauses ps (suc n) (b + own_vars T (inner L ps)), length_tasks L.steps L.jobs)

    trees_clauses : (ps : Places) (n b : ℕ) → concat_map (clauses_of T) (trees_nodes T ps n b) ≡ rules2 T ps b
    trees_clauses stop n b = refl
    trees_clauses (also p ps) n b =
        concat_map_append (clauses_of T) (tree_nodes T p n b) (trees_nodes T ps (n + nodes p) (b + part_vars T p))
        ∙ cc (tree_clauses p n b, trees_clauses ps (n + nodes p) (b + part_vars T p))

  -- Slots
  same_slots : (rs : List Record) {b b' : ℕ} → b ≡ b' → slots_from T b rs ≡ slots_from T b' rs
  same_slots rs q = rw q

  mutual
    slots_flat : (p : Place) (d u n b : ℕ) (rs : List Record) → Shaped T d p
        → slots_from T b (records_at p d u n ++ rs) ≡ slot_vars T p b ++ slots_from T (b + part_vars T p) rs
    slots_flat (slot L) d u n b rs s =
        rw (s, step_vars_lem b L.steps) (ap (λ l. number b L.steps ∷ l) (same_slots rs (omega (arith, length-map L.steps step))))
    slots_flat (inner L ps) d u n b rs s =
        rw (s.0, own_vars_lem T L ps) (
        slots_flats ps (suc d) n (suc n) (b + own_vars T (inner L ps)) rs s.1
        ∙ ap (λ l. slots_vars T ps (b + own_vars T (inner L ps)) ++ l) (same_slots rs (omega arith))
        )

    slots_flats : (ps : Places) (d u n b : ℕ) (rs : List Record) → Shapeds T d ps
        → slots_from T b (records_below ps d u n ++ rs) ≡ slots_vars T ps b ++ slots_from T (b + parts_vars T ps) rs
    slots_flats stop d u n b rs s = same_slots rs (omega arith)
    slots_flats (also p ps) d u n b rs s =
        ap (slots_from T b) (append_assoc (records_at p d u n) (records_below ps d u (n + nodes p)) rs)
        ∙ (slots_flat p d u n b (records_below ps d u (n + nodes p) ++ rs) s.0
        ∙ (ap (λ l. slot_vars T p b ++ l) (
        slots_flats ps d u (n + nodes p) (b + part_vars T p) rs s.1
        ∙ ap (λ l. slots_vars T ps (b + part_vars T p) ++ l) (same_slots rs (omega arith))
        )
        ∙ sym (append_assoc (slot_vars T p b) (slots_vars T ps (b + part_vars T p)) _)))

  -- How many variables
  pub own_all_append : (rs ss : List Record) → own_all T (rs ++ ss) ≡ own_all T rs + own_all T ss
  own_all_append [] ss = omega arith
  own_all_append (r ∷ rs) ss = omega (arith, own_all_append rs ss)

  mutual
    own_part : (p : Place) (d u n : ℕ) → Shaped T d p → own_all T (records_at p d u n) ≡ part_vars T p
    own_part (slot L) d u n s = omega (arith, own_slot T d u L s)
    own_part (inner L ps) d u n s = omega (arith, own_inner_lem T d u (count ps) L ps s.0, own_parts ps (suc d) n (suc n) s.1)

    own_parts : (ps : Places) (d u n : ℕ) → Shapeds T d ps → own_all T (records_below ps d u n) ≡ parts_vars T ps
    own_parts stop d u n s = refl
    own_parts (also p ps) d u n s = own_all_append (records_at p d u n) (records_below ps d u (n + nodes p)) ∙ cc (own_part p d u n s.0, own_parts ps d u (n + nodes p) s.1)

  -- The theorems ---------------------------------------------------------------------------------------------------------
  -- the nodes worked out from the records are those of the tree
  pub nodes_records : nodesOfRecords T (records T) ≡ tree_nodes T (root_place T) 0 1
  nodes_records =
      ap (nodesOfRecords T) (sym (append-nil (records T)))
      ∙ (flat (root_place T) 0 0 0 1 [] (shaped_root T) ∙ append-nil (tree_nodes T (root_place T) 0 1))

  -- their clauses are those of rule 2
  pub rule2_records : concat_map (clauses_of T) (nodesOfRecords T (records T)) ≡ rule2 T (root_place T) 1
  rule2_records = ap (concat_map (clauses_of T)) nodes_records ∙ tree_clauses (root_place T) 0 1

  pub slots_records : slots_from T 1 (records T) ≡ slots T
  slots_records =
      ap (slots_from T 1) (sym (append-nil (records T)))
      ∙ (slots_flat (root_place T) 0 0 0 1 [] (shaped_root T) ∙ append-nil (slots T))

  pub vars_records : own_all T (records T) ≡ node_vars T
  vars_records = own_part (root_place T) 0 0 0 (shaped_root T)
