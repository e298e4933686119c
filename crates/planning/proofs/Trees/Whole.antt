-- Rules 1 and 2: a valuation that satisfies them gives a tree, two agree on the nodes where they give the same one, and every tree
-- of the table with the root job on top and no higher than the depth is given. Collected from Solve, Complete, Read, Places, Encode.
use mathlib.Core.Path.{◌≡◌, refl, sym, ap, ◌∙◌, subst}
use mathlib.Core.Bool.{Bool, true, false}
use mathlib.Core.List.{List, [], ◌∷◌, ◌++◌}
use mathlib.Core.Logic.{inl, inr, ◌↔◌}
use mathlib.Core.Option.{Option, none, some}
use Prim.Native.Nat.{ℕ, ◌+◌, ◌≤◌, ◌<◌}
use lib.ListN.{length}
use Rattle.lists.specs.List.{◌∈◌}
use Rattle.lists.proofs.Bool.{and_l, and_r, and_in, some_inj, none≢some}
use Rattle.planning.specs.Table.{Task, job, Table}
use Rattle.planning.specs.Tree.{Tree, top, height, tree_steps, TreeOf}
use Rattle.planning.specs.Place.{root_label, root_place}
use Rattle.planning.specs.Variable.{tasks_of, task_vars, node_vars, slots}
use Rattle.planning.specs.Clause.{Clause, var_of, rule1, rule2}
use Rattle.planning.specs.Model.{Valuation, clause_true, satisfies, value, chosen, read}
use Rattle.planning.proofs.Satisfy.{true_ones, list_of, slot_steps, var_of_out, var_of_in}
use Rattle.planning.proofs.Trees.Hold.{Hot, shown_task, Holds, Fits}
use Rattle.planning.proofs.Trees.Solve.{solve}
use Rattle.planning.proofs.Trees.Complete.{hot_top, held_top, true_of, complete}
use Rattle.planning.proofs.Trees.Read.{read_holds, slot_steps_lem, slots_one}
use Rattle.planning.proofs.Trees.Agree.{holds_agree, holds_same}
use Rattle.planning.proofs.Trees.Places.{fits_tree, InLabel, tree_fits, Within, regular_root}
use Rattle.planning.proofs.Trees.Encode.{encode, length_encode, encode_holds}

-- rules 1 and 2
abbrev pub tree_formula : Table → List Clause
tree_formula T = rule1 T ++ rule2 T (root_place T) 1

abbrev pub tree_of : Table → Valuation → Option Tree
tree_of T v = read T v (root_place T) 1

module _ (T : Table) where
  -- a valuation that satisfies rules 1 and 2 holds a tree
  abbrev HoldsTree : Valuation → Type 0
  HoldsTree v = (t : Tree) × (top t ≡ job T.root) × Holds T v (root_place T) 1 (some t) × Fits T (root_place T) (some t)

  holds : (v : Valuation) → satisfies v (tree_formula T) ≡ true → HoldsTree v
  holds v s =
      let p = var_of_out v (job T.root) (task_vars (root_place T) 1) (and_l (clause_true v (var_of (job T.root) (task_vars (root_place T) 1))) (satisfies v (rule2 T (root_place T) 1)) s) in
      let r = solve T v (root_place T) 1 (some (job T.root)) (regular_root T) (and_r (clause_true v (var_of (job T.root) (task_vars (root_place T) 1))) (satisfies v (rule2 T (root_place T) 1)) s) p in
      go r.0 r.1 r.2 r.3
    where
      go : (o : Option Tree) → shown_task o ≡ some (job T.root) → Holds T v (root_place T) 1 o → Fits T (root_place T) o → HoldsTree v
      go none e i f = none≢some e
      go (some t) e i f = (t, some_inj e, i, f)

  pub gives_a_tree : T.root < T.jobs → (v : Valuation) → satisfies v (tree_formula T) ≡ true
      → (t : Tree) × (tree_of T v ≡ some t) × (top t ≡ job T.root) × TreeOf T t × (height t ≤ T.depth)
  gives_a_tree h v s =
      let r = holds v s in
      let w : Within T (root_label T) = record { steps = λ n m. absurd m; jobs = λ j m. go j m } in
      let k = fits_tree T T.depth (root_label T) w r.0 r.3 in
      (r.0, read_holds T v (root_place T) 1 (some r.0) r.2 r.3, r.1, k.0, k.1)
    where
      go : (j : ℕ) → j ∈ (T.root ∷ []) → j < T.jobs
      go j (inl e) = rw e h
      go j (inr m) = absurd m

  -- two of them agree on every node variable exactly when they give the same tree
  pub same_tree : (v w : Valuation) → satisfies v (tree_formula T) ≡ true → satisfies w (tree_formula T) ≡ true
      → ((n : ℕ) → 1 ≤ n → n < 1 + node_vars T → v n ≡ w n) ↔ (tree_of T v ≡ tree_of T w)
  same_tree v w s u =
      let r = holds v s in
      let q = holds w u in (
        λ a. read_holds T v (root_place T) 1 (some r.0) r.2 r.3
            ∙ sym (read_holds T w (root_place T) 1 (some r.0) (holds_agree T v w (root_place T) 1 (some r.0) a r.2) r.3),
        λ e. let z : ◌≡◌ {A = Option Tree} (some q.0) (some r.0) =
            sym (read_holds T w (root_place T) 1 (some q.0) q.2 q.3) ∙ (sym e ∙ read_holds T v (root_place T) 1 (some r.0) r.2 r.3) in
            holds_same T v w (root_place T) 1 (some r.0) r.2 (subst (λ (o : Option Tree). Holds T w (root_place T) 1 o) z q.2),
      )

  -- every such tree is given, whatever values stand after those of the node variables
  pub every_tree : (t : Tree) → TreeOf T t → top t ≡ job T.root → height t ≤ T.depth
      → (vs : List Bool) × (length vs ≡ node_vars T)
      × ((more : List Bool) → (satisfies (value (vs ++ more)) (tree_formula T) ≡ true) × (tree_of T (value (vs ++ more)) ≡ some t))
  every_tree t w e h =
      let f = tree_fits T T.depth (root_label T) t w h (subst (λ (u : Task). InLabel T (root_label T) u) (sym e) (inl refl)) in
      (encode T (root_place T) (some t), length_encode T (root_place T) (some t), λ more. given (value (encode T (root_place T) (some t) ++ more)) f (encode_holds T (root_place T) 1 (some t) (false ∷ []) more refl))
    where
      given : (v : Valuation) → Fits T (root_place T) (some t) → Holds T v (root_place T) 1 (some t) → (satisfies v (tree_formula T) ≡ true) × (tree_of T v ≡ some t)
      given v f i =
          let x = true_of T v 1 (tasks_of (root_place T)) (top t) (hot_top T v (root_place T) 1 (some t) i) (held_top T v (root_place T) (some t) f) in (
            and_in (clause_true v (var_of (job T.root) (task_vars (root_place T) 1))) (satisfies v (rule2 T (root_place T) 1))
                (subst (λ (u : Task). clause_true v (var_of u (task_vars (root_place T) 1)) ≡ true) e (var_of_in v (top t) (task_vars (root_place T) 1) x.0 x.1 x.2))
                (complete T v (root_place T) 1 (some t) (regular_root T) i f),
            read_holds T v (root_place T) 1 (some t) i f,
          )

  -- the steps true at the slots, in slot order, are the steps of the tree, left to right
  pub steps_in_order : (v : Valuation) → satisfies v (tree_formula T) ≡ true → (t : Tree) → tree_of T v ≡ some t → slot_steps v (slots T) ≡ tree_steps t
  steps_in_order v s t e =
      let r = holds v s in
      let z : r.0 ≡ t = some_inj (sym (read_holds T v (root_place T) 1 (some r.0) r.2 r.3) ∙ e) in
      slot_steps_lem T v (root_place T) 1 (some r.0) (regular_root T) r.2 r.3 ∙ ap tree_steps z

  -- at each slot at most one step is true, and it is the one that is chosen there
  pub one_at_a_slot : (v : Valuation) → satisfies v (tree_formula T) ≡ true → (xs : List (ℕ × ℕ)) → xs ∈ slots T
      → Hot v xs (chosen v xs) × (true_ones v xs ≡ list_of (chosen v xs))
  one_at_a_slot v s = let r = holds v s in slots_one T v (root_place T) 1 (some r.0) (regular_root T) r.2 r.3
