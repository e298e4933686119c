-- A valuation that holds at a place a tree that fits it satisfies its clauses.
-- By recursion on the place, and at a node letter by letter.
use mathlib.Core.Path.{◌≡◌, refl, sym, ap, ◌∙◌, subst}
use mathlib.Core.Bool.{Bool, true, false}
use mathlib.Core.List.{List, [], ◌∷◌}
use mathlib.Core.Logic.{◌⊎◌, inl, inr}
use mathlib.Core.Option.{Option, none, some}
use Prim.Native.Nat.{ℕ, ◌+◌}
use native.Mathlib.Omega.{arith}
use lib.ListN.{length}
use lib.Dec.{eqb}
use Rattle.lists.specs.List.{filter, number, ◌∈◌}
use Rattle.lists.proofs.Bool.{bool_cases, clash, and_in, eqb_same, some_inj, none≢some, false_of}
use Rattle.lists.proofs.Member.{in_filter_in}
use Rattle.lists.proofs.Number.{number_in}
use Rattle.planning.specs.Table.{Task, step, job, Table, job_of, body_of}
use Rattle.planning.specs.Tree.{Tree, alone, split, Trees, end, next, top, tops}
use Rattle.planning.specs.Place.{Label, Place, slot, inner, Places, stop, also, methods_of}
use Rattle.planning.specs.Variable.{tasks_of, own_vars, part_vars, task_vars, method_vars, child_vars}
use Rattle.planning.specs.Clause.{neg, Clause, all_pos, not_both, var_of, job_clause, method_clause, body_clauses, step_clauses, up_clause, inner_clauses, rule2, rules2}
use Rattle.planning.specs.Model.{Valuation, clause_true, satisfies}
use Rattle.planning.proofs.Satisfy.{pass_body, sat_in, imp_in, all_pos_in, not_both_in, var_of_in, up_in}
use Rattle.planning.proofs.Trees.Hold.{Hot, Held, pairs_in, shown_task, shown_method, below, first_tree, later_trees, Holds, HoldsEach, Fits, FitsEach, Regular, RegularEach}
use Rattle.planning.proofs.Trees.Letters.{Node, node_in}

module _ (T : Table) (v : Valuation) where
  pub hot_top : (p : Place) (b : ℕ) (o : Option Tree) → Holds T v p b o → Hot v (task_vars p b) (shown_task o)
  hot_top (slot L) b o i = i
  hot_top (inner L ps) b o i = i.0

  pub held_top : (p : Place) (o : Option Tree) → Fits T p o → Held (tasks_of p) (shown_task o)
  held_top (slot L) o f = f
  held_top (inner L ps) o f = f.0

  -- the variable of what is held is true
  pub true_of : {A : Type 0} (b : ℕ) (xs : List A) (a : A) → Hot v (number b xs) (some a) → a ∈ xs → (n : ℕ) × ((n, a) ∈ number b xs) × (v n ≡ true)
  true_of b xs a h m = let r = number_in b xs a m in (r.0, r.1, (h (r.0, a) r.1).1 refl)

  hot_none : {A : Type 0} (xs : List (ℕ × A)) → Hot v xs none → (x : ℕ × A) → x ∈ xs → v x.0 ≡ false
  hot_none xs h x m = false_of (v x.0) (λ q. none≢some ((h x m).0 q))

  pub body_false : (n : ℕ) (os : List Task) (cs : List (List (ℕ × Task))) → v n ≡ false → satisfies v (body_clauses n os cs) ≡ true
  body_false n os [] h = refl
  body_false n [] (c ∷ cs) h = sat_in v (not_both n c) (body_clauses n [] cs) (not_both_in v n c (λ p. clash p h)) (body_false n [] cs h)
  body_false n (t ∷ ts) (c ∷ cs) h = and_in (clause_true v (neg n ∷ var_of t c)) (satisfies v (body_clauses n ts cs)) (imp_in v n (var_of t c) (λ p. clash p h)) (body_false n ts cs h)

  pub body_true : (ps : Places) (b n : ℕ) (ts : Trees) → HoldsEach T v ps b ts → FitsEach T ps ts → satisfies v (body_clauses n (tops ts) (child_vars T ps b)) ≡ true
  body_true stop b n ts i f = refl
  body_true (also p ps) b n end i f =
      sat_in v (not_both n (task_vars p b)) (body_clauses n [] (child_vars T ps (b + part_vars T p)))
      (not_both_in v n (task_vars p b) (λ h. hot_none (task_vars p b) (hot_top p b none i.0))) (body_true ps (b + part_vars T p) n end i.1 f.1)
  body_true (also p ps) b n (next t ts) i f =
      let r = true_of b (tasks_of p) (top t) (hot_top p b (some t) i.0) (held_top p (some t) f.0) in
      and_in (clause_true v (neg n ∷ var_of (top t) (task_vars p b))) (satisfies v (body_clauses n (tops ts) (child_vars T ps (b + part_vars T p))))
      (imp_in v n (var_of (top t) (task_vars p b)) (λ h. var_of_in v (top t) (task_vars p b) r.0 r.1 r.2))
      (body_true ps (b + part_vars T p) n ts i.1 f.1)

  nothing_held : (ps : Places) (b : ℕ) → HoldsEach T v ps b end → (c : List (ℕ × Task)) → c ∈ child_vars T ps b → (x : ℕ × Task) → x ∈ c → v x.0 ≡ false
  nothing_held stop b i c m x k = absurd m
  nothing_held (also p ps) b i c (inl e) x k = hot_none (task_vars p b) (hot_top p b none i.0) x (rw e at k)
  nothing_held (also p ps) b i c (inr m) x k = nothing_held ps (b + part_vars T p) i.1 c m x k

  module _ (L : Label) (ps : Places) (b : ℕ) (sd : Regular T (inner L ps)) where
    part_c : (o : Option Tree) → Holds T v (inner L ps) b o → Fits T (inner L ps) o → (n : ℕ) (t : Task) → (n, t) ∈ task_vars (inner L ps) b
        → satisfies v (job_clause T (method_vars T (inner L ps) b) (n, t)) ≡ true
    part_c o i f n (step s) m = refl
    part_c o i f n (job j) m =
        and_in (clause_true v (neg n ∷ all_pos (filter mine (method_vars T (inner L ps) b)))) true (imp_in v n (all_pos (filter mine (method_vars T (inner L ps) b))) (λ p. go o i f ((i.0 (n, job j) m).0 p))) refl
      where
        mine : ℕ × ℕ → Bool
        mine = λ x. eqb (job_of T x.1) j

        go : (o : Option Tree) → Holds T v (inner L ps) b o → Fits T (inner L ps) o → shown_task o ≡ some (job j) → clause_true v (all_pos (filter mine (method_vars T (inner L ps) b))) ≡ true
        go none i f e = none≢some e
        go (some (alone s)) i f e = absurd (let z : ◌≡◌ {A = ℕ} 0 1 = cc in omega arith)
        go (some (split k m ts)) i f e =
            let r = true_of (b + length (tasks_of (inner L ps))) (methods_of T L.jobs) m i.1 f.1.0 in
            let q : job_of T m ≡ j = f.1.1 ∙ cc in
            all_pos_in v (filter mine (method_vars T (inner L ps) b)) (r.0, m) (in_filter_in mine (r.0, m) (method_vars T (inner L ps) b) r.1 (rw q (eqb_same j))) r.2

    part_d : (o : Option Tree) → Holds T v (inner L ps) b o → Fits T (inner L ps) o → (x : ℕ × ℕ) → x ∈ method_vars T (inner L ps) b
        → clause_true v (method_clause T (task_vars (inner L ps) b) x) ≡ true
    part_d o i f x k = imp_in v x.0 (var_of (job (job_of T x.1)) (task_vars (inner L ps) b)) (λ p. go o i f ((i.1 x k).0 p))
      where
        go : (o : Option Tree) → Holds T v (inner L ps) b o → Fits T (inner L ps) o → shown_method o ≡ some x.1 → clause_true v (var_of (job (job_of T x.1)) (task_vars (inner L ps) b)) ≡ true
        go none i f e = none≢some e
        go (some (alone s)) i f e = none≢some e
        go (some (split j m ts)) i f e =
            let r = true_of b (tasks_of (inner L ps)) (job j) i.0 f.0 in
            let q : job_of T x.1 ≡ j = ap (job_of T) (sym (some_inj e)) ∙ f.1.1 in
            rw q (var_of_in v (job j) (task_vars (inner L ps) b) r.0 r.1 r.2)

    part_e : (o : Option Tree) → Holds T v (inner L ps) b o → Fits T (inner L ps) o → (x : ℕ × ℕ) → x ∈ method_vars T (inner L ps) b
        → satisfies v (body_clauses x.0 (body_of T x.1) (child_vars T ps (b + own_vars T (inner L ps)))) ≡ true
    part_e o i f x k = test (bool_cases (v x.0))
      where
        go : (o : Option Tree) → Holds T v (inner L ps) b o → Fits T (inner L ps) o → shown_method o ≡ some x.1 → satisfies v (body_clauses x.0 (body_of T x.1) (child_vars T ps (b + own_vars T (inner L ps)))) ≡ true
        go none i f e = none≢some e
        go (some (alone s)) i f e = none≢some e
        go (some (split j m ts)) i f e =
            let q : body_of T x.1 ≡ tops ts = ap (body_of T) (sym (some_inj e)) ∙ sym f.1.2 in
            rw q (body_true ps (b + own_vars T (inner L ps)) x.0 ts i.2 f.2)

        test : (v x.0 ≡ true) ⊎ (v x.0 ≡ false) → satisfies v (body_clauses x.0 (body_of T x.1) (child_vars T ps (b + own_vars T (inner L ps)))) ≡ true
        test (inl q) = go o i f ((i.1 x k).0 q)
        test (inr q) = body_false x.0 (body_of T x.1) (child_vars T ps (b + own_vars T (inner L ps))) q

    part_f : (o : Option Tree) → Holds T v (inner L ps) b o → Fits T (inner L ps) o → (n : ℕ) (t : Task) → (n, t) ∈ task_vars (inner L ps) b
        → satisfies v (step_clauses (child_vars T ps (b + own_vars T (inner L ps))) (n, t)) ≡ true
    part_f o i f n (job j) k = refl
    part_f o i f n (step s) k =
        subst (λ (l : List Clause). satisfies v l ≡ true) (sym (pass_body n s (child_vars T ps (b + own_vars T (inner L ps))))) (test (bool_cases (v n)))
      where
        go : (o : Option Tree) → Holds T v (inner L ps) b o → Fits T (inner L ps) o → shown_task o ≡ some (step s) → satisfies v (body_clauses n (step s ∷ []) (child_vars T ps (b + own_vars T (inner L ps)))) ≡ true
        go none i f e = none≢some e
        go (some (split j m ts)) i f e = absurd (let z : ◌≡◌ {A = ℕ} 0 1 = cc in omega arith)
        go (some (alone r)) i f e = let q : s ≡ r = cc in rw q (body_true ps (b + own_vars T (inner L ps)) n (next (alone r) end) i.2 f.2)

        test : (v n ≡ true) ⊎ (v n ≡ false) → satisfies v (body_clauses n (step s ∷ []) (child_vars T ps (b + own_vars T (inner L ps)))) ≡ true
        test (inl q) = go o i f ((i.0 (n, step s) k).0 q)
        test (inr q) = body_false n (step s ∷ []) (child_vars T ps (b + own_vars T (inner L ps))) q

    part_g : (o : Option Tree) → Holds T v (inner L ps) b o → Fits T (inner L ps) o → (c : List (ℕ × Task)) → c ∈ child_vars T ps (b + own_vars T (inner L ps)) → (x : ℕ × Task) → x ∈ c
        → clause_true v (up_clause (task_vars (inner L ps) b) x) ≡ true
    part_g none i f c mc x mx = up_in v (task_vars (inner L ps) b) x (λ p. clash p (nothing_held ps (b + own_vars T (inner L ps)) i.2 c mc x mx))
    part_g (some t) i f c mc x mx =
        up_in v (task_vars (inner L ps) b) x (λ p. let r = true_of b (tasks_of (inner L ps)) (top t) i.0 f.0 in ((r.0, top t), r.1, r.2))

    pub node_holds : (o : Option Tree) → Holds T v (inner L ps) b o → Fits T (inner L ps) o → Node T v (task_vars (inner L ps) b) (method_vars T (inner L ps) b) (child_vars T ps (b + own_vars T (inner L ps)))
    node_holds o i f = record {
      a = pairs_in v b (tasks_of (inner L ps)) (shown_task o) sd.0.tasks i.0;
      b = pairs_in v (b + length (tasks_of (inner L ps))) (methods_of T L.jobs) (shown_method o) sd.0.methods i.1;
      c = λ x m. part_c o i f x.0 x.1 m;
      d = part_d o i f;
      e = part_e o i f;
      f = λ x m. part_f o i f x.0 x.1 m;
      g = part_g o i f;
    }

  mutual
    pub complete : (p : Place) (b : ℕ) (o : Option Tree) → Regular T p → Holds T v p b o → Fits T p o → satisfies v (rule2 T p b) ≡ true
    complete (slot L) b o sd i f = pairs_in v b (tasks_of (slot L)) (shown_task o) sd i
    complete (inner L ps) b o sd i f =
        sat_in v (inner_clauses T (task_vars (inner L ps) b) (method_vars T (inner L ps) b) (child_vars T ps (b + own_vars T (inner L ps)))) (rules2 T ps (b + own_vars T (inner L ps)))
        (node_in T v (task_vars (inner L ps) b) (method_vars T (inner L ps) b) (child_vars T ps (b + own_vars T (inner L ps))) (node_holds L ps b sd o i f))
        (completes ps (b + own_vars T (inner L ps)) (below o) sd.1 i.2 f.2)

    pub completes : (ps : Places) (b : ℕ) (ts : Trees) → RegularEach T ps → HoldsEach T v ps b ts → FitsEach T ps ts → satisfies v (rules2 T ps b) ≡ true
    completes stop b ts sd i f = refl
    completes (also p ps) b ts sd i f =
        sat_in v (rule2 T p b) (rules2 T ps (b + part_vars T p)) (complete p b (first_tree ts) sd.0 i.0 f.0) (completes ps (b + part_vars T p) (later_trees ts) sd.1 i.1 f.1)
