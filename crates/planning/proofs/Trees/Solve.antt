-- A valuation that satisfies the clauses of a place holds a tree there that fits it.
-- By recursion on the place: what is true at a node, by (a) to (g), says what is given to each child.
use mathlib.Core.Path.{◌≡◌, refl, sym, ap, subst}
use mathlib.Core.Bool.{Bool, true, false}
use mathlib.Core.List.{List, [], ◌∷◌}
use mathlib.Core.Logic.{inl, inr}
use mathlib.Core.Option.{Option, none, some}
use Prim.Native.Nat.{ℕ, ◌+◌, ◌≤◌}
use native.Mathlib.Omega.{arith}
use lib.ListN.{length}
use lib.Dec.{eqb}
use Rattle.lists.specs.List.{filter, ◌∈◌}
use Rattle.lists.proofs.Bool.{clash, and_l, and_r, eqb_sound, none≢some, false_of}
use Rattle.lists.proofs.Member.{in_filter_out}
use Rattle.lists.proofs.Number.{number_thing}
use Rattle.planning.specs.Table.{Task, step, job, Table, job_of, body_of}
use Rattle.planning.specs.Tree.{Tree, alone, split, Trees, end, next, tops}
use Rattle.planning.specs.Place.{Label, Place, slot, inner, Places, stop, also, methods_of, count}
use Rattle.planning.specs.Variable.{tasks_of, own_vars, part_vars, task_vars, method_vars, child_vars}
use Rattle.planning.specs.Clause.{neg, Clause, all_pos, not_both, var_of, body_clauses, inner_clauses, rule2, rules2}
use Rattle.planning.specs.Model.{Valuation, clause_true, satisfies}
use Rattle.planning.proofs.Task.{no_job, step_among}
use Rattle.planning.proofs.Satisfy.{pass_body, sat_l, sat_r, imp_out, all_pos_out, not_both_out, var_of_out, up_out}
use Rattle.planning.proofs.Trees.Hold.{Hot, Pick, hot_of_pick, shown_task, Holds, HoldsEach, Fits, FitsEach, Regular, RegularEach}
use Rattle.planning.proofs.Trees.Letters.{Node, node_out}

-- the children are given these names, in order, and no others
abbrev pub Given : Table → Valuation → Places → ℕ → List Task → Type 0
Given T v stop b [] = Unit {0}
Given T v stop b (t ∷ ts) = ⊥
Given T v (also p ps) b [] = Pick v (task_vars p b) none × Given T v ps (b + part_vars T p) []
Given T v (also p ps) b (t ∷ ts) = Pick v (task_vars p b) (some t) × Given T v ps (b + part_vars T p) ts

module _ (T : Table) (v : Valuation) where
  pub body_given : (ps : Places) (b n : ℕ) (ts : List Task) → v n ≡ true → satisfies v (body_clauses n ts (child_vars T ps b)) ≡ true → length ts ≤ count ps → Given T v ps b ts
  body_given stop b n [] p s h = tt
  body_given stop b n (t ∷ ts) p s h = omega arith
  body_given (also q ps) b n [] p s h = (
    not_both_out v n (task_vars q b) (sat_l v (not_both n (task_vars q b)) (body_clauses n [] (child_vars T ps (b + part_vars T q))) s) p,
    body_given ps (b + part_vars T q) n [] p (sat_r v (not_both n (task_vars q b)) (body_clauses n [] (child_vars T ps (b + part_vars T q))) s) (omega arith),
  )
  body_given (also q ps) b n (t ∷ ts) p s h = (
    var_of_out v t (task_vars q b) (imp_out v n (var_of t (task_vars q b)) (and_l (clause_true v (neg n ∷ var_of t (task_vars q b))) (satisfies v (body_clauses n ts (child_vars T ps (b + part_vars T q)))) s) p),
    body_given ps (b + part_vars T q) n ts p (and_r (clause_true v (neg n ∷ var_of t (task_vars q b))) (satisfies v (body_clauses n ts (child_vars T ps (b + part_vars T q)))) s) (omega arith),
  )

  -- where nothing is true at any child
  pub given_nothing : (ps : Places) (b : ℕ) → ((c : List (ℕ × Task)) → c ∈ child_vars T ps b → (x : ℕ × Task) → x ∈ c → v x.0 ≡ false) → Given T v ps b []
  given_nothing stop b f = tt
  given_nothing (also p ps) b f = (f (task_vars p b) (inl refl), given_nothing ps (b + part_vars T p) (λ c m. f c (inr m)))

  abbrev pub Solution : Place → ℕ → Option Task → Type 0
  Solution p b o = (r : Option Tree) × (shown_task r ≡ o) × Holds T v p b r × Fits T p r

  abbrev pub Solutions : Places → ℕ → List Task → Type 0
  Solutions ps b os = (ts : Trees) × (tops ts ≡ os) × HoldsEach T v ps b ts × FitsEach T ps ts

  module _ (L : Label) (ps : Places) (b : ℕ) (sd : Regular T (inner L ps))
      (n : Node T v (task_vars (inner L ps) b) (method_vars T (inner L ps) b) (child_vars T ps (b + own_vars T (inner L ps))))
      (k : (os : List Task) → Given T v ps (b + own_vars T (inner L ps)) os → Solutions ps (b + own_vars T (inner L ps)) os) where
    no_method : (o : Option Task) → Hot v (task_vars (inner L ps) b) o → ((j : ℕ) → o ≡ some (job j) → ⊥) → Hot v (method_vars T (inner L ps) b) none
    no_method o h u x m = (
      λ p. let r = var_of_out v (job (job_of T x.1)) (task_vars (inner L ps) b)
          (imp_out v x.0 (var_of (job (job_of T x.1)) (task_vars (inner L ps) b)) (n.d x m) p) in
          absurd (u (job_of T x.1) ((h (r.0, job (job_of T x.1)) r.1).0 r.2)),
      λ e. none≢some e,
    )

    nothing_below : Pick v (task_vars (inner L ps) b) none → Given T v ps (b + own_vars T (inner L ps)) []
    nothing_below p = given_nothing ps (b + own_vars T (inner L ps)) (λ c mc x mx. false_of (v x.0)
        (λ q. let r = up_out v (task_vars (inner L ps) b) x (n.g c mc x mx) q in clash r.2 (p r.0 r.1)))

    inner_none : Pick v (task_vars (inner L ps) b) none → Solution (inner L ps) b none
    inner_none p = let s = k [] (nothing_below p) in go s.0 s.1 s.2 s.3
      where
        hot : Hot v (task_vars (inner L ps) b) none
        hot = hot_of_pick v b (tasks_of (inner L ps)) none sd.0.tasks n.a p

        go : (ts : Trees) → tops ts ≡ [] → HoldsEach T v ps (b + own_vars T (inner L ps)) ts → FitsEach T ps ts → Solution (inner L ps) b none
        go end e i f = (none, refl, (hot, no_method none hot (λ j q. none≢some q), i), (tt, tt, f))
        go (next t ts) e i f = absurd (let z : ◌≡◌ {A = ℕ} 0 1 = cc in omega arith)

    inner_step : (s : ℕ) → Pick v (task_vars (inner L ps) b) (some (step s)) → Solution (inner L ps) b (some (step s))
    inner_step s p = let r = k (step s ∷ []) given in go r.0 r.1 r.2 r.3
      where
        given : Given T v ps (b + own_vars T (inner L ps)) (step s ∷ [])
        given = body_given ps (b + own_vars T (inner L ps)) p.0 (step s ∷ []) p.2
            (subst (λ (l : List Clause). satisfies v l ≡ true) (pass_body p.0 s (child_vars T ps (b + own_vars T (inner L ps)))) (n.f (p.0, step s) p.1)) (sd.0.steps s (step_among L.steps L.jobs s (number_thing b (tasks_of (inner L ps)) (p.0, step s) p.1)))

        hot : Hot v (task_vars (inner L ps) b) (some (step s))
        hot = hot_of_pick v b (tasks_of (inner L ps)) (some (step s)) sd.0.tasks n.a p

        hotm : Hot v (method_vars T (inner L ps) b) none
        hotm = no_method (some (step s)) hot (λ j q. let z : ◌≡◌ {A = ℕ} 0 1 = cc in omega arith)

        go : (ts : Trees) → tops ts ≡ step s ∷ [] → HoldsEach T v ps (b + own_vars T (inner L ps)) ts → FitsEach T ps ts → Solution (inner L ps) b (some (step s))
        go end e i f = absurd (let z : ◌≡◌ {A = ℕ} 0 1 = cc in omega arith)
        go (next (split j m us) ts) e i f = absurd (let z : ◌≡◌ {A = ℕ} 0 1 = cc in omega arith)
        go (next (alone r) (next t ts)) e i f = absurd (let z : ◌≡◌ {A = ℕ} 0 1 = cc in omega arith)
        go (next (alone r) end) e i f =
            let q : r ≡ s = cc in
            (some (alone r), ap (λ (z : ℕ). some (step z)) q, (rw q hot, hotm, i), (rw q (number_thing b (tasks_of (inner L ps)) (p.0, step s) p.1), tt, f))

    inner_job : (j : ℕ) → Pick v (task_vars (inner L ps) b) (some (job j)) → Solution (inner L ps) b (some (job j))
    inner_job j p = go x.0 q.0 (eqb_sound (job_of T x.0.1) j q.1) x.2
      where
        mine : ℕ × ℕ → Bool
        mine = λ m. eqb (job_of T m.1) j

        x : (x : ℕ × ℕ) × (x ∈ filter mine (method_vars T (inner L ps) b)) × (v x.0 ≡ true)
        x = all_pos_out v (filter mine (method_vars T (inner L ps) b)) (imp_out v p.0 (all_pos (filter mine (method_vars T (inner L ps) b)))
            (and_l (clause_true v (neg p.0 ∷ all_pos (filter mine (method_vars T (inner L ps) b)))) true (n.c (p.0, job j) p.1)) p.2)

        q : (x.0 ∈ method_vars T (inner L ps) b) × (mine x.0 ≡ true)
        q = in_filter_out mine x.0 (method_vars T (inner L ps) b) x.1

        hot : Hot v (task_vars (inner L ps) b) (some (job j))
        hot = hot_of_pick v b (tasks_of (inner L ps)) (some (job j)) sd.0.tasks n.a p

        go : (y : ℕ × ℕ) → y ∈ method_vars T (inner L ps) b → job_of T y.1 ≡ j → v y.0 ≡ true → Solution (inner L ps) b (some (job j))
        go y my e t =
            let m = y.1 in
            let mm : m ∈ methods_of T L.jobs = number_thing (b + length (tasks_of (inner L ps))) (methods_of T L.jobs) y my in
            let r = k (body_of T m) (body_given ps (b + own_vars T (inner L ps)) y.0 (body_of T m) t (n.e y my) (sd.0.bodies m mm)) in (
              some (split j m r.0),
              refl,
              (hot, hot_of_pick v (b + length (tasks_of (inner L ps))) (methods_of T L.jobs) (some m) sd.0.methods n.b (y.0, my, t), r.2),
              (number_thing b (tasks_of (inner L ps)) (p.0, job j) p.1, (mm, e, r.1), r.3),
            )

    inner_solution : (o : Option Task) → Pick v (task_vars (inner L ps) b) o → Solution (inner L ps) b o
    inner_solution none p = inner_none p
    inner_solution (some (step s)) p = inner_step s p
    inner_solution (some (job j)) p = inner_job j p

  slot_solution : (L : Label) (b : ℕ) (o : Option Task) → Regular T (slot L) → satisfies v (rule2 T (slot L) b) ≡ true → Pick v (task_vars (slot L) b) o → Solution (slot L) b o
  slot_solution L b none sd s p = (none, refl, hot_of_pick v b (tasks_of (slot L)) none sd s p, tt)
  slot_solution L b (some (step r)) sd s p = (some (alone r), refl, hot_of_pick v b (tasks_of (slot L)) (some (step r)) sd s p, number_thing b (tasks_of (slot L)) (p.0, step r) p.1)
  slot_solution L b (some (job j)) sd s p = absurd (no_job j L.steps (number_thing b (tasks_of (slot L)) (p.0, job j) p.1))

  join_none : (p : Place) (ps : Places) (b : ℕ) → Solution p b none → Solutions ps (b + part_vars T p) [] → Solutions (also p ps) b []
  join_none p ps b r s = go r.0 r.1 r.2 r.3 s.0 s.1 s.2 s.3
    where
      go : (r : Option Tree) → shown_task r ≡ none → Holds T v p b r → Fits T p r → (ts : Trees) → tops ts ≡ [] → HoldsEach T v ps (b + part_vars T p) ts → FitsEach T ps ts → Solutions (also p ps) b []
      go none e i f end h is fs = (end, refl, (i, is), (f, fs))
      go none e i f (next t ts) h is fs = absurd (let z : ◌≡◌ {A = ℕ} 0 1 = cc in omega arith)
      go (some t) e i f ts h is fs = none≢some (sym e)

  join_some : (p : Place) (ps : Places) (b : ℕ) (t : Task) (os : List Task) → Solution p b (some t) → Solutions ps (b + part_vars T p) os → Solutions (also p ps) b (t ∷ os)
  join_some p ps b t os r s = go r.0 r.1 r.2 r.3 s.0 s.1 s.2 s.3
    where
      go : (r : Option Tree) → shown_task r ≡ some t → Holds T v p b r → Fits T p r → (ts : Trees) → tops ts ≡ os → HoldsEach T v ps (b + part_vars T p) ts → FitsEach T ps ts → Solutions (also p ps) b (t ∷ os)
      go none e i f ts h is fs = none≢some e
      go (some x) e i f ts h is fs = (next x ts, cc, (i, is), (f, fs))

  mutual
    pub solve : (p : Place) (b : ℕ) (o : Option Task) → Regular T p → satisfies v (rule2 T p b) ≡ true → Pick v (task_vars p b) o → Solution p b o
    solve (slot L) b o sd s g = slot_solution L b o sd s g
    solve (inner L ps) b o sd s g =
        let nc = inner_clauses T (task_vars (inner L ps) b) (method_vars T (inner L ps) b) (child_vars T ps (b + own_vars T (inner L ps))) in
        inner_solution L ps b sd
        (node_out T v (task_vars (inner L ps) b) (method_vars T (inner L ps) b) (child_vars T ps (b + own_vars T (inner L ps))) (sat_l v nc (rules2 T ps (b + own_vars T (inner L ps))) s))
        (λ os h. solves ps (b + own_vars T (inner L ps)) os sd.1 (sat_r v nc (rules2 T ps (b + own_vars T (inner L ps))) s) h) o g

    pub solves : (ps : Places) (b : ℕ) (os : List Task) → RegularEach T ps → satisfies v (rules2 T ps b) ≡ true → Given T v ps b os → Solutions ps b os
    solves stop b [] sd s g = (end, refl, tt, refl)
    solves stop b (t ∷ os) sd s g = absurd g
    solves (also p ps) b [] sd s g =
        join_none p ps b (solve p b none sd.0 (sat_l v (rule2 T p b) (rules2 T ps (b + part_vars T p)) s) g.0)
        (solves ps (b + part_vars T p) [] sd.1 (sat_r v (rule2 T p b) (rules2 T ps (b + part_vars T p)) s) g.1)
    solves (also p ps) b (t ∷ os) sd s g =
        join_some p ps b t os (solve p b (some t) sd.0 (sat_l v (rule2 T p b) (rules2 T ps (b + part_vars T p)) s) g.0)
        (solves ps (b + part_vars T p) os sd.1 (sat_r v (rule2 T p b) (rules2 T ps (b + part_vars T p)) s) g.1)
