-- The formula of an accepted table has fewer than 10 to the 9th clauses.
-- Part by part with generous bounds, and by recursion on the place.
use mathlib.Core.Path.{refl, sym, subst}
use mathlib.Core.Bool.{Bool}
use mathlib.Core.List.{List, [], ◌∷◌, ◌++◌}
use mathlib.Core.Logic.{inl, inr}
use Prim.Native.Nat.{ℕ, suc, ◌+◌, ◌*◌, ◌^◌, ◌≤◌, ◌<◌}
use native.Mathlib.Nat.{suc-mul}
use native.Mathlib.Omega.{arith}
use lib.ListN.{length, length-map, length-append}
use Rattle.lists.specs.List.{◌∈◌, concat_map, up_to, has}
use Rattle.lists.proofs.Member.{length_filter}
use Rattle.lists.proofs.Every.{length_concat_map_le}
use Rattle.lists.proofs.Number.{length_from, number_length}
use Rattle.planning.specs.Table.{Task, step, job, Table, step_of, body_of}
use Rattle.planning.specs.Place.{Place, slot, inner, Places, stop, also, root_place, nodes, nodes_of}
use Rattle.planning.specs.Variable.{own_vars, part_vars, task_vars, method_vars, child_vars, slots, first_fact_var, methods_at, tasks_of}
use Rattle.planning.specs.Clause.{neg, Clause, not_both, pairs, job_clause, body_clauses, step_clauses, inner_clauses, rule2, rules2, facts_that, drops, effect_clauses, frame_clauses, rule4, formula}
use Rattle.planning.specs.Accepted.{Accepted}
use Rattle.planning.proofs.Satisfy.{pass_body}
use Rattle.planning.proofs.Sizes.Count.{widths, inner_count, formula_count, effect_count, frame_count}
use Rattle.planning.proofs.Sizes.Sized.{Sized, SizedEach, tasks_sized, children_sized, slot_sized, methods_length, children_length, slots_nodes, root_sized}

pairs_le : {A : Type 0} (xs : List (ℕ × A)) (k : ℕ) → length xs ≤ k → length (pairs xs) ≤ length xs * k
pairs_le [] k l = omega arith
pairs_le (x ∷ xs) k l = omega (
  arith,
  length-append (not_both x.0 xs) (pairs xs),
  length-map xs (λ y. neg x.0 ∷ neg y.0 ∷ []),
  pairs_le xs k (omega arith),
  suc-mul (length xs) k,
)

job_le : (T : Table) (methods : List (ℕ × ℕ)) (n : ℕ) (t : Task) → length (job_clause T methods (n, t)) ≤ 1
job_le T methods n (step s) = omega arith
job_le T methods n (job j) = omega arith

body_le : (n : ℕ) (ts : List Task) (cs : List (List (ℕ × Task))) (k : ℕ) → 1 ≤ k → ((c : List (ℕ × Task)) → c ∈ cs → length c ≤ k) → length (body_clauses n ts cs) ≤ length cs * k
body_le n ts [] k p h = omega arith
body_le n [] (c ∷ cs) k p h = omega (
  arith,
  length-append (not_both n c) (body_clauses n [] cs),
  length-map c (λ x. neg n ∷ neg x.0 ∷ []),
  h c (inl refl),
  body_le n [] cs k p (λ d m. h d (inr m)),
  suc-mul (length cs) k,
)
body_le n (t ∷ ts) (c ∷ cs) k p h = omega (arith, body_le n ts cs k p (λ d m. h d (inr m)), suc-mul (length cs) k)

step_le : (n : ℕ) (t : Task) (cs : List (List (ℕ × Task))) (k : ℕ) → 1 ≤ k → ((c : List (ℕ × Task)) → c ∈ cs → length c ≤ k) → length (step_clauses cs (n, t)) ≤ length cs * k
step_le n (step s) cs k p h = subst (λ (l : List Clause). length l ≤ length cs * k) (sym (pass_body n s cs)) (body_le n (step s ∷ []) cs k p h)
step_le n (job j) cs k p h = omega arith

widths_le : (cs : List (List (ℕ × Task))) (k : ℕ) → ((c : List (ℕ × Task)) → c ∈ cs → length c ≤ k) → widths cs ≤ length cs * k
widths_le [] k h = omega arith
widths_le (c ∷ cs) k h = omega (arith, h c (inl refl), widths_le cs k (λ d m. h d (inr m)), suc-mul (length cs) k)

-- an inner node with at most 128 tasks, 128 methods and 8 children of at most 128 tasks each
inner_le : (T : Table) (tasks : List (ℕ × Task)) (methods : List (ℕ × ℕ)) (cs : List (List (ℕ × Task))) → length tasks ≤ 128 → length methods ≤ 128 → length cs ≤ 8
    → ((c : List (ℕ × Task)) → c ∈ cs → length c ≤ 128) → length (inner_clauses T tasks methods cs) ≤ 300000
inner_le T tasks methods cs t m l h = omega (
  arith,
  inner_count T tasks methods cs,
  pairs_le tasks 128 t,
  pairs_le methods 128 m,
  length_concat_map_le (job_clause T methods) tasks 1 (λ x k. job_le T methods x.0 x.1),
  length_concat_map_le (λ m. body_clauses m.0 (body_of T m.1) cs) methods 1024 (λ x k. omega (arith, body_le x.0 (body_of T x.1) cs 128 (omega arith) h)),
  length_concat_map_le (step_clauses cs) tasks 1024 (λ x k. omega (arith, step_le x.0 x.1 cs 128 (omega arith) h)),
  widths_le cs 128 h,
)

module _ (T : Table) (accepted : Accepted T) where
  abbrev Fit : Place → Type 0
  Fit = Sized (length T.steps) T.jobs 8

  abbrev FitEach : Places → Type 0
  FitEach = SizedEach (length T.steps) T.jobs 8

  tasks_few : (p : Place) (b : ℕ) → Fit p → length (task_vars p b) ≤ 128
  tasks_few p b h = omega (arith, tasks_sized (length T.steps) T.jobs 8 p b h, accepted.limits.steps, accepted.limits.jobs)

  mutual
    rule2_le : (p : Place) (b : ℕ) → Fit p → length (rule2 T p b) ≤ nodes p * 300000
    rule2_le (slot L) b h = omega (arith, tasks_few (slot L) b h, pairs_le (task_vars (slot L) b) 128 (tasks_few (slot L) b h))
    rule2_le (inner L ps) b h = omega (
      arith,
      length-append (inner_clauses T (task_vars (inner L ps) b) (method_vars T (inner L ps) b) (child_vars T ps (b + own_vars T (inner L ps)))) (rules2 T ps (b + own_vars T (inner L ps))),
      inner_le T (task_vars (inner L ps) b) (method_vars T (inner L ps) b) (child_vars T ps (b + own_vars T (inner L ps))) (tasks_few (inner L ps) b h)
          (omega (arith, number_length (b + length (tasks_of (inner L ps))) (methods_at T (inner L ps)), methods_length T L.jobs, accepted.limits.methods))
          (omega (arith, children_length T ps (b + own_vars T (inner L ps)), h.0.1))
          (λ c m. omega (arith, children_sized (length T.steps) T.jobs 8 T ps (b + own_vars T (inner L ps)) h.1 c m, accepted.limits.steps, accepted.limits.jobs)),
      rules2_le ps (b + own_vars T (inner L ps)) h.1,
    )

    rules2_le : (ps : Places) (b : ℕ) → FitEach ps → length (rules2 T ps b) ≤ nodes_of ps * 300000
    rules2_le stop b h = omega arith
    rules2_le (also p ps) b h = omega (arith, length-append (rule2 T p b) (rules2 T ps (b + part_vars T p)), rule2_le p b h.0, rules2_le ps (b + part_vars T p) h.1)

  facts_le : (p : ℕ → Bool) → length (facts_that T p) ≤ 64
  facts_le p = omega (arith, length_filter p (up_to T.facts), length_from 0 T.facts, accepted.limits.facts)

  rule4_le : (b i : ℕ) (xss : List (List (ℕ × ℕ))) → ((xs : List (ℕ × ℕ)) → xs ∈ xss → length xs ≤ 64) → length (rule4 T b i xss) ≤ length xss * 20000
  rule4_le b i [] h = omega arith
  rule4_le b i (xs ∷ xss) h = omega (
    arith,
    length-append (concat_map (effect_clauses T b i) xs ++ frame_clauses T b i xs) (rule4 T b (suc i) xss),
    length-append (concat_map (effect_clauses T b i) xs) (frame_clauses T b i xs),
    length_concat_map_le (effect_clauses T b i) xs 192
        (λ x m. omega (arith, effect_count T b i x, facts_le (has (step_of T x.1).needs), facts_le (has (step_of T x.1).sets), facts_le (drops (step_of T x.1)))),
    frame_count T b i xs,
    accepted.limits.facts,
    h xs (inl refl),
    rule4_le b (suc i) xss (λ ys m. h ys (inr m)),
  )

  pub formula_few : length (formula T) < 10 ^ 9
  formula_few =
      let fit = root_sized T 8 (omega arith) accepted.limits.bodies (omega (arith, accepted.sound.root)) in
      let b = first_fact_var T in
      omega (
        arith,
        formula_count T,
        rule2_le (root_place T) 1 fit,
        rule4_le b 0 (slots T) (λ xs m. omega (arith, slot_sized (length T.steps) T.jobs 8 T (root_place T) 1 fit xs m, accepted.limits.steps)),
        slots_nodes T (root_place T) 1,
        accepted.limits.facts,
        accepted.few_nodes,
      )
