-- Every literal of the formula is of a variable from 1 to the count, and no clause has more literals than the table's counts allow.
-- Rule by rule, and for rule 2 by recursion on the place.
use mathlib.Core.Path.{◌≡◌, refl, sym, subst}
use mathlib.Core.Bool.{Bool, true, false}
use mathlib.Core.List.{List, [], ◌∷◌, ◌++◌, map}
use mathlib.Core.Logic.{inl, inr}
use Prim.Native.Nat.{ℕ, suc, ◌+◌, max, ◌≤◌, ◌<◌}
use native.Mathlib.Nat.{suc-mul, mul-le-mul_right}
use native.Mathlib.Omega.{arith}
use lib.ListN.{length, length-map, length-append}
use lib.Dec.{eqb}
use Rattle.lists.specs.List.{filter, ◌∈◌, Every, concat_map, up_to, has}
use Rattle.lists.proofs.Member.{in_filter_out, length_filter}
use Rattle.lists.proofs.Every.{every_append, every_map, every_concat_map, every_imp}
use Rattle.lists.proofs.Number.{up_to_range, number_length}
use Rattle.planning.specs.Table.{Task, step, job, same, Method, Table, step_of, job_of, body_of, Sound}
use Rattle.planning.specs.Tree.{initial}
use Rattle.planning.specs.Place.{Label, Place, slot, inner, Places, stop, also, root_place}
use Rattle.planning.specs.Variable.{own_vars, part_vars, parts_vars, task_vars, method_vars, child_vars, slots, fact_var, first_fact_var, variables, methods_at, tasks_of}
use Rattle.planning.specs.Clause.{Lit, pos, neg, Clause, variable_of, all_pos, not_both, pairs, var_of, rule1, job_clause, method_clause, body_clauses, step_clauses, up_clause, inner_clauses, rule2, rules2, literal, rule3, facts_that, drops, effect_clauses, fall_clause, rise_clause, frame_clauses, rule4, formula}
use Rattle.planning.specs.Promises.{LiteralsInRange}
use Rattle.planning.proofs.Range.{task_range, method_range, child_range, slot_range}
use Rattle.planning.proofs.Satisfy.{pass_body}
use Rattle.planning.proofs.Sizes.Sized.{Sized, SizedEach, tasks_sized, children_sized, slot_sized, methods_length, root_sized}

-- one of N variables
abbrev pub In : ℕ → ℕ → Type 0
In N n = (1 ≤ n) × (n ≤ N)

abbrev pub LitIn : ℕ → Lit → Type 0
LitIn N l = In N (variable_of l)

abbrev VarsIn : {A : Type 0} → ℕ → List (ℕ × A) → Type 0
VarsIn {A} N xs = (x : ℕ × A) → x ∈ xs → In N x.0

-- N variables, and at most W literals ------------------------------------------------------------------------------------------
module _ (N W : ℕ) where
  pub record Small (c : Clause) : Type 0 where
    pub short : length c ≤ W
    pub inside : Every (LitIn N) c

  module _ {A : Type 0} where
    pos_in : (xs : List (ℕ × A)) → VarsIn N xs → Every (LitIn N) (all_pos xs)
    pos_in xs h = every_map (LitIn N) (λ x. pos x.0) xs h

    pos_length : (xs : List (ℕ × A)) → length (all_pos xs) ≡ length xs
    pos_length xs = length-map xs (λ x. pos x.0)

    kept_in : (p : ℕ × A → Bool) (xs : List (ℕ × A)) → VarsIn N xs → Every (LitIn N) (all_pos (filter p xs))
    kept_in p xs h = pos_in (filter p xs) (λ x m. h x (in_filter_out p x xs m).0)

    kept_length : (p : ℕ × A → Bool) (xs : List (ℕ × A)) → length (all_pos (filter p xs)) ≤ length xs
    kept_length p xs = omega (arith, pos_length (filter p xs), length_filter p xs)

    both_small : (n : ℕ) (xs : List (ℕ × A)) → 2 ≤ W → In N n → VarsIn N xs → Every Small (not_both n xs)
    both_small n xs w i h = every_map Small (λ x. neg n ∷ neg x.0 ∷ []) xs (λ x m. record { short = omega arith; inside = (i, (h x m, tt)) })

    pairs_small : (xs : List (ℕ × A)) → 2 ≤ W → VarsIn N xs → Every Small (pairs xs)
    pairs_small [] w h = tt
    pairs_small (x ∷ xs) w h =
        every_append Small (not_both x.0 xs) (pairs xs) (both_small x.0 xs w (h x (inl refl)) (λ y m. h y (inr m))) (pairs_small xs w (λ y m. h y (inr m)))

    -- a literal, then some of these variables
    behind_small : (l : Lit) (p : ℕ × A → Bool) (xs : List (ℕ × A)) → LitIn N l → VarsIn N xs → suc (length xs) ≤ W → Small (l ∷ all_pos (filter p xs))
    behind_small l p xs i h w = record { short = omega (arith, kept_length p xs); inside = (i, kept_in p xs h) }

  -- Rule 2 at an inner node ----------------------------------------------------------------------------------------------------
  abbrev Narrow : {A : Type 0} → List (ℕ × A) → Type 0
  Narrow xs = VarsIn N xs × (suc (length xs) ≤ W)

  job_small : (T : Table) (methods : List (ℕ × ℕ)) (n : ℕ) (t : Task) → In N n → Narrow methods → Every Small (job_clause T methods (n, t))
  job_small T methods n (step s) i h = tt
  job_small T methods n (job j) i h = (behind_small (neg n) (λ m. eqb (job_of T m.1) j) methods i h.0 h.1, tt)

  body_small : (n : ℕ) (ts : List Task) (cs : List (List (ℕ × Task))) → 2 ≤ W → In N n → ((c : List (ℕ × Task)) → c ∈ cs → Narrow c) → Every Small (body_clauses n ts cs)
  body_small n ts [] w i h = tt
  body_small n [] (c ∷ cs) w i h =
      every_append Small (not_both n c) (body_clauses n [] cs) (both_small n c w i (h c (inl refl)).0) (body_small n [] cs w i (λ d m. h d (inr m)))
  body_small n (t ∷ ts) (c ∷ cs) w i h =
      (behind_small (neg n) (λ x. same t x.1) c i (h c (inl refl)).0 (h c (inl refl)).1, body_small n ts cs w i (λ d m. h d (inr m)))

  step_small : (n : ℕ) (t : Task) (cs : List (List (ℕ × Task))) → 2 ≤ W → In N n → ((c : List (ℕ × Task)) → c ∈ cs → Narrow c) → Every Small (step_clauses cs (n, t))
  step_small n (step s) cs w i h = subst (Every Small) (sym (pass_body n s cs)) (body_small n (step s ∷ []) cs w i h)
  step_small n (job j) cs w i h = tt

  up_small : (tasks : List (ℕ × Task)) (x : ℕ × Task) → Narrow tasks → In N x.0 → Small (up_clause tasks x)
  up_small tasks x h i = record {
    short = omega (arith, length-append (all_pos tasks) (neg x.0 ∷ []), pos_length tasks, h.1);
    inside = every_append (LitIn N) (all_pos tasks) (neg x.0 ∷ []) (pos_in tasks h.0) (i, tt);
  }

  inner_small : (T : Table) (tasks : List (ℕ × Task)) (methods : List (ℕ × ℕ)) (cs : List (List (ℕ × Task))) → 2 ≤ W → Narrow tasks → Narrow methods
      → ((c : List (ℕ × Task)) → c ∈ cs → Narrow c) → Every Small (inner_clauses T tasks methods cs)
  inner_small T tasks methods cs w ht hm hc =
      every_append Small (pairs tasks) _ (pairs_small tasks w ht.0)
      (every_append Small (pairs methods) _ (pairs_small methods w hm.0)
      (every_append Small (concat_map (job_clause T methods) tasks) _ (every_concat_map Small (job_clause T methods) tasks (λ x m. job_small T methods x.0 x.1 (ht.0 x m) hm))
      (every_append Small (map (method_clause T tasks) methods) _
      (every_map Small (method_clause T tasks) methods (λ x m. behind_small (neg x.0) (λ y. same (job (job_of T x.1)) y.1) tasks (hm.0 x m) ht.0 ht.1))
      (every_append Small (concat_map (λ m. body_clauses m.0 (body_of T m.1) cs) methods) _
      (every_concat_map Small (λ m. body_clauses m.0 (body_of T m.1) cs) methods (λ x m. body_small x.0 (body_of T x.1) cs w (hm.0 x m) hc))
      (every_append Small (concat_map (step_clauses cs) tasks) _ (every_concat_map Small (step_clauses cs) tasks (λ x m. step_small x.0 x.1 cs w (ht.0 x m) hc))
      (every_concat_map Small (λ c. map (up_clause tasks) c) cs (λ c k. every_map Small (up_clause tasks) c (λ x m. up_small tasks x ht ((hc c k).0 x m)))))))))

-- what the table's counts say of W
pub record Wide (T : Table) (W : ℕ) : Type 0 where
  pub slots : 2 + length T.steps ≤ W
  pub tasks : suc (length T.steps + T.jobs) ≤ W
  pub methods : suc (length T.methods) ≤ W

module _ (T : Table) (N W C : ℕ) (wide : Wide T W) where
  -- Rule 2 -----------------------------------------------------------------------------------------------------------------------
  abbrev Fit : Place → Type 0
  Fit = Sized (length T.steps) T.jobs C

  abbrev FitEach : Places → Type 0
  FitEach = SizedEach (length T.steps) T.jobs C

  task_narrow : (p : Place) (b : ℕ) → Fit p → 1 ≤ b → b + part_vars T p ≤ suc N → Narrow N W (task_vars p b)
  task_narrow p b h l s =
      (λ x m. let r = task_range T p b x m in (omega arith, omega arith), omega (arith, tasks_sized (length T.steps) T.jobs C p b h, wide.tasks))

  child_narrow : (ps : Places) (b : ℕ) → FitEach ps → 1 ≤ b → b + parts_vars T ps ≤ suc N → (c : List (ℕ × Task)) → c ∈ child_vars T ps b → Narrow N W c
  child_narrow ps b h l s c k = (
    λ x m. let r = child_range T ps b c k x m in (omega arith, omega arith),
    omega (arith, children_sized (length T.steps) T.jobs C T ps b h c k, wide.tasks),
  )

  method_narrow : (L : Label) (ps : Places) (b : ℕ) → 1 ≤ b → b + own_vars T (inner L ps) ≤ suc N → Narrow N W (method_vars T (inner L ps) b)
  method_narrow L ps b l s = (
    λ x m. let r = method_range T (inner L ps) b x m in (omega arith, omega arith),
    omega (arith, number_length (b + length (tasks_of (inner L ps))) (methods_at T (inner L ps)), methods_length T L.jobs, wide.methods),
  )

  mutual
    rule2_small : (p : Place) (b : ℕ) → Fit p → 1 ≤ b → b + part_vars T p ≤ suc N → Every (Small N W) (rule2 T p b)
    rule2_small (slot L) b h l s = pairs_small N W (task_vars (slot L) b) (omega (arith, wide.slots)) (task_narrow (slot L) b h l s).0
    rule2_small (inner L ps) b h l s =
        every_append (Small N W) (inner_clauses T (task_vars (inner L ps) b) (method_vars T (inner L ps) b) (child_vars T ps (b + own_vars T (inner L ps)))) (rules2 T ps (b + own_vars T (inner L ps)))
        (inner_small N W T (task_vars (inner L ps) b) (method_vars T (inner L ps) b) (child_vars T ps (b + own_vars T (inner L ps))) (omega (arith, wide.slots))
        (task_narrow (inner L ps) b h l s) (method_narrow L ps b l (omega arith)) (child_narrow ps (b + own_vars T (inner L ps)) h.1 (omega arith) (omega arith)))
        (rules2_small ps (b + own_vars T (inner L ps)) h.1 (omega arith) (omega arith))

    rules2_small : (ps : Places) (b : ℕ) → FitEach ps → 1 ≤ b → b + parts_vars T ps ≤ suc N → Every (Small N W) (rules2 T ps b)
    rules2_small stop b h l s = tt
    rules2_small (also p ps) b h l s =
        every_append (Small N W) (rule2 T p b) (rules2 T ps (b + part_vars T p)) (rule2_small p b h.0 l (omega arith)) (rules2_small ps (b + part_vars T p) h.1 (omega arith) (omega arith))

  -- Rules 3 and 4 ------------------------------------------------------------------------------------------------------------------
  abbrev FactsIn : ℕ → ℕ → Type 0
  FactsIn b i = (f : ℕ) → f < T.facts → In N (fact_var T b i f)

  literal_in : (c : Bool) (n : ℕ) → In N n → LitIn N (literal c n)
  literal_in true n i = i
  literal_in false n i = i

  rule3_small : (b : ℕ) → FactsIn b 0 → Every (Small N W) (rule3 T b)
  rule3_small b h = every_map (Small N W) (λ f. literal (initial T f) (fact_var T b 0 f) ∷ []) (up_to T.facts)
      (λ f m. record { short = omega (arith, wide.slots); inside = (literal_in (initial T f) (fact_var T b 0 f) (h f (up_to_range f T.facts m)), tt) })

  gate_small : (n : ℕ) (l : ℕ → Lit) (p : ℕ → Bool) → In N n → ((f : ℕ) → f < T.facts → LitIn N (l f)) → Every (Small N W) (map (λ f. neg n ∷ l f ∷ []) (facts_that T p))
  gate_small n l p i h = every_map (Small N W) (λ f. neg n ∷ l f ∷ []) (facts_that T p)
      (λ f m. record { short = omega (arith, wide.slots); inside = (i, (h f (up_to_range f T.facts (in_filter_out p f (up_to T.facts) m).0), tt)) })

  effect_small : (b i : ℕ) (x : ℕ × ℕ) → In N x.0 → FactsIn b i → FactsIn b (suc i) → Every (Small N W) (effect_clauses T b i x)
  effect_small b i x k h g =
      every_append (Small N W) (map (λ f. neg x.0 ∷ pos (fact_var T b i f) ∷ []) (facts_that T (has (step_of T x.1).needs))) _
      (gate_small x.0 (λ f. pos (fact_var T b i f)) (has (step_of T x.1).needs) k h)
      (every_append (Small N W) (map (λ f. neg x.0 ∷ pos (fact_var T b (suc i) f) ∷ []) (facts_that T (has (step_of T x.1).sets))) _
      (gate_small x.0 (λ f. pos (fact_var T b (suc i) f)) (has (step_of T x.1).sets) k g)
      (gate_small x.0 (λ f. neg (fact_var T b (suc i) f)) (drops (step_of T x.1)) k g))

  abbrev SlotIn : List (ℕ × ℕ) → Type 0
  SlotIn xs = VarsIn N xs × (2 + length xs ≤ W)

  -- before and after, and some of the slot's steps
  keep_small : (l m : Lit) (p : ℕ × ℕ → Bool) (xs : List (ℕ × ℕ)) → SlotIn xs → LitIn N l → LitIn N m → Small N W (l ∷ m ∷ all_pos (filter p xs))
  keep_small l m p xs h i j = record { short = omega (arith, kept_length N W p xs, h.1); inside = (i, (j, kept_in N W p xs h.0)) }

  frame_small : (b i : ℕ) (xs : List (ℕ × ℕ)) → SlotIn xs → FactsIn b i → FactsIn b (suc i) → Every (Small N W) (frame_clauses T b i xs)
  frame_small b i xs hx h g = every_concat_map (Small N W) (λ f. fall_clause T b i xs f ∷ rise_clause T b i xs f ∷ []) (up_to T.facts) (λ f m. let l = up_to_range f T.facts m in (
    keep_small (neg (fact_var T b i f)) (pos (fact_var T b (suc i) f)) (λ x. drops (step_of T x.1) f) xs hx (h f l) (g f l),
    (keep_small (pos (fact_var T b i f)) (neg (fact_var T b (suc i) f)) (λ x. has (step_of T x.1).sets f) xs hx (h f l) (g f l), tt),
  ))

  rule4_small : (b i : ℕ) (xss : List (List (ℕ × ℕ))) → ((xs : List (ℕ × ℕ)) → xs ∈ xss → SlotIn xs) → ((k : ℕ) → k ≤ i + length xss → FactsIn b k) → Every (Small N W) (rule4 T b i xss)
  rule4_small b i [] hx h = tt
  rule4_small b i (xs ∷ xss) hx h =
      let before = h i (omega arith) in
      let after = h (suc i) (omega arith) in
      every_append (Small N W) (concat_map (effect_clauses T b i) xs ++ frame_clauses T b i xs) (rule4 T b (suc i) xss)
      (every_append (Small N W) (concat_map (effect_clauses T b i) xs) (frame_clauses T b i xs)
      (every_concat_map (Small N W) (effect_clauses T b i) xs (λ x m. effect_small b i x ((hx xs (inl refl)).0 x m) before after)) (frame_small b i xs (hx xs (inl refl)) before after))
      (rule4_small b (suc i) xss (λ ys m. hx ys (inr m)) (λ k l. h k (omega arith)))

-- The formula ----------------------------------------------------------------------------------------------------------------------
module _ (T : Table) (W C : ℕ) (wide : Wide T W) (sized : Sized (length T.steps) T.jobs C (root_place T)) where
  abbrev N : ℕ
  N = variables T

  root_small : Small N W (var_of (job T.root) (task_vars (root_place T) 1))
  root_small =
      let h = task_narrow T N W C wide (root_place T) 1 sized (omega arith) (omega arith) in
      record {
        short = omega (arith, kept_length N W (λ (x : ℕ × Task). same (job T.root) x.1) (task_vars (root_place T) 1), h.1);
        inside = kept_in N W (λ x. same (job T.root) x.1) (task_vars (root_place T) 1) h.0;
      }

  slots_in : (xs : List (ℕ × ℕ)) → xs ∈ slots T → SlotIn T N W C wide xs
  slots_in xs k = (
    λ x m. let r = slot_range T (root_place T) 1 xs k x m in (omega arith, omega arith),
    omega (arith, slot_sized (length T.steps) T.jobs C T (root_place T) 1 sized xs k, wide.slots),
  )

  facts_in_lem : (i : ℕ) → i ≤ length (slots T) → FactsIn T N W C wide (first_fact_var T) i
  facts_in_lem i l f h = (omega arith, omega (arith, suc-mul (length (slots T)) T.facts, mul-le-mul_right {m = i} {n = length (slots T)} T.facts l))

  -- every clause has at most W literals, of variables 1 to variables T
  pub formula_small : Every (Small (variables T) W) (formula T)
  formula_small =
      let b = first_fact_var T in
      let r3 = rule3 T b in
      let r4 = rule4 T b 0 (slots T) in
      every_append (Small N W) (rule1 T) (rule2 T (root_place T) 1 ++ (r3 ++ r4)) (root_small, tt)
      (every_append (Small N W) (rule2 T (root_place T) 1) (r3 ++ r4) (rule2_small T N W C wide (root_place T) 1 sized (omega arith) (omega arith))
      (every_append (Small N W) r3 r4 (rule3_small T N W C wide b (facts_in_lem 0 (omega arith)))
      (rule4_small T N W C wide b 0 (slots T) slots_in (λ k l. facts_in_lem k (omega arith)))))

-- Every literal lies in 1 to the variable count, whatever the table's counts are ------------------------------------------------
abbrev body_max : List Method → ℕ
body_max [] = 1
body_max (m ∷ ms) = max (length m.body) (body_max ms)

body_max_lem : (ms : List Method) → (1 ≤ body_max ms) × Every (λ (m : Method). length m.body ≤ body_max ms) ms
body_max_lem [] = (omega arith, tt)
body_max_lem (m ∷ ms) =
    let r = body_max_lem ms in
    (omega (arith, r.0), (omega arith, every_imp (λ (k : Method). length k.body ≤ body_max ms) (λ (k : Method). length k.body ≤ body_max (m ∷ ms)) (λ k h. omega arith) ms r.1))

pub literal_range : (T : Table) → Sound T → LiteralsInRange T
literal_range T s =
    let r = body_max_lem T.methods in
    let W = 2 + (length T.steps + (T.jobs + length T.methods)) in
    every_imp (Small (variables T) W) (Every (LitIn (variables T))) (λ c h. h.inside) (formula T)
    (formula_small T W (body_max T.methods) (record { slots = omega arith; tasks = omega arith; methods = omega arith })
    (root_sized T (body_max T.methods) r.0 r.1 (omega (arith, s.root))))
