-- The clauses of each group, row by row, are those of the definitions.
-- By the laws of lists by index, letter by letter.
use mathlib.Core.Path.{◌≡◌, refl, sym, ap, ap₂, ◌∙◌}
use mathlib.Core.Bool.{Bool, true, false, cond}
use mathlib.Core.List.{List, [], ◌∷◌, ◌++◌, map, append-nil}
use Prim.Native.Nat.{ℕ, zero, suc, ◌+◌}
use native.Mathlib.Omega.{arith}
use lib.ListN.{length, get_or}
use lib.Dec.{eqb, ltb, leb-zero, leb-suc-zero, leb-suc-suc, eqb-suc-zero}
use Rattle.lists.specs.List.{filter, concat_map, number, up_to}
use Rattle.planning.specs.Table.{Task, step, job, Table, job_of, body_of}
use Rattle.planning.specs.Variable.{fact_var}
use Rattle.planning.specs.Clause.{pos, neg, Clause, all_pos, pairs, var_of, job_clause, method_clause, body_clauses, pass_clauses, step_clauses, up_clause, effect_clauses, frame_clauses}
use Rattle.planning.proofs.Task.{length_tasks}
use Rattle.planning.proofs.Satisfy.{pass_body}
use Rattle.places.specs.Flat.{Child, tasks_from, tasks_at, child_tasks, method_vars_at, clauses_of}
use Rattle.places.specs.ClausePlace.{no_child, Source, ClausePlace, both, methods_of, job_of_method, body_task, inherited, child_at, width, tasks_n, node_at, slot_at, method_at, method_var, literals, Group, single, pair_group, named_at, effect_facts, effect_place, group_at}
use Rattle.places.proofs.Index.{concat_map_shift, concat_map_below, map_below, concat_map_map, concat_map_index, map_index, concat_map_number, map_number, row_same, not_both_number, pair_row, pairs_number}

-- the clauses of a group, row by row
abbrev pub row_clauses : Source → Group → (x y : ℕ) → List Clause
row_clauses S G x y = map (λ i. literals S (G.place x y i)) (up_to (G.len x y))

abbrev pub group_clauses : Source → Group → List Clause
group_clauses S G = concat_map (λ x. concat_map (λ y. row_clauses S G x y) (up_to G.ys)) (up_to G.xs)

-- rule 4 at the slot with boundary i before it
abbrev pub slot_clauses : Table → (b i : ℕ) → List (ℕ × ℕ) → List Clause
slot_clauses T b i xs = concat_map (effect_clauses T b i) xs ++ frame_clauses T b i xs

pub one_row : (f : ℕ → List Clause) (n : ℕ) → concat_map (λ x. concat_map (λ y. f x) (up_to 1)) (up_to n) ≡ concat_map f (up_to n)
one_row f n = concat_map_below (λ x. concat_map (λ y. f x) (up_to 1)) f n (λ x h. append-nil (f x))

pub single_clauses : (S : Source) (n : ℕ) (f : ℕ → ClausePlace) → group_clauses S (single n f) ≡ map (λ i. literals S (f i)) (up_to n)
single_clauses S n f = append-nil _ ∙ append-nil (map (λ i. literals S (f i)) (up_to n))

-- (a) and (b)
pub pair_clauses : {A : Type 0} (S : Source) (b n : ℕ) (xs : List A) → length xs ≡ n → group_clauses S (pair_group b n) ≡ pairs (number b xs)
pair_clauses S b n xs e = one_row (pair_row b n) n ∙ sym (rw e at (pairs_number b xs))

-- (c)
jobs_only : (T : Table) (ms : List (ℕ × ℕ)) (b : ℕ) (js : List ℕ)
    → concat_map (job_clause T ms) (number b (map job js)) ≡ map (λ x. neg x.0 ∷ all_pos (filter (λ m. eqb (job_of T m.1) x.1) ms)) (number b js)
jobs_only T ms b [] = refl
jobs_only T ms b (j ∷ js) = ap (λ l. (neg b ∷ all_pos (filter (λ m. eqb (job_of T m.1) j) ms)) ∷ l) (jobs_only T ms (suc b) js)

job_clauses : (T : Table) (ms : List (ℕ × ℕ)) (b : ℕ) (ss js : List ℕ)
    → concat_map (job_clause T ms) (tasks_from b ss js) ≡ map (λ i. neg (b + length ss + i) ∷ all_pos (filter (λ m. eqb (job_of T m.1) (get_or js i 0)) ms)) (up_to (length js))
job_clauses T ms b [] js =
    jobs_only T ms b js
    ∙ (map_number 0 (λ x. neg x.0 ∷ all_pos (filter (λ m. eqb (job_of T m.1) x.1) ms)) b js
    ∙ row_same _ _ (length js) (length js) refl (λ i. let e : b + 0 + i ≡ b + i = omega arith in rw e))
job_clauses T ms b (s ∷ ss) js =
    job_clauses T ms (suc b) ss js
    ∙ row_same _ _ (length js) (length js) refl (λ i. let e : suc b + length ss + i ≡ b + suc (length ss) + i = omega arith in rw e)

-- (e), of one method
abbrev body_row : (v : ℕ) (ts : List Task) (ch : List Child) (y : ℕ) → List Clause
body_row v ts ch y =
    map (λ i. cond (ltb y (length ts)) (neg v ∷ var_of (get_or ts y (step 0)) (child_tasks (get_or ch y no_child))) (neg v ∷ neg ((get_or ch y no_child).first + i) ∷ []))
    (up_to (cond (ltb y (length ts)) 1 (width (get_or ch y no_child))))

none_below : (y : ℕ) → ltb y 0 ≡ false
none_below y = leb-suc-zero y

named_row : (v : ℕ) (t : Task) (ts : List Task) (c : Child) (ch : List Child) → (neg v ∷ var_of t (child_tasks c)) ∷ [] ≡ body_row v (t ∷ ts) (c ∷ ch) 0
named_row v t ts c ch = rw (leb-suc-suc 0 (length ts), leb-zero (length ts))

body_index : (v : ℕ) (ts : List Task) (ch : List Child) → body_clauses v ts (map child_tasks ch) ≡ concat_map (body_row v ts ch) (up_to (length ch))
body_index v ts [] = refl
body_index v [] (c ∷ ch) =
    ap₂ (λ k l. k ++ l)
    (not_both_number v c.first (map step c.steps ++ map job c.jobs) ∙ row_same _ _ _ (width c) (length_tasks c.steps c.jobs) (λ i. refl))
    (body_index v [] ch
    ∙ (concat_map_below (body_row v [] ch) (λ y. body_row v [] (c ∷ ch) (suc y)) (length ch) (λ y h. rw (none_below y, none_below (suc y)))
    ∙ sym (concat_map_shift (body_row v [] (c ∷ ch)) 0 (length ch))))
body_index v (t ∷ ts) (c ∷ ch) =
    ap₂ (λ k l. k ++ l)
    (named_row v t ts c ch)
    (body_index v ts ch
    ∙ (concat_map_below (body_row v ts ch) (λ y. body_row v (t ∷ ts) (c ∷ ch) (suc y)) (length ch) (λ y h. rw (leb-suc-suc (suc y) (length ts)))
    ∙ sym (concat_map_shift (body_row v (t ∷ ts) (c ∷ ch)) 0 (length ch))))

lits_cond : (S : Source) (b : Bool) (p q : ClausePlace) → literals S (cond b p q) ≡ cond b (literals S p) (literals S q)
lits_cond S true p q = refl
lits_cond S false p q = refl

row_cond : (S : Source) (b : Bool) (p : ClausePlace) (q : ℕ → ClausePlace) (m : ℕ)
    → map (λ i. literals S (cond b p (q i))) (up_to m) ≡ map (λ i. cond b (literals S p) (literals S (q i))) (up_to m)
row_cond S b p q m = map_below _ _ m (λ i h. lits_cond S b p (q i))

-- (f), of one step
pass_row : (v s : ℕ) (ch : List Child) (y : ℕ) → body_row v (step s ∷ []) ch y ≡
    map (λ i. cond (eqb y 0) (neg v ∷ var_of (step s) (child_tasks (get_or ch 0 no_child))) (neg v ∷ neg ((get_or ch y no_child).first + i) ∷ []))
    (up_to (cond (eqb y 0) 1 (width (get_or ch y no_child))))
pass_row v s ch zero = refl
pass_row v s ch (suc y) = rw (leb-suc-suc (suc y) 0, none_below y, eqb-suc-zero y)

no_steps : (cs : List (List (ℕ × Task))) (b : ℕ) (js : List ℕ) → concat_map (step_clauses cs) (number b (map job js)) ≡ []
no_steps cs b [] = refl
no_steps cs b (j ∷ js) = no_steps cs (suc b) js

steps_only : (cs : List (List (ℕ × Task))) (b : ℕ) (ss js : List ℕ) → concat_map (step_clauses cs) (tasks_from b ss js) ≡ concat_map (λ x. pass_clauses x.0 x.1 cs) (number b ss)
steps_only cs b [] js = no_steps cs b js
steps_only cs b (s ∷ ss) js = ap (λ l. pass_clauses b s cs ++ l) (steps_only cs (suc b) ss js)

module _ (S : Source) (n : ℕ) where
  -- (c)
  c_clauses : group_clauses S (group_at S 1 n 2) ≡ concat_map (job_clause S.table (method_vars_at (node_at S n))) (tasks_at (node_at S n))
  c_clauses =
      let N = node_at S n in
      single_clauses S (length N.jobs) (λ i. methods_of n i) ∙ sym (job_clauses S.table (method_vars_at N) N.first N.steps N.jobs)

  -- (d)
  d_clauses : group_clauses S (group_at S 1 n 3) ≡ map (method_clause S.table (tasks_at (node_at S n))) (method_vars_at (node_at S n))
  d_clauses =
      single_clauses S (length (node_at S n).methods) (λ i. job_of_method n i)
      ∙ sym (map_number 0 (method_clause S.table (tasks_at (node_at S n))) ((node_at S n).first + tasks_n (node_at S n)) (node_at S n).methods)

  -- (e)
  e_clauses : group_clauses S (group_at S 1 n 4) ≡ concat_map (λ m. body_clauses m.0 (body_of S.table m.1) (map child_tasks (node_at S n).children)) (method_vars_at (node_at S n))
  e_clauses =
      let N = node_at S n in
      concat_map_below _ (λ x. body_clauses (method_var N x) (body_of S.table (method_at N x)) (map child_tasks N.children)) (length N.methods)
      (λ x h. concat_map_below _ (body_row (method_var N x) (body_of S.table (method_at N x)) N.children) (length N.children)
      (λ y k. row_cond S (named_at S.table N x y) (body_task n x y) (λ i. both (method_var N x) ((child_at N y).first + i)) ((group_at S 1 n 4).len x y))
      ∙ sym (body_index (method_var N x) (body_of S.table (method_at N x)) N.children))
      ∙ sym (concat_map_number 0 (λ m. body_clauses m.0 (body_of S.table m.1) (map child_tasks N.children)) (N.first + tasks_n N) N.methods)

  -- (f)
  f_clauses : group_clauses S (group_at S 1 n 5) ≡ concat_map (step_clauses (map child_tasks (node_at S n).children)) (tasks_at (node_at S n))
  f_clauses =
      let N = node_at S n in
      concat_map_below _ (λ x. pass_clauses (N.first + x) (get_or N.steps x 0) (map child_tasks N.children)) (length N.steps)
      (λ x h. concat_map_below _ (body_row (N.first + x) (step (get_or N.steps x 0) ∷ []) N.children) (length N.children)
      (λ y k. row_cond S (eqb y 0) (inherited n x) (λ i. both (N.first + x) ((child_at N y).first + i)) ((group_at S 1 n 5).len x y)
      ∙ sym (pass_row (N.first + x) (get_or N.steps x 0) N.children y))
      ∙ (sym (body_index (N.first + x) (step (get_or N.steps x 0) ∷ []) N.children) ∙ sym (pass_body (N.first + x) (get_or N.steps x 0) (map child_tasks N.children))))
      ∙ (sym (concat_map_number 0 (λ x. pass_clauses x.0 x.1 (map child_tasks N.children)) N.first N.steps)
      ∙ sym (steps_only (map child_tasks N.children) N.first N.steps N.jobs))

  -- (g)
  g_clauses : group_clauses S (group_at S 1 n 6) ≡ concat_map (λ c. map (up_clause (tasks_at (node_at S n))) c) (map child_tasks (node_at S n).children)
  g_clauses =
      let N = node_at S n in
      one_row (λ x. map (λ i. up_clause (tasks_at N) ((child_at N x).first + i, step 0)) (up_to (width (child_at N x)))) (length N.children)
      ∙ (concat_map_below _ (λ x. map (up_clause (tasks_at N)) (child_tasks (child_at N x))) (length N.children)
      (λ x h. sym (map_number (step 0) (up_clause (tasks_at N)) (child_at N x).first (map step (child_at N x).steps ++ map job (child_at N x).jobs)
      ∙ row_same _ _ _ (width (child_at N x)) (length_tasks (child_at N x).steps (child_at N x).jobs) (λ i. refl)))
      ∙ sym (concat_map_map (λ c. map (up_clause (tasks_at N)) c) child_tasks N.children ∙ concat_map_index no_child (λ c. map (up_clause (tasks_at N)) (child_tasks c)) N.children))

  -- (a) to (g)
  pub node_clauses : concat_map (λ g. group_clauses S (group_at S 1 n g)) (up_to 7) ≡ clauses_of S.table (node_at S n)
  node_clauses =
      let N = node_at S n in
      ap₂ (λ k l. k ++ l) (pair_clauses S N.first (tasks_n N) (map step N.steps ++ map job N.jobs) (length_tasks N.steps N.jobs))
      (ap₂ (λ k l. k ++ l) (pair_clauses S (N.first + tasks_n N) (length N.methods) N.methods refl)
      (ap₂ (λ k l. k ++ l) c_clauses
      (ap₂ (λ k l. k ++ l) d_clauses
      (ap₂ (λ k l. k ++ l) e_clauses
      (ap₂ (λ k l. k ++ l) f_clauses
      (append-nil (group_clauses S (group_at S 1 n 6)) ∙ g_clauses))))))

  -- rule 4
  effect_row : (v s y : ℕ) (g : ℕ → Clause) → ((f : ℕ) → literals S (effect_place S.table S.facts n v y f) ≡ g f)
      → map (λ i. literals S (effect_place S.table S.facts n v y (get_or (effect_facts S.table s y) i 0))) (up_to (length (effect_facts S.table s y)))
      ≡ map g (effect_facts S.table s y)
  effect_row v s y g h =
      map_below _ _ (length (effect_facts S.table s y)) (λ i k. h (get_or (effect_facts S.table s y) i 0))
      ∙ sym (map_index 0 g (effect_facts S.table s y))

  effects : group_clauses S (group_at S 3 n 0) ≡ concat_map (effect_clauses S.table S.facts n) (slot_at S n)
  effects =
      let b = S.facts in
      concat_map_below _ (λ x. effect_clauses S.table b n (get_or (slot_at S n) x (0, 0))) (length (slot_at S n))
      (λ x h. let v = get_or (slot_at S n) x (0, 0) in
      ap₂ (λ k l. k ++ l) (effect_row v.0 v.1 0 (λ f. neg v.0 ∷ pos (fact_var S.table b n f) ∷ []) (λ f. refl))
      (ap₂ (λ k l. k ++ l) (effect_row v.0 v.1 1 (λ f. neg v.0 ∷ pos (fact_var S.table b (suc n) f) ∷ []) (λ f. refl))
      (append-nil _ ∙ effect_row v.0 v.1 2 (λ f. neg v.0 ∷ neg (fact_var S.table b (suc n) f) ∷ []) (λ f. refl))))
      ∙ sym (concat_map_index (0, 0) (effect_clauses S.table b n) (slot_at S n))

  pub slot_clauses_lem : concat_map (λ g. group_clauses S (group_at S 3 n g)) (up_to 2) ≡ slot_clauses S.table S.facts n (slot_at S n)
  slot_clauses_lem = ap₂ (λ k l. k ++ l) effects (append-nil (group_clauses S (group_at S 3 n 1)) ∙ refl)
