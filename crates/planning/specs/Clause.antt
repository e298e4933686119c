-- The formula: the clauses of document 01's rules 1 to 4, in its order. A name in italics, as *applyMethod*, is the totSAT paper's.
-- Assumes nothing.
use Rattle.std.specs.Prelude.{Bool, true, false, not, ◌&&◌, List, [], ◌∷◌, ◌++◌, map, ℕ, suc, ◌+◌, eqb}
use Rattle.lists.specs.List.{filter, concat_map, up_to, has}
use Rattle.planning.specs.Table.{Task, step, job, same, Step, Table, step_of, job_of, body_of}
use Rattle.planning.specs.Tree.{initial}
use Rattle.planning.specs.Place.{Place, slot, inner, Places, stop, also, root_place}
use Rattle.planning.specs.Variable.{own_vars, part_vars, task_vars, method_vars, child_vars, slots, fact_var, first_fact_var}

-- a literal is a variable or a negated one; a clause is the list of its literals
pub data Lit : Type 0 where
  pos : ℕ → Lit
  neg : ℕ → Lit

abbrev pub Clause : Type 0
Clause = List Lit

-- the variable of a literal
abbrev pub variable_of : Lit → ℕ
variable_of (pos n) = n
variable_of (neg n) = n

module _ {A : Type 0} where
  -- these variables, none negated
  abbrev pub all_pos : List (ℕ × A) → Clause
  all_pos xs = map (λ x. pos x.0) xs

  -- n with each of these, both negated
  abbrev pub not_both : ℕ → List (ℕ × A) → List Clause
  not_both n xs = map (λ x. neg n ∷ neg x.0 ∷ []) xs

  -- "for each pair .., first with second then with later ones: both negated": at most one of them is true
  abbrev pub pairs : List (ℕ × A) → List Clause
  pairs [] = []
  pairs (x ∷ xs) = not_both x.0 xs ++ pairs xs

-- that task's variable among these: no literal "if that task has no variable"
abbrev pub var_of : Task → List (ℕ × Task) → Clause
var_of t xs = all_pos (filter (λ x. same t x.1) xs)

-- Rule 1 -------------------------------------------------------------------------------------------------------------------
-- "The root job."
abbrev pub rule1 : Table → List Clause
rule1 T = var_of (job T.root) (task_vars (root_place T) 1) ∷ []

-- Rule 2 -------------------------------------------------------------------------------------------------------------------
-- (a) and (b) are `pairs`. (b), (c) and (d) are *selectMethod*. (c) "for each job: negated, then its methods"
abbrev pub job_clause : Table → List (ℕ × ℕ) → ℕ × Task → List Clause
job_clause T methods x = elim x.1 [ step s ↦ [] | job j ↦ (neg x.0 ∷ all_pos (filter (λ m. eqb (job_of T m.1) j) methods)) ∷ [] ]

-- (d) "for each method: negated, then its job"
abbrev pub method_clause : Table → List (ℕ × Task) → ℕ × ℕ → Clause
method_clause T tasks m = neg m.0 ∷ var_of (job (job_of T m.1)) tasks

-- (e), *applyMethod*, of one method, with variable n: for each "child in order: if the body has a name there, the method negated then
-- that task at the child, or the method negated alone if that task has no variable; otherwise, for each task variable of the child, the
-- method and it, both negated"
abbrev pub body_clauses : ℕ → List Task → List (List (ℕ × Task)) → List Clause
body_clauses n ts [] = []
body_clauses n [] (c ∷ cs) = not_both n c ++ body_clauses n [] cs
body_clauses n (t ∷ ts) (c ∷ cs) = (neg n ∷ var_of t c) ∷ body_clauses n ts cs

-- (f), *inheritPrimitive*, of one step s, with variable n: "negated, then the same step at child 1, then for each task variable of
-- children 2 and up, the step and it, both negated". (An inner node that may hold a step has a child 1.)
abbrev pub pass_clauses : ℕ → ℕ → List (List (ℕ × Task)) → List Clause
pass_clauses n s [] = []
pass_clauses n s (c ∷ cs) = (neg n ∷ var_of (step s) c) ∷ concat_map (λ d. not_both n d) cs

abbrev pub step_clauses : List (List (ℕ × Task)) → ℕ × Task → List Clause
step_clauses children x = elim x.1 [ step s ↦ pass_clauses x.0 s children | job j ↦ [] ]

-- (g), *nonePresent*: "for each child and task variable of it: the node's task variables, then that one negated"
abbrev pub up_clause : List (ℕ × Task) → ℕ × Task → Clause
up_clause tasks x = all_pos tasks ++ (neg x.0 ∷ [])

-- (a) to (g) at an inner node
abbrev pub inner_clauses : Table → List (ℕ × Task) → List (ℕ × ℕ) → List (List (ℕ × Task)) → List Clause
inner_clauses T tasks methods children =
    pairs tasks
    ++ (pairs methods
    ++ (concat_map (job_clause T methods) tasks
    ++ (map (method_clause T tasks) methods
    ++ (concat_map (λ m. body_clauses m.0 (body_of T m.1) children) methods
    ++ (concat_map (step_clauses children) tasks
    ++ concat_map (λ c. map (up_clause tasks) c) children)))))

-- "For each node in order"; at a slot (a) alone. b is the first variable of the part
abbrev mutual
  pub rule2 : Table → Place → ℕ → List Clause
  rule2 T (slot L) b = pairs (task_vars (slot L) b)
  rule2 T (inner L ps) b =
      inner_clauses T (task_vars (inner L ps) b) (method_vars T (inner L ps) b) (child_vars T ps (b + own_vars T (inner L ps)))
      ++ rules2 T ps (b + own_vars T (inner L ps))

  pub rules2 : Table → Places → ℕ → List Clause
  rules2 T stop b = []
  rules2 T (also p ps) b = rule2 T p b ++ rules2 T ps (b + part_vars T p)

-- Rule 3 -------------------------------------------------------------------------------------------------------------------
-- the variable where the test passed, else the variable negated
abbrev pub literal : Bool → ℕ → Lit
literal true n = pos n
literal false n = neg n

-- "Each fact at boundary 0, negated unless true at the start." From here on b is the first fact variable
abbrev pub rule3 : Table → ℕ → List Clause
rule3 T b = map (λ f. literal (initial T f) (fact_var T b 0 f) ∷ []) (up_to T.facts)

-- Rule 4 -------------------------------------------------------------------------------------------------------------------
-- those facts that pass a test; "facts rising"
abbrev pub facts_that : Table → (ℕ → Bool) → List ℕ
facts_that T p = filter p (up_to T.facts)

-- "cleared and not set"
abbrev pub drops : Step → ℕ → Bool
drops s f = has s.clears f && not (has s.sets f)

-- *action*, at the slot between boundaries i and i + 1: "for each step variable, with the step negated first: needed facts before; set
-- facts after; cleared and not set facts after, negated; facts rising"
abbrev pub effect_clauses : Table → (b i : ℕ) → ℕ × ℕ → List Clause
effect_clauses T b i x =
    map (λ f. neg x.0 ∷ pos (fact_var T b i f) ∷ []) (facts_that T (has (step_of T x.1).needs))
    ++ (map (λ f. neg x.0 ∷ pos (fact_var T b (suc i) f) ∷ []) (facts_that T (has (step_of T x.1).sets))
    ++ map (λ f. neg x.0 ∷ neg (fact_var T b (suc i) f) ∷ []) (facts_that T (drops (step_of T x.1))))

-- "Then for each fact: before negated, after, steps here that clear and do not set it; next: before, after negated, steps here that
-- set it": *maintain*, a fact falls or rises only by a step (the explanatory frame axioms). xs are the step variables of the slot
abbrev pub fall_clause : Table → (b i : ℕ) → List (ℕ × ℕ) → ℕ → Clause
fall_clause T b i xs f = neg (fact_var T b i f) ∷ pos (fact_var T b (suc i) f) ∷ all_pos (filter (λ x. drops (step_of T x.1) f) xs)

abbrev pub rise_clause : Table → (b i : ℕ) → List (ℕ × ℕ) → ℕ → Clause
rise_clause T b i xs f = pos (fact_var T b i f) ∷ neg (fact_var T b (suc i) f) ∷ all_pos (filter (λ x. has (step_of T x.1).sets f) xs)

abbrev pub frame_clauses : Table → (b i : ℕ) → List (ℕ × ℕ) → List Clause
frame_clauses T b i xs = concat_map (λ f. fall_clause T b i xs f ∷ rise_clause T b i xs f ∷ []) (up_to T.facts)

-- "For each slot": these slots, the first of which has boundary i before it
abbrev pub rule4 : Table → (b i : ℕ) → List (List (ℕ × ℕ)) → List Clause
rule4 T b i [] = []
rule4 T b i (xs ∷ xss) = (concat_map (effect_clauses T b i) xs ++ frame_clauses T b i xs) ++ rule4 T b (suc i) xss

-- The formula --------------------------------------------------------------------------------------------------------------
-- a formula in conjunctive normal form (CNF).
-- "The formula is the clauses below over these variables, defined by the table and not by lent records." "Clauses, in this order"
abbrev pub formula : Table → List Clause
formula T = rule1 T ++ (rule2 T (root_place T) 1 ++ (rule3 T (first_fact_var T) ++ rule4 T (first_fact_var T) 0 (slots T)))
