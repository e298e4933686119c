-- How many clauses each part of the rules has, for a cursor that skips whole parts.
-- By recursion on the lists that the part goes through.
use mathlib.Core.Path.{◌≡◌, refl, sym, ap, ◌∙◌}
use mathlib.Core.List.{List, [], ◌∷◌, ◌++◌, map}
use Prim.Native.Nat.{ℕ, zero, suc, ◌+◌, ◌-◌, ◌*◌, ◌/◌, ◌≤◌}
use native.Mathlib.Nat.{suc-mul, mul-suc, zero-mul}
use native.Mathlib.Omega.{arith}
use lib.ListN.{length, drop, length-map, length-append}
use Rattle.lists.specs.List.{number, concat_map, from, up_to, has, Rising}
use Rattle.lists.proofs.Number.{length_from}
use Rattle.lists.proofs.Rising.{filter_has}
use Rattle.planning.specs.Table.{Task, step, job, Table, step_of, body_of}
use Rattle.planning.specs.Tree.{initial}
use Rattle.planning.specs.Place.{root_place}
use Rattle.planning.specs.Variable.{fact_var, first_fact_var, slots}
use Rattle.planning.specs.Clause.{neg, not_both, pairs, job_clause, body_clauses, pass_clauses, step_clauses, up_clause, literal, rule3, facts_that, drops, effect_clauses, fall_clause, rise_clause, frame_clauses, inner_clauses, formula, rule2, rule4}

-- (a) and (b): n (n - 1) / 2
pub pairs_twice : {A : Type 0} (xs : List (ℕ × A)) → length (pairs xs) + length (pairs xs) ≡ length xs * (length xs - 1)
pairs_twice [] = refl
pairs_twice (x ∷ xs) = go (length xs) (length (pairs xs)) (length-append (not_both x.0 xs) (pairs xs)) (length-map xs (λ y. neg x.0 ∷ neg y.0 ∷ [])) (pairs_twice xs)
  where
    go : (n p : ℕ) {a b : ℕ} → a ≡ b + p → b ≡ n → p + p ≡ n * (n - 1) → a + a ≡ suc n * (suc n - 1)
    go zero p e f h = omega (arith, zero-mul (0 - 1))
    go (suc n) p e f h = let z : suc n - 1 ≡ n = omega arith in let w : suc (suc n) - 1 ≡ suc n = omega arith in
        rw w (omega (arith, rw z at h, suc-mul (suc n) (suc n), mul-suc (suc n) n))

pub pairs_count : {A : Type 0} (xs : List (ℕ × A)) → length (pairs xs) ≡ length xs * (length xs - 1) / 2
pairs_count xs = omega (arith, pairs_twice xs)

-- how many task variables these children have
abbrev pub widths : List (List (ℕ × Task)) → ℕ
widths [] = 0
widths (c ∷ cs) = length c + widths cs

-- (g): one for each task variable of the children
pub up_count : (tasks : List (ℕ × Task)) (cs : List (List (ℕ × Task))) → length (concat_map (λ c. map (up_clause tasks) c) cs) ≡ widths cs
up_count tasks [] = refl
up_count tasks (c ∷ cs) = length-append (map (up_clause tasks) c) (concat_map (λ d. map (up_clause tasks) d) cs) ∙ omega (arith, length-map c (up_clause tasks), up_count tasks cs)

-- (a) to (g) at an inner node, where (d) has one for each method
pub inner_count : (T : Table) (tasks : List (ℕ × Task)) (methods : List (ℕ × ℕ)) (cs : List (List (ℕ × Task)))
    → length (inner_clauses T tasks methods cs) ≡ length (pairs tasks) + (length (pairs methods) + (length (concat_map (job_clause T methods) tasks) + (length methods
    + (length (concat_map (λ m. body_clauses m.0 (body_of T m.1) cs) methods) + (length (concat_map (step_clauses cs) tasks) + widths cs)))))
inner_count T tasks methods cs = simp (length-append, length-map, up_count)

-- rule 3: one for each fact
pub rule3_count : (T : Table) (b : ℕ) → length (rule3 T b) ≡ T.facts
rule3_count T b = length-map (up_to T.facts) (λ f. literal (initial T f) (fact_var T b 0 f) ∷ []) ∙ length_from 0 T.facts

-- rule 4 at a slot: for each step the facts that it needs, sets, and clears and does not set; then two for each fact
pub effect_count : (T : Table) (b i : ℕ) (x : ℕ × ℕ) → let s = step_of T x.1 in
    length (effect_clauses T b i x) ≡ length (facts_that T (has s.needs)) + (length (facts_that T (has s.sets)) + length (facts_that T (drops s)))
effect_count T b i x = simp (length-append, length-map)

pub frame_count : (T : Table) (b i : ℕ) (xs : List (ℕ × ℕ)) → length (frame_clauses T b i xs) ≡ T.facts + T.facts
frame_count T b i xs = go 0 T.facts
  where
    go : (k n : ℕ) → length (concat_map (λ f. fall_clause T b i xs f ∷ rise_clause T b i xs f ∷ []) (from k n)) ≡ n + n
    go k zero = refl
    go k (suc n) = omega (arith, go (suc k) n)

-- where a fact list is a set, as the reader promises, those facts that it has, rising, are the list
pub facts_rising : (T : Table) (xs : List ℕ) → Rising 0 T.facts xs → facts_that T (has xs) ≡ xs
facts_rising T xs r = filter_has T.facts xs r

-- the formula: rule 1 has one clause, rule 3 one for each fact
pub formula_count : (T : Table) → length (formula T) ≡ 1 + (length (rule2 T (root_place T) 1) + (T.facts + length (rule4 T (first_fact_var T) 0 (slots T))))
formula_count T = simp (length-append, rule3_count T (first_fact_var T)) (omega arith)
