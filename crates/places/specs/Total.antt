-- Inside the encoding, nothing to believe: how many clauses there are, in a row, a group, a node, a slot, in all.
-- Assumes nothing.
use Rattle.std.specs.Prelude.{List, [], ◌∷◌, cond, ℕ, zero, suc, ◌+◌, ◌-◌, ◌*◌, ◌/◌, length, get_or, eqb}
use Rattle.planning.specs.Table.{Table}
use Rattle.places.specs.Flat.{Node}
use Rattle.places.specs.ClausePlace.{child_at, width, tasks_n, node_at, slot_at, named_at, Source, effect_facts, Group}

-- f 0 + f 1 + .. + f (n - 1)
abbrev pub sum_to : (ℕ → ℕ) → ℕ → ℕ
sum_to f zero = 0
sum_to f (suc n) = sum_to f n + f n

-- row by row
abbrev pub group_count : Group → ℕ
group_count G = sum_to (λ x. sum_to (λ y. G.len x y) G.ys) G.xs

-- "for each pair"
abbrev pub pair_count : ℕ → ℕ
pair_count n = n * (n - 1) / 2

-- the task variables of the first y children, together
abbrev pub widths_to : Node → ℕ → ℕ
widths_to N y = sum_to (λ z. width (child_at N z)) y

-- (e) of method x
abbrev pub body_count : Table → Node → ℕ → ℕ
body_count T N x = sum_to (λ y. cond (named_at T N x y) 1 (width (child_at N y))) (length N.children)

-- (f) of one step
abbrev pub pass_count : Node → ℕ
pass_count N = sum_to (λ y. cond (eqb y 0) 1 (width (child_at N y))) (length N.children)

-- (a) to (g)
abbrev pub node_count : Table → Node → ℕ
node_count T N =
    pair_count (tasks_n N) + (pair_count (length N.methods) + (length N.jobs + (length N.methods
    + (sum_to (body_count T N) (length N.methods) + (length N.steps * pass_count N + widths_to N (length N.children))))))

-- rule 4 of one step
abbrev pub effect_count : Table → ℕ → ℕ
effect_count T s = length (effect_facts T s 0) + (length (effect_facts T s 1) + length (effect_facts T s 2))

abbrev pub slot_count : Table → List (ℕ × ℕ) → ℕ
slot_count T xs = sum_to (λ x. effect_count T (get_or xs x (0, 0)).1) (length xs) + (T.facts + T.facts)

-- node n of rule r
abbrev pub count_at : Source → (r n : ℕ) → ℕ
count_at S r n = get_or (1 ∷ node_count S.table (node_at S n) ∷ S.table.facts ∷ slot_count S.table (slot_at S n) ∷ []) r 0

-- "clauses"
abbrev pub clause_count : Source → ℕ
clause_count S = 1 + (sum_to (count_at S 1) (length S.nodes) + (S.table.facts + sum_to (count_at S 3) (length S.slots)))
