-- Models, and the tree that a model gives.
-- Assumes nothing.
use Rattle.std.specs.Prelude.{◌≡◌, Bool, true, false, not, List, [], ◌∷◌, map, ℕ, ◌+◌, eqb, length, get_or}
use Rattle.std.proofs.Math.Option.{Option, none, some}
use Rattle.lists.specs.List.{any, all}
use Rattle.planning.specs.Table.{Task, step, job, Table, body_of}
use Rattle.planning.specs.Tree.{Tree, alone, split, Trees, end, next}
use Rattle.planning.specs.Place.{Place, slot, inner, Places, stop, also, root_place}
use Rattle.planning.specs.Variable.{own_vars, part_vars, task_vars, method_vars, variables}
use Rattle.planning.specs.Clause.{Lit, pos, neg, Clause, formula}

-- which variables are true: an assignment
abbrev pub Valuation : Type 0
Valuation = ℕ → Bool

-- "a variable that is true or a negated one that is false"
abbrev pub lit_true : Valuation → Lit → Bool
lit_true v (pos n) = v n
lit_true v (neg n) = not (v n)

-- "every clause has a variable that is true or a negated one that is false"
abbrev pub clause_true : Valuation → Clause → Bool
clause_true v c = any (lit_true v) c

-- does every one of these clauses?
abbrev pub satisfies : Valuation → List Clause → Bool
satisfies v cs = all (clause_true v) cs

-- "variable j's value at place j of the values, counted from 1"
abbrev pub value : List Bool → Valuation
value vs n = get_or (false ∷ vs) n false

-- "1 if true, 0 if false": values as numbers, and back
abbrev pub bit : Bool → ℕ
bit true = 1
bit false = 0

abbrev pub bits : List Bool → List ℕ
bits vs = map bit vs

abbrev pub truths_in : List ℕ → List Bool
truths_in vs = map (eqb 1) vs

-- "A model makes each variable true or false, and has no others, so that every clause .." is satisfied: a list of values, one for each
-- variable (a satisfying assignment)
pub record Model (T : Table) (vs : List Bool) : Type 0 where
  pub whole : length vs ≡ variables T
  pub true_clauses : satisfies (value vs) (formula T) ≡ true

-- The tree that a model gives ----------------------------------------------------------------------------------------------
module _ {A : Type 0} where
  -- a where the test passed, else o
  abbrev pub or_else : Bool → A → Option A → Option A
  or_else true a o = some a
  or_else false a o = o

  -- that one of these whose variable is true, the first where there are several; in a model there is at most one, by rule 2(a) and (b)
  abbrev pub chosen : Valuation → List (ℕ × A) → Option A
  chosen v [] = none
  chosen v (x ∷ xs) = or_else (v x.0) x.1 (chosen v xs)

-- job j with method m and these trees, and a tree before others, where there are such
abbrev pub split_with : ℕ → ℕ → Option Trees → Option Tree
split_with j m none = none
split_with j m (some ts) = some (split j m ts)

abbrev pub next_with : Option Tree → Option Trees → Option Trees
next_with none ts = none
next_with (some t) none = none
next_with (some t) (some ts) = some (next t ts)

-- "at a node the step whose variable is true there, standing alone, or the job whose variable is true, with the method whose variable
-- is true at that node and .. the tree read at that child"; none where there is no such tree
abbrev pub tree_at : Table → Option Task → Option ℕ → (List Task → Option Trees) → Option Tree
tree_at T none m below = none
tree_at T (some (step s)) m below = some (alone s)
tree_at T (some (job j)) none below = none
tree_at T (some (job j)) (some m) below = split_with j m (below (body_of T m))

abbrev mutual
  pub read : Table → Valuation → Place → ℕ → Option Tree
  read T v (slot L) b = tree_at T (chosen v (task_vars (slot L) b)) none (λ ts. none)
  read T v (inner L ps) b = tree_at T (chosen v (task_vars (inner L ps) b)) (chosen v (method_vars T (inner L ps) b))
      (λ ts. reads T v ps (b + own_vars T (inner L ps)) ts)

  -- "for each name of its body in order, the tree read at that child"
  pub reads : Table → Valuation → Places → ℕ → List Task → Option Trees
  reads T v stop b [] = some end
  reads T v stop b (t ∷ ts) = none
  reads T v (also p ps) b [] = some end
  reads T v (also p ps) b (t ∷ ts) = next_with (read T v p b) (reads T v ps (b + part_vars T p) ts)

-- "The tree that a model gives is read from node 0 down"
abbrev pub given : Table → List Bool → Option Tree
given T vs = read T (value vs) (root_place T) 1

-- these values give the tree t
abbrev pub Gives : Table → List Bool → Tree → Type 0
Gives T vs t = given T vs ≡ some t
