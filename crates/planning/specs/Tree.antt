-- Procedure trees (the field's decomposition trees), and what it is for their steps to be done.
-- Assumes nothing.
use Rattle.std.specs.Prelude.{◌≡◌, Bool, true, not, ◌&&◌, ◌||◌, List, [], ◌∷◌, ◌++◌, ℕ, suc, ◌<◌, max, length}
use Rattle.lists.specs.List.{all, has}
use Rattle.planning.specs.Table.{Task, step, job, Step, Table, step_of, job_of, body_of}

-- "A step stands alone .. A job has one of its methods and one tree for each name of that body, in order": `alone s` is step s,
-- `split j m ts` is job j with method m and the trees ts, which are a list of trees
mutual
  pub data Tree : Type 0 where
    alone : ℕ → Tree
    split : ℕ → ℕ → Trees → Tree

  pub data Trees : Type 0 where
    end : Trees
    next : Tree → Trees → Trees

-- "A tree starts at the step or job on top of it."
abbrev pub top : Tree → Task
top (alone s) = step s
top (split j m ts) = job j

-- what each of these starts at
abbrev pub tops : Trees → List Task
tops end = []
tops (next t ts) = top t ∷ tops ts

-- t is a procedure tree of the table, of whatever height and whatever it starts at: a step of the table; or a job of the table, with
-- one of its methods, one tree for each name of that body, in order, and each of these a procedure tree of the table
abbrev mutual
  pub TreeOf : Table → Tree → Type 0
  TreeOf T (alone s) = s < length T.steps
  TreeOf T (split j m ts) = (j < T.jobs) × (m < length T.methods) × (job_of T m ≡ j) × (tops ts ≡ body_of T m) × TreesOf T ts

  pub TreesOf : Table → Trees → Type 0
  TreesOf T end = Unit {0}
  TreesOf T (next t ts) = TreeOf T t × TreesOf T ts

-- "A step stands alone and has height 0"; a job's "height is 1 plus the greatest height below it, or 1 where the body is empty"
abbrev mutual
  pub height : Tree → ℕ
  height (alone s) = 0
  height (split j m ts) = suc (greatest ts)

  pub greatest : Trees → ℕ
  greatest end = 0
  greatest (next t ts) = max (height t) (greatest ts)

-- "Two trees are the same if both are the same step, or the same job with the same method number and, in order, the same trees below."
-- "Two methods with the same body make different trees."
abbrev mutual
  pub SameTree : Tree → Tree → Type 0
  SameTree (alone s) (alone r) = s ≡ r
  SameTree (alone s) (split k n us) = ⊥
  SameTree (split j m ts) (alone r) = ⊥
  SameTree (split j m ts) (split k n us) = (j ≡ k) × (m ≡ n) × SameTrees ts us

  pub SameTrees : Trees → Trees → Type 0
  SameTrees end end = Unit {0}
  SameTrees end (next u us) = ⊥
  SameTrees (next t ts) end = ⊥
  SameTrees (next t ts) (next u us) = SameTree t u × SameTrees ts us

-- the steps of a tree, left to right: its plan
abbrev mutual
  pub tree_steps : Tree → List ℕ
  tree_steps (alone s) = s ∷ []
  tree_steps (split j m ts) = trees_steps ts

  pub trees_steps : Trees → List ℕ
  trees_steps end = []
  trees_steps (next t ts) = tree_steps t ++ trees_steps ts

-- Doing steps --------------------------------------------------------------------------------------------------------------
-- which facts are true: a state
abbrev pub State : Type 0
State = ℕ → Bool

-- "The initial facts are those of the I line; all others are false."
abbrev pub initial : Table → State
initial T f = has T.start f

-- "A step can be done if all its needed facts are true." (It is applicable.)
abbrev pub ready : Step → State → Bool
ready s st = all st s.needs

-- these facts false, or true, and the others as they were
abbrev pub clear : List ℕ → State → State
clear fs st f = st f && not (has fs f)

abbrev pub put : List ℕ → State → State
put fs st f = has fs f || st f

-- "It then clears its cleared facts and afterwards sets its set facts, so a fact in both lists is true." The state
-- after the step (its successor state)
abbrev pub after : Step → State → State
after s st = put s.sets (clear s.clears st)

-- the facts that these steps leave, done one after the other (progression)
abbrev pub run : Table → List ℕ → State → State
run T [] st = st
run T (s ∷ ss) st = run T ss (after (step_of T s) st)

-- "The steps of a tree can be done left to right from given facts if the first can be done with those facts, and each later one with
-- the facts that the step before it left. A tree without steps always can." (They are executable.)
abbrev pub can : Table → List ℕ → State → Bool
can T [] st = true
can T (s ∷ ss) st = ready (step_of T s) st && can T ss (after (step_of T s) st)
