-- Demand 3 for the formula of a table: its models and the procedure trees that are wanted match one to one. The statement alone;
-- proofs/Demand3.antt proves it. The quotations are of the demand, of which the part on answer files stands in crate `demands`, specs/Demand3.
-- Assumes nothing.
use Rattle.std.specs.Prelude.{◌≡◌, Bool, true, List, ◌↔◌, ℕ, ◌≤◌}
use Rattle.planning.specs.Table.{job, Table, Sound}
use Rattle.planning.specs.Tree.{Tree, top, height, SameTree, tree_steps, TreeOf, initial, can}
use Rattle.planning.specs.Variable.{variables}
use Rattle.planning.specs.Model.{value, Model, Gives}

-- they "have the same value at every variable"
abbrev pub EqualAtEvery : Table → List Bool → List Bool → Type 0
EqualAtEvery T vs ws = (n : ℕ) → 1 ≤ n → n ≤ variables T → value vs n ≡ value ws n

-- "they give the same tree"
pub record GiveSame (T : Table) (vs ws : List Bool) : Type 0 where
  pub one : Tree
  pub other : Tree
  pub gives_one : Gives T vs one
  pub gives_other : Gives T ws other
  pub same : SameTree one other

-- "is given by a model"
pub record GivenByAModel (T : Table) (t : Tree) : Type 0 where
  pub values : List Bool
  pub model : Model T values
  pub gives : Gives T values t

-- "it starts at the table's root job, is no higher than the table's depth, and its steps can be done left to right from the table's initial
-- facts": the decomposition tree of a solution, with a bound on its height
pub record Wanted (T : Table) (t : Tree) : Type 0 where
  pub starts : top t ≡ job T.root
  pub low : height t ≤ T.depth
  pub doable : can T (tree_steps t) (initial T) ≡ true

pub record Demand3 (T : Table) : Type 0 where
  -- "every model of it gives a procedure tree of that table;
  pub gives : (vs : List Bool) → Model T vs → (t : Tree) × Gives T vs t × TreeOf T t
  -- two models have the same value at every variable exactly when they give the same tree;
  pub apart : (vs ws : List Bool) → Model T vs → Model T ws → EqualAtEvery T vs ws ↔ GiveSame T vs ws
  -- and a procedure tree of that table, of whatever height, is given by a model exactly when it starts at the table's root job, is no higher
  -- than the table's depth, and its steps can be done left to right from the table's initial facts."
  pub exact : (t : Tree) → TreeOf T t → GivenByAModel T t ↔ Wanted T t

-- for every table that keeps the reader's promises, whatever its size
abbrev pub ForEverySoundTable : Type 0
ForEverySoundTable = (T : Table) → Sound T → Demand3 T
