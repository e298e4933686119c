-- The ten marked tables of document 01, and what it says of each. The statement alone; proofs/Computed/Marked.antt proves it.
-- Assumes nothing.
use Rattle.std.specs.Prelude.{◌≡◌, Bool, true, List, [], ◌∷◌, ℕ, length}
use Rattle.lists.specs.List.{◌∈◌, Distinct, Every}
use Rattle.lists.specs.Text.{bytes}
use Rattle.planning.specs.Table.{Task, step, job, Step, Method, Table}
use Rattle.planning.specs.Tree.{Tree, tree_steps, initial, run}
use Rattle.planning.specs.Variable.{fact_var, first_fact_var, variables}
use Rattle.planning.specs.Clause.{formula}
use Rattle.planning.specs.Model.{value, Model, Gives}
use Rattle.planning.specs.Text.{text}
use Rattle.planning.specs.Accepted.{Accepted}

-- the table has exactly n models: there are n different ones, and every model is one of them
pub record Models (T : Table) (n : ℕ) : Type 0 where
  pub list : List (List Bool)
  pub number : length list ≡ n
  pub models : Every (Model T) list
  pub different : Distinct list
  pub every : (vs : List Bool) → Model T vs → vs ∈ list

-- The tables -----------------------------------------------------------------------------------------------------------------
-- one fact, open; one step, lift; one job, serve, which is the root
abbrev pub table : Step → List Method → List ℕ → ℕ → Table
table only methods start depth = record { facts = 1; steps = only ∷ []; jobs = 1; methods = methods; start = start; root = 0; depth = depth }

-- a method of serve
abbrev pub by : List Task → Method
by body = record { of = 0; body = body }

-- S lift - open -
abbrev pub lift : Step
lift = record { needs = []; sets = 0 ∷ []; clears = [] }

-- S lift open open -
abbrev pub lift_needs_open : Step
lift_needs_open = record { needs = 0 ∷ []; sets = 0 ∷ []; clears = [] }

-- S lift - open open
abbrev pub lift_sets_and_clears : Step
lift_sets_and_clears = record { needs = []; sets = 0 ∷ []; clears = 0 ∷ [] }

abbrev pub shown : Table
shown = table lift (by (step 0 ∷ []) ∷ []) [] 1

abbrev pub deeper : Table
deeper = table lift (by (step 0 ∷ []) ∷ []) [] 2

abbrev pub empty_body : Table
empty_body = table lift (by [] ∷ []) [] 1

abbrev pub without_methods : Table
without_methods = table lift [] [] 1

abbrev pub serve_and_lift : Table
serve_and_lift = table lift (by (job 0 ∷ []) ∷ by (step 0 ∷ []) ∷ []) [] 1

abbrev pub serve_and_lift_deeper : Table
serve_and_lift_deeper = table lift (by (job 0 ∷ []) ∷ by (step 0 ∷ []) ∷ []) [] 2

abbrev pub twice : Table
twice = table lift (by (step 0 ∷ []) ∷ by (step 0 ∷ []) ∷ []) [] 1

abbrev pub needs_open : Table
needs_open = table lift_needs_open (by (step 0 ∷ []) ∷ []) [] 1

abbrev pub needs_open_at_start : Table
needs_open_at_start = table lift_needs_open (by (step 0 ∷ []) ∷ []) (0 ∷ []) 1

abbrev pub sets_and_clears : Table
sets_and_clears = table lift_sets_and_clears (by (step 0 ∷ []) ∷ []) [] 1

abbrev pub ten : List Table
ten =
    shown ∷ deeper ∷ empty_body ∷ without_methods ∷ serve_and_lift ∷ serve_and_lift_deeper ∷ twice ∷ needs_open ∷ needs_open_at_start ∷ sets_and_clears
    ∷ []

-- what document 01 shows that program `formula` writes
abbrev pub shown_text : List ℕ
shown_text = bytes "p cnf 5 9\n1 0\n-1 2 0\n-2 1 0\n-2 3 0\n1 -3 0\n-4 0\n-3 5 0\n-4 5 0\n4 -5 3 0\n"

-- What is said of them ---------------------------------------------------------------------------------------------------
pub record Marked : Type 0 where
  -- all ten meet what is known of an accepted table, so that demand 3 speaks of them
  pub accepted : Every Accepted ten
  -- the text shown. "As shown: one model."
  pub shown_text_lem : text shown ≡ shown_text
  pub shown_models : Models shown 1
  -- "Depth 2: same formula."
  pub deeper_formula : formula deeper ≡ formula shown
  pub deeper_variables : variables deeper ≡ variables shown
  pub deeper_models : Models deeper 1
  -- "Body `-`: 3 variables, 4 clauses, one model, no step."
  pub empty_variables : variables empty_body ≡ 3
  pub empty_clauses : length (formula empty_body) ≡ 4
  pub empty_models : Models empty_body 1
  pub empty_steps : (vs : List Bool) (t : Tree) → Model empty_body vs → Gives empty_body vs t → tree_steps t ≡ []
  -- "No M line: 2 variables, 3 clauses, no model."
  pub none_variables : variables without_methods ≡ 2
  pub none_clauses : length (formula without_methods) ≡ 3
  pub none_models : Models without_methods 0
  -- "Methods `serve` and `lift`, depth 1: one model." "The same, depth 2: two."
  pub both_models : Models serve_and_lift 1
  pub both_deeper_models : Models serve_and_lift_deeper 2
  -- "The M line twice: two."
  pub twice_models : Models twice 2
  -- "lift needs open: none." "That, with open at the start: one."
  pub needs_models : Models needs_open 0
  pub needs_start_models : Models needs_open_at_start 1
  -- "lift sets and clears open: one, open true after": after the tree's steps, and at the last boundary
  pub clears_models : Models sets_and_clears 1
  pub clears_after : (vs : List Bool) (t : Tree) → Model sets_and_clears vs → Gives sets_and_clears vs t
      → run sets_and_clears (tree_steps t) (initial sets_and_clears) 0 ≡ true
  pub clears_boundary : (vs : List Bool) → Model sets_and_clears vs → value vs (fact_var sets_and_clears (first_fact_var sets_and_clears) 1 0) ≡ true
