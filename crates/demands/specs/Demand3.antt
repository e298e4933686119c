-- Demand 3, whole: for every accepted file and every answer, which answers are taken, models and procedure trees. The statement alone;
-- proofs/Demand3.antt proves it. The quotations are of demands 2 and 3. Assumes nothing.
use Rattle.std.specs.Prelude.{◌≡◌, Bool, true, List, [], ◌∷◌, ◌++◌, ◌↔◌, ℕ, ◌≤◌, length, take, drop}
use Rattle.std.proofs.Math.Option.{some}
use Rattle.lists.specs.List.{Every}
use Rattle.planning.specs.Table.{Table}
use Rattle.planning.specs.Tree.{Tree, TreeOf}
use Rattle.planning.specs.Variable.{variables}
use Rattle.planning.specs.Clause.{Lit, variable_of, formula}
use Rattle.planning.specs.Model.{value, satisfies, Model, Gives, bits}
use Rattle.planning.specs.Demand3.{Demand3}
use Rattle.nodes.specs.Tree.{tree_of, met10}
use Rattle.nodes.specs.declared.Node.{Node}
use Rattle.solver.specs.Line.{satisfiable}
use Rattle.solver.specs.File.{answer_of}
use Rattle.solver.specs.Questions.{times, truths}
use Rattle.listing.specs.Listing.{shown_names, listing}
use Rattle.questions.specs.Questions.{accepting, accepted, names_of, taken}
use Rattle.answer.specs.Calls.{taking, values_after, showing, listing_after, showing_answer, answer_listing_after}

-- "an accepted table": the reader's word on the file's bytes
abbrev pub AcceptedAs : List ℕ → Table → Type 0
AcceptedAs file T = accepting file ≡ accepted T

-- "its own tree where one is read": long enough, and its first records are the table's (question 10)
pub record OwnTree (T : Table) (tree : List Node) : Type 0 where
  pub long : 1024 ≤ length tree
  pub own : met10 T tree ≡ true

-- "an answer file of at most 65,536 bytes, formed as there, that says SATISFIABLE", and its numbers before the 0
pub record SaysSatisfiable (answer : List ℕ) (ls : List Lit) : Type 0 where
  pub short : length answer ≤ 65536
  pub formed : answer_of answer ≡ some (record { word = satisfiable; numbers = ls })

-- "it sets each variable once and no other and satisfies every clause"
pub record SetsAndSatisfies (T : Table) (ls : List Lit) : Type 0 where
  pub once : (k : ℕ) → 1 ≤ k → k ≤ variables T → times k ls ≡ 1
  pub no_other : Every (λ (l : Lit). (1 ≤ variable_of l) × (variable_of l ≤ variables T)) ls
  pub satisfied : satisfies (value (truths (variables T) ls)) (formula T) ≡ true

-- the call took the answer and left these values
pub record Takes (file : List ℕ) (tree : List Node) (answer values : List ℕ) (T : Table) (vs : List Bool) : Type 0 where
  pub handed_back : taking file tree answer values ≡ taken (variables T ∷ [])
  pub left : values_after file tree answer values ≡ bits vs ++ drop (variables T) values

-- the listing of a tree, with the file's names
abbrev pub listing_in : List ℕ → Tree → List ℕ
listing_in file t = listing (shown_names file (names_of file)) t

-- the call listed the tree t
pub record Lists (file : List ℕ) (tree : List Node) (values text : List ℕ) (t : Tree) : Type 0 where
  pub handed_back : showing file tree values text ≡ taken (length (listing_in file t) ∷ [])
  pub left : listing_after file tree values text ≡ listing_in file t ++ drop (length (listing_in file t)) text
  pub fits : length (listing_in file t) ≤ 24576

-- the call that is lent no tree and no values listed the tree t of the answer
pub record ListsAnswer (file answer text : List ℕ) (t : Tree) : Type 0 where
  pub handed_back : showing_answer file answer text ≡ taken (length (listing_in file t) ∷ [])
  pub left : answer_listing_after file answer text ≡ listing_in file t ++ drop (length (listing_in file t)) text
  pub fits : length (listing_in file t) ≤ 24576

pub record Demand3Whole (file : List ℕ) (T : Table) : Type 0 where
  -- "an answer file of at most 65,536 bytes, formed as there, that says SATISFIABLE is taken exactly if it sets each variable once and no
  -- other and satisfies every clause"
  pub takes : (tree : List Node) (answer values : List ℕ) (ls : List Lit) → OwnTree T tree → 8191 ≤ length values → SaysSatisfiable answer ls
      → Takes file tree answer values T (truths (variables T) ls) ↔ SetsAndSatisfies T ls
  -- (there is such a tree: the table's records, with anything behind them)
  pub own_trees : (more : List Node) → 1024 ≤ length (tree_of T ++ more) → OwnTree T (tree_of T ++ more)
  -- "the answers taken are those that demand 2 names": no other is, and with no other tree and no shorter buffer,
  pub takes_no_other : (tree : List Node) (answer values ns : List ℕ) → taking file tree answer values ≡ taken ns
      → (ls : List Lit) × SaysSatisfiable answer ls × SetsAndSatisfies T ls × OwnTree T tree × (8191 ≤ length values)
      × Takes file tree answer values T (truths (variables T) ls)
  -- "and their values are a model of that table's formula";
  pub are_models : (tree : List Node) (answer values ns : List ℕ) → taking file tree answer values ≡ taken ns
      → (vs : List Bool) × Model T vs × Takes file tree answer values T vs
  -- no model is left out: each is the values of an answer that is taken
  pub all_models : (vs : List Bool) → Model T vs → (tree : List Node) (values : List ℕ)
      → OwnTree T tree → 8191 ≤ length values → (answer : List ℕ) × Takes file tree answer values T vs
  -- "every model of it gives a procedure tree of that table; two models have the same value at every variable exactly when they give the same
  -- tree; and a procedure tree of that table, of whatever height, is given by a model exactly when it starts at the table's root job, is no
  -- higher than the table's depth, and its steps can be done left to right from the table's initial facts" (`gives`, `apart`, `exact`)
  pub trees : Demand3 T
  -- "the listing then shows the procedure tree that those values describe": of the values that the call left,
  pub then_lists : (tree : List Node) (answer values text ns : List ℕ) → taking file tree answer values ≡ taken ns → 24576 ≤ length text
      → (vs : List Bool) × (t : Tree) × Model T vs × Gives T vs t × TreeOf T t × Takes file tree answer values T vs
      × Lists file tree (values_after file tree answer values) text t
  -- and of any model's values, with anything behind them;
  pub lists : (tree : List Node) (more text : List ℕ) (vs : List Bool) (t : Tree) → OwnTree T tree → 8191 ≤ length (bits vs ++ more) → 24576 ≤ length text
      → Model T vs → Gives T vs t → Lists file tree (bits vs ++ more) text t
  -- no other values are listed, and with no other tree and no shorter buffer
  pub lists_no_other : (tree : List Node) (values text ns : List ℕ) → showing file tree values text ≡ taken ns
      → (vs : List Bool) × (t : Tree) × Model T vs × Gives T vs t × (take (variables T) values ≡ bits vs) × OwnTree T tree
      × (8191 ≤ length values) × (24576 ≤ length text)
      × Lists file tree values text t
  -- the same where no tree and no values are lent: of the answers that say SATISFIABLE exactly those are
  -- listed that set each variable once and no other and satisfy every clause,
  pub lists_answers : (answer text : List ℕ) (ls : List Lit) → 24576 ≤ length text → SaysSatisfiable answer ls
      → ((t : Tree) × Gives T (truths (variables T) ls) t × ListsAnswer file answer text t) ↔ SetsAndSatisfies T ls
  -- and no other, and in no shorter buffer
  pub lists_no_other_answer : (answer text ns : List ℕ) → showing_answer file answer text ≡ taken ns
      → (ls : List Lit) × (t : Tree) × SaysSatisfiable answer ls × SetsAndSatisfies T ls × (24576 ≤ length text)
      × Gives T (truths (variables T) ls) t × TreeOf T t × ListsAnswer file answer text t

-- "Whatever table is accepted and whatever the solver answers"
abbrev pub ForEveryAcceptedFile : Type 0
ForEveryAcceptedFile = (file : List ℕ) (T : Table) → AcceptedAs file T → Demand3Whole file T
