-- Inside the encoding, nothing to believe: what the writing of an index goes by, and the parts of a node that it writes. What is written is
-- the index of crate `index`. Assumes nothing.
use Rattle.std.specs.Prelude.{◌≡◌, List, [], ◌∷◌, map, ℕ, ◌<◌, length}
use Rattle.lists.specs.List.{up_to}
use Rattle.planning.specs.Table.{Table}
use Rattle.planning.specs.Record.{records}
use Rattle.planning.specs.Accepted.{Accepted}
use Rattle.places.specs.Flat.{Node}
use Rattle.places.specs.ClausePlace.{child_at, node_at}
use Rattle.tree.specs.Words.{tree_words}
use Rattle.index.specs.Index.{word_of, source}

-- the table is an accepted one, and the words are those of its records
pub record Stands (T : Table) (ws : List ℕ) : Type 0 where
  pub accepted : Accepted T
  pub tree : ws ≡ tree_words (records T)

-- node n of the table
abbrev pub node : Table → ℕ → Node
node T n = node_at (source T) n

-- there is such a node
pub record AtNode (T : Table) (ws : List ℕ) (n : ℕ) : Type 0 where
  pub stands : Stands T ws
  pub inside : n < length (source T).nodes

-- the parts of a node's words: its first variable and its sets; how many steps, jobs and methods; the numbers of its children, eight words
abbrev pub set_words : (first : ℕ) → Node → List ℕ
set_words b N = b ∷ word_of N.steps ∷ word_of N.jobs ∷ []

abbrev pub count_words : Node → List ℕ
count_words N = length N.steps ∷ length N.jobs ∷ length N.methods ∷ []

abbrev pub child_numbers : Node → List ℕ
child_numbers N = map (λ C. C.node) N.children

abbrev pub child_words : Node → List ℕ
child_words N = map (λ y. (child_at N y).node) (up_to 8)
