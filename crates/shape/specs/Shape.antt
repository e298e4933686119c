-- Inside the encoding, nothing to believe: a table and its index.
-- Assumes nothing.
use Rattle.std.specs.Prelude.{◌≡◌, List, ℕ, ◌<◌, length}
use Rattle.planning.specs.Table.{Table}
use Rattle.planning.specs.Accepted.{Accepted}
use Rattle.places.specs.Flat.{Node}
use Rattle.places.specs.ClausePlace.{Source, node_at, nodes_in, groups_in}
use Rattle.index.specs.Index.{source, index_of}

-- an accepted table, and its index
pub record Indexed (T : Table) (ix : List ℕ) : Type 0 where
  pub accepted : Accepted T
  pub index : ix ≡ index_of T

-- node n of it, and that there is one
abbrev pub node : Table → ℕ → Node
node T n = node_at (source T) n

pub record InNode (T : Table) (ix : List ℕ) (n : ℕ) : Type 0 where
  pub indexed : Indexed T ix
  pub there : n < length (source T).nodes

-- slot n of it
pub record InSlot (T : Table) (ix : List ℕ) (n : ℕ) : Type 0 where
  pub indexed : Indexed T ix
  pub there : n < length (source T).slots

-- letter g of node or slot n of rule r is there
pub record HasLetter (S : Source) (r n g : ℕ) : Type 0 where
  pub rule : r < 4
  pub there : n < nodes_in S r
  pub group : g < groups_in r
