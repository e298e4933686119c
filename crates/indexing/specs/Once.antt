-- Inside the encoding, nothing to believe: that a table is accepted, and the words are those of its records, can be shown in one way only: so a
-- value may carry it.
-- Assumes nothing.
use Rattle.std.specs.Prelude.{List, ℕ}
use Rattle.std.specs.Coded.{Coded-set, coded_ℕ, coded_list}
use Rattle.planning.specs.Table.{Table}
use Rattle.planning.specs.Record.{records}
use Rattle.tree.specs.Words.{tree_words}
use Rattle.shape.specs.Once.{Accepted-prop}
use Rattle.indexing.specs.Stands.{Stands}

pub Stands-prop : (T : Table) (ws : List ℕ) → IsProp (Stands T ws)
Stands-prop T ws p q = λ i. record {
  accepted = Accepted-prop T p.accepted q.accepted i;
  tree = Coded-set (coded_list coded_ℕ) ws (tree_words (records T)) p.tree q.tree i;
}
