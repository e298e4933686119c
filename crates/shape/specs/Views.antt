-- Inside the encoding, nothing to believe: what the structs stand for: the table and what its clauses are made from, a node, the step variables of a slot.
-- Assumes nothing.
use Rattle.std.specs.Prelude.{List, ℕ}
use Rattle.planning.specs.Table.{Table}
use Rattle.places.specs.Flat.{Node as FlatNode}
use Rattle.places.specs.ClausePlace.{Source, node_at, slot_at}
use Rattle.table.specs.Layout.{table_in}
use Rattle.index.specs.Index.{source}
use Rattle.shape.specs.declared.encoded.Encoded.{Encoded}
use Rattle.shape.specs.declared.node.Node.{Node}
use Rattle.shape.specs.declared.slot.Slot.{Slot}

abbrev pub table_of : Encoded → Table
table_of e = table_in e.table.now

abbrev pub source_of : Encoded → Source
source_of e = source (table_of e)

abbrev pub flat : Node → FlatNode
flat n = node_at (source_of n.encoded) n.number

abbrev pub steps_of : Slot → List (ℕ × ℕ)
steps_of s = slot_at (source_of s.encoded) s.number
