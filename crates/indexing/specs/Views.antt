-- Inside the encoding, nothing to believe: what the structs stand for: the table, and the node.
-- Assumes nothing.
use Rattle.planning.specs.Table.{Table}
use Rattle.places.specs.Flat.{Node as FlatNode}
use Rattle.table.specs.Layout.{table_in}
use Rattle.indexing.specs.Stands.{node}
use Rattle.indexing.specs.declared.grown.Grown.{Grown}
use Rattle.indexing.specs.declared.node.Node.{Node}

abbrev pub table_of : Grown → Table
table_of g = table_in g.table.now

abbrev pub flat : Node → FlatNode
flat n = node (table_of n.grown) n.number
