use Rattle.shape.specs.Views.{table_of}
use Rattle.cursor.specs.Cursor.{rank_of}
use Rattle.cursor.proofs.Counts.{SoughtNode}
use Rattle.cursor.proofs.seek_node.Given as goal

abbrev pub invariant-loop-cursor : goal.invariant-loop-cursor
invariant-loop-cursor l = SoughtNode (table_of l.e) l.j l.left l.cursor

abbrev pub decreases-loop-cursor : goal.decreases-loop-cursor
decreases-loop-cursor l = rank_of l.cursor
