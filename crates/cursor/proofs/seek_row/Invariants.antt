use Rattle.shape.specs.Views.{table_of}
use Rattle.cursor.specs.Cursor.{SoughtRow, rank_of}
use Rattle.cursor.proofs.seek_row.Given as goal

abbrev pub invariant-loop-c : goal.invariant-loop-c
invariant-loop-c l = SoughtRow (table_of l.e) l.j l.k l.c

abbrev pub decreases-loop-c : goal.decreases-loop-c
decreases-loop-c l = rank_of l.c
