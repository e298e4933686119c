use Rattle.shape.specs.Views.{table_of}
use Rattle.cursor.specs.Cursor.{rank_of}
use Rattle.cursor.proofs.Moves.{Upto}
use Rattle.cursor.proofs.Cursor.next.Given as goal

abbrev pub invariant-loop-c : goal.invariant-loop-c
invariant-loop-c l = Upto (table_of l.e) l.initial.c l.c

abbrev pub decreases-loop-c : goal.decreases-loop-c
decreases-loop-c l = rank_of l.c
