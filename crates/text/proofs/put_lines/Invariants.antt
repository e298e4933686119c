use lib.ListN.{length}
use Rattle.shape.specs.Views.{table_of}
use Rattle.text.specs.Lines.{lines_from}
use Rattle.text.proofs.Writing.{Writing}
use Rattle.text.proofs.put_lines.Given as goal

abbrev pub invariant-loop-place : goal.invariant-loop-place
invariant-loop-place l = Writing (table_of l.e) l.initial.cursor l.start l.j l.initial.text l.cursor l.lines.used l.lines.next l.text

abbrev pub decreases-loop-place : goal.decreases-loop-place
decreases-loop-place l = length (lines_from (table_of l.e) l.cursor)
