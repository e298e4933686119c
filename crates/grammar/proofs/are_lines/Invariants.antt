-- The lines that are left give the same as all of them.
use mathlib.Core.Path.{◌≡◌}
use lib.ListN.{length}
use Rattle.lists.specs.List.{all}
use Rattle.lines.specs.Bytes.{LF}
use Rattle.lines.specs.Parts.{ended}
use Rattle.grammar.specs.Line.{is_line}
use Rattle.grammar.proofs.are_lines.Given as goal

abbrev pub invariant-loop-line : goal.invariant-loop-line
invariant-loop-line l = all is_line (ended LF l.text) ≡ all is_line (ended LF l.fn.file)

abbrev pub decreases-loop-line : goal.decreases-loop-line
decreases-loop-line l = length l.text
