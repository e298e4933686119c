use mathlib.Core.Path.{◌≡◌}
use lib.ListN.{length}
use Rattle.lines.specs.Bytes.{LF}
use Rattle.lines.specs.Parts.{ended}
use Rattle.solver.specs.Line.{satisfiable}
use Rattle.solver.specs.Scan.{begin, read_lines}
use Rattle.cells.specs.State.{reading_from}
use Rattle.cells.proofs.state.read_lines.Given as goal

-- what is left tells the same as the whole
abbrev pub invariant-loop-line : goal.invariant-loop-line
invariant-loop-line l =
    read_lines satisfiable (reading_from l.state l.cells) (ended LF l.rest) ≡ read_lines satisfiable (begin (length l.fn.cells)) (ended LF l.text)

abbrev pub decreases-loop-line : goal.decreases-loop-line
decreases-loop-line l = length l.rest
