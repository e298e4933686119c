use mathlib.Core.Path.{◌≡◌}
use lib.ListN.{length}
use Rattle.lines.specs.Parts.{split}
use Rattle.solver.specs.Line.{satisfiable}
use Rattle.solver.specs.Scan.{read_parts}
use Rattle.cells.specs.State.{reading_from}
use Rattle.cells.proofs.state.State.read_parts.Given as goal

-- what is left tells the same as the whole
abbrev pub invariant-loop-state : goal.invariant-loop-state
invariant-loop-state l =
    read_parts satisfiable (reading_from l.state l.cells) (split 32 l.rest) ≡ read_parts satisfiable (reading_from l.fn.self l.fn.cells) (split 32 l.numbers)

abbrev pub decreases-loop-state : goal.decreases-loop-state
decreases-loop-state l = length l.rest
