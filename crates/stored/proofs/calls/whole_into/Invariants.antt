-- `stored::calls::whole_into` meets its contract: fewer lines are left behind each part.
-- Assumes nothing.
use Rattle.std.proofs.Common.{◌-◌, ◌≤◌, length}
use Rattle.programs.specs.Output.{formula_lines}
use Rattle.stored.proofs.calls.whole_into.Given as goal

abbrev pub invariant-loop-part : goal.invariant-loop-part
invariant-loop-part g l = 1024 ≤ length l.text

abbrev pub decreases-loop-part : goal.decreases-loop-part
decreases-loop-part g l = length (formula_lines l.file) - l.line
