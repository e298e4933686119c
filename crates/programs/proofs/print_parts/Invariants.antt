-- `programs::print_parts` meets its contract: each part lies within the text, and fewer lines are left behind it.
-- Assumes nothing.
use Rattle.std.proofs.Common.{◌-◌, ◌≤◌, length, take}
use Rattle.std.specs.Io.KnownBytes.{Appends}
use Rattle.lists.specs.List.{concat}
use Rattle.programs.specs.Output.{formula_lines}
use Rattle.programs.proofs.print_parts.Given as goal

abbrev pub invariant-loop-line : goal.invariant-loop-line
invariant-loop-line g l =
    (1024 ≤ length l.text) × Appends (g.W.Write.contents l.initial.out) (g.W.Write.contents l.out) (concat (take l.line (formula_lines l.file)))

abbrev pub decreases-loop-line : goal.decreases-loop-line
decreases-loop-line g l = length (formula_lines l.file) - l.line
