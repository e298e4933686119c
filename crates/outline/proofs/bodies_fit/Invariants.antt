use Rattle.std.proofs.Common.{◌≡◌, length}
use Rattle.lists.specs.List.{all}
use Rattle.lines.specs.Parts.{lines_of}
use Rattle.outline.specs.Questions.{short}
use Rattle.outline.proofs.bodies_fit.Given as goal

abbrev pub invariant-loop-line : goal.invariant-loop-line
invariant-loop-line l = all short (lines_of l.rest) ≡ all short (lines_of l.text)

abbrev pub decreases-loop-line : goal.decreases-loop-line
decreases-loop-line l = length l.rest
