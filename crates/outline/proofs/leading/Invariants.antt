use Rattle.std.proofs.Common.{length}
use Rattle.outline.proofs.Texts.{Led}
use Rattle.outline.proofs.leading.Given as goal

abbrev pub invariant-loop-line : goal.invariant-loop-line
invariant-loop-line l = Led l.c l.text l.rest l.count

abbrev pub decreases-loop-line : goal.decreases-loop-line
decreases-loop-line l = length l.rest
