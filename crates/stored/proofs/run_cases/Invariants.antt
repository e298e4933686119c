-- run_cases takes each line of the index and ends: less of it is left after each.
use Rattle.std.proofs.Common.{length}
use Rattle.stored.proofs.run_cases.Given as goal

abbrev pub decreases-loop-left : goal.decreases-loop-left
decreases-loop-left g l = length l.left
