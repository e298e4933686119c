use Rattle.std.proofs.Common.{◌≡◌, length}
use Rattle.outline.proofs.Spans.{Filled}
use Rattle.outline.proofs.declare.Given as goal

abbrev pub invariant-loop-name : goal.invariant-loop-name
invariant-loop-name l = record { wide : length l.name-items ≡ l.n; filled : Filled l.file l.name-items l.name-index l.at l.rest }
