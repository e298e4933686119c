-- The records so far are the same.
use Rattle.std.proofs.Common.{◌≡◌, true}
use Rattle.nodes.specs.Nodes.{same_to}
use Rattle.nodes.proofs.is_same.Given as goal

abbrev pub invariant-loop-i : goal.invariant-loop-i
invariant-loop-i l = same_to l.flat l.ns l.i ≡ true
