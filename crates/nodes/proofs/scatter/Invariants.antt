-- The records so far are laid, the others as they were.
use Rattle.std.proofs.Common.{◌≡◌}
use Rattle.nodes.specs.Nodes.{laid}
use Rattle.nodes.proofs.scatter.Given as goal

abbrev pub invariant-loop-i : goal.invariant-loop-i
invariant-loop-i l = l.ns ≡ laid l.flat l.initial.ns l.i
