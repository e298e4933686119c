-- `model::row::has_on` meets its contract. One of the variables is true exactly if one from place i on is.
-- Assumes nothing.
use mathlib.Core.Path.{◌≡◌}
use Rattle.lists.specs.List.{any, from}
use Rattle.planning.specs.Model.{value, truths_in}
use Rattle.model.proofs.Values.{on_from}
use Rattle.model.proofs.row.has_on.Given as goal

abbrev pub invariant-loop-i : goal.invariant-loop-i
invariant-loop-i l = any (value (truths_in l.values)) (from l.v l.k) ≡ on_from (value (truths_in l.values)) l.v l.k l.i
