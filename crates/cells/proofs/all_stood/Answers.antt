use mathlib.Core.Path.{◌∙◌}
use Rattle.std.proofs.Common.{ltb, rules, tests}
use Rattle.std.proofs.lemmas.Iterator.{YieldsList-from_slice}
use Rattle.std.proofs.lemmas.Iterator.Search.{all_from_yields_List}
use Rattle.cells.proofs.Values.{all_is}
use Rattle.cells.proofs.all_stood.Goals as goal

pub returns : goal.returns
returns c =
    all_from_yields_List (λ x. ltb x 2) _ _ _ c.all.ensures.ran (YieldsList-from_slice c.args.cells.now cc) (λ x b q k. search (rules, tests))
    ∙ all_is (λ x. ltb x 2) c.args.cells.now
