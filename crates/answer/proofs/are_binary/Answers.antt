use mathlib.Core.Path.{◌∙◌}
use lib.Dec.{leb}
use Rattle.std.proofs.Common.{rules, tests}
use Rattle.std.proofs.lemmas.Iterator.{YieldsList-from_slice}
use Rattle.std.proofs.lemmas.Iterator.Search.{all_from_yields_List}
use Rattle.answer.proofs.Bits.{list_all_lem}
use Rattle.answer.proofs.are_binary.Goals as goal

pub returns : goal.returns
returns c =
    all_from_yields_List (λ v. leb v 1) c.all.new.self _ c.all.result c.all.ensures.ran (YieldsList-from_slice c.args.values.now cc) (λ x b q k. search (rules, tests))
    ∙ list_all_lem (λ v. leb v 1) c.args.values.now
