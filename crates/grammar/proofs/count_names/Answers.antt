use Rattle.std.proofs.Common.{rules, tests}
use Rattle.std.proofs.lemmas.Iterator.Consumers.{count_from_yields_List}
use Rattle.std.proofs.lemmas.Iterator.Splits.{YieldsList-from_slice_split}
use lib.Dec.{eqb}
use Rattle.grammar.proofs.Names.{names_none, names_some}
use Rattle.grammar.proofs.count_names.Goals as goal

pub returns-then-is_hyphen : goal.returns-then-is_hyphen
returns-then-is_hyphen c = names_none _ _ c.is_hyphen.ensures c.if-is_hyphen.true

pub returns-else-is_hyphen : goal.returns-else-is_hyphen
returns-else-is_hyphen c =
    names_some c.args.list.now _ _ c.is_hyphen.ensures c.if-is_hyphen.false
    (count_from_yields_List c.split.result c.count.result c.count.ensures.ran
    (YieldsList-from_slice_split _ (λ b. eqb b 44) c.args.list.now c.split.ensures.rest c.split.ensures.done c.split.ensures.closure (λ x b q k. search (rules, tests))))
