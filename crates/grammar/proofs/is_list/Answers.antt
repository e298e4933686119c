use Rattle.std.proofs.Common.{rules, tests}
use Rattle.std.proofs.lemmas.Iterator.Search.{all_from_yields_List}
use Rattle.std.proofs.lemmas.Iterator.Splits.{YieldsList-from_slice_split}
use lib.Dec.{eqb}
use Rattle.grammar.specs.Name.{is_name}
use Rattle.grammar.proofs.Names.{list_none, list_names}
use Rattle.grammar.proofs.is_list.Goals as goal

pub returns-then-is_hyphen : goal.returns-then-is_hyphen
returns-then-is_hyphen c = list_none _ _ c.is_hyphen.ensures c.if-is_hyphen.true

pub returns-else-is_hyphen : goal.returns-else-is_hyphen
returns-else-is_hyphen c =
    list_names c.args.field.now _ _ c.is_hyphen.ensures c.if-is_hyphen.false
    (all_from_yields_List is_name _ _ c.all.result c.all.ensures.ran
    (YieldsList-from_slice_split _ (λ b. eqb b 44) c.args.field.now c.split.ensures.rest c.split.ensures.done c.split.ensures.closure (λ x b q k. search (rules, tests)))
    (λ x b q k. search (rules, tests)))
