use native.Mathlib.Omega.{arith}
use Rattle.std.proofs.Common.{rules, tests}
use Rattle.std.proofs.lemmas.Iterator.{YieldsList-from_slice}
use Rattle.std.proofs.lemmas.Iterator.Search.{all_from_yields_List}
use Rattle.grammar.specs.Byte.{of_name}
use Rattle.grammar.proofs.Names.{name_none, name_low, name_high, name_long, name_rest}
use Rattle.grammar.proofs.is_name.Goals as goal

pub returns-then-rest-le11 : goal.returns-then-rest-le11
returns-then-rest-le11 c =
    name_rest c.args.field.now _ (omega arith) (omega arith) (omega arith) (omega arith)
    (all_from_yields_List of_name _ _ c.all.result c.all.ensures.ran (YieldsList-from_slice _ (cc)) (λ x b q k. search (rules, tests)))

pub returns-else-rest-le11 : goal.returns-else-rest-le11
returns-else-rest-le11 c = name_long c.args.field.now (omega arith) (omega arith)

pub returns-in_default : goal.returns-in_default
returns-in_default c = name_none c.args.field.now (omega arith)

pub returns-in_default-2 : goal.returns-in_default-2
returns-in_default-2 c = name_low c.args.field.now (omega arith) (omega arith)

pub returns-in_default-3 : goal.returns-in_default-3
returns-in_default-3 c = name_high c.args.field.now (omega arith) (omega arith)
