use Rattle.std.proofs.Common.{rules, tests}
use Rattle.std.proofs.lemmas.Iterator.Consumers.{nth_from_yields_List}
use Rattle.std.proofs.lemmas.Iterator.Splits.{YieldsList-from_slice_split}
use lib.Dec.{eqb}
use mathlib.Core.Path.{refl}
use Rattle.grammar.proofs.Lines.{field_is}
use Rattle.grammar.proofs.Places.{field_stands}
use Rattle.grammar.proofs.field_at.Goals as goal

pub returns : goal.returns
returns c =
    let e =
    field_is c.args.line.now c.args.k _ c.nth.result _ refl c.unwrap_or.ensures
    (nth_from_yields_List c.nth.result _ c.args.k c.nth.ensures.ran
    (YieldsList-from_slice_split _ (λ b. eqb b 9) c.args.line.now c.split.ensures.rest c.split.ensures.done c.split.ensures.closure
    (λ x b q k. search (rules, tests)))) in
    record { bytes = e; place = field_stands c.args.line.now c.args.k e }
