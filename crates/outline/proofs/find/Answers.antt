use Rattle.std.proofs.Common.{rules, tests}
use Rattle.std.proofs.lemmas.Iterator.{YieldsList-from_slice}
use Rattle.std.proofs.lemmas.Iterator.Search.{position_from_yields_List}
use Rattle.lines.specs.Bytes.{same_bytes}
use Rattle.outline.specs.Index.{shown}
use Rattle.outline.proofs.Names.{number_found}
use Rattle.outline.proofs.find.Goals as goal

pub returns : goal.returns
returns c =
    number_found c.args.file.now c.args.name.now c.args.names.now _
    (position_from_yields_List (λ p. same_bytes c.args.name.now (shown c.args.file.now p)) _ _ _ c.position.ensures.ran
    (YieldsList-from_slice c.args.names.now cc) (λ x b q k. search (rules, tests)))
