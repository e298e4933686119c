use Rattle.std.proofs.Common.{◌∙◌, ap, arith}
use Rattle.outline.specs.Index.{number_in}
use Rattle.outline.proofs.look_up.Goals as goal

pub of_kind-requires : goal.of_kind-requires
of_kind-requires c = omega arith

pub find-requires : goal.find-requires
find-requires c = c.of_kind.ensures.within c.args.file.now c.requires

pub returns : goal.returns
returns c = c.find.ensures ∙ ap (λ ms. number_in ms c.args.name.now) (c.of_kind.ensures.names c.args.file.now c.requires)
