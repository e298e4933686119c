use Rattle.outline.specs.Outlined.{kind_of}
use Rattle.outline.specs.Index.{most_in}
use Rattle.outline.proofs.ByKind.{indexed, kind_few, number_within}
use Rattle.outline.proofs.Outline.look_up.Goals as goal

pub look_up-requires : goal.look_up-requires
look_up-requires c = let o = c.args.self.now in indexed o.shape.file.now o.shape.shaped o.held

pub returns-clause-small : goal.returns-clause-small
returns-clause-small c =
    let o = c.args.self.now in
    number_within _ c.args.name.now (most_in (kind_of c.args.kind)) c.look_up.result (kind_few o.shape.file.now o.shape.shaped (kind_of c.args.kind))
    c.look_up.ensures
