use Rattle.outline.proofs.Names.{size_differs}
use Rattle.outline.proofs.Span.shows.Goals as goal

pub returns-else-self-name : goal.returns-else-self-name
returns-else-self-name c = size_differs c.args.file.now c.args.name.now c.args.self c.requires c.if-self-name.false
