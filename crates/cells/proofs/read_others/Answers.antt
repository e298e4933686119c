use Rattle.lines.specs.Bytes.{LF}
use Rattle.lines.specs.Parts.{ended}
use Rattle.cells.proofs.Whole.{others_only, others_more}
use Rattle.cells.proofs.read_others.Goals as goal

pub returns-in-None : goal.returns-in-None
returns-in-None c = others_only (ended LF c.args.text.now) c.pass_comments.ensures.lines c.in-None.ensures.lines

pub returns-in-Some : goal.returns-in-Some
returns-in-Some c = others_more (ended LF c.args.text.now) c.pass_comments.ensures.lines c.in-Some.ensures.lines
