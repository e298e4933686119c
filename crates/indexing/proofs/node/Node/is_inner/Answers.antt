-- By the record's depth and by its jobs.
use mathlib.Core.Path.{◌∙◌}
use borrow.Author.Tests.{le-ltb}
use Rattle.indexing.proofs.Nodes.{inner_yes, inner_no}
use Rattle.indexing.proofs.Structs.{here}
use Rattle.indexing.proofs.node.Node.is_inner.Goals as goal

pub returns-then-word-depth : goal.returns-then-word-depth
returns-then-word-depth c =
    inner_yes (here c.args.self.now) c.word.ensures c.depth.ensures c.if-word-depth.true c.word-then-word-depth.ensures c.has_some.ensures

pub returns-else-word-depth : goal.returns-else-word-depth
returns-else-word-depth c =
    le-ltb c.word.result c.depth.result c.if-word-depth.false
    ∙ inner_no (here c.args.self.now) c.word.ensures c.depth.ensures c.if-word-depth.false
