-- The record's jobs at an inner node, none at a slot.
use Rattle.indexing.proofs.Nodes.{jobs_yes, jobs_no}
use Rattle.indexing.proofs.Structs.{here}
use Rattle.indexing.proofs.node.Node.jobs.Goals as goal

pub returns-then-is_inner : goal.returns-then-is_inner
returns-then-is_inner c = jobs_yes (here c.args.self.now) c.is_inner.ensures c.if-is_inner.true c.word.ensures

pub returns-else-is_inner : goal.returns-else-is_inner
returns-else-is_inner c = jobs_no (here c.args.self.now) c.is_inner.ensures c.if-is_inner.false
