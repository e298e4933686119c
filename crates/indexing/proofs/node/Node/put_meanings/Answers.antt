-- Three writes, one behind the other, for each of which there is room.
use native.Mathlib.Omega.{arith}
use Rattle.indexing.proofs.Nodes.{known}
use Rattle.indexing.proofs.Whole.{parts_long, meanings_put}
use Rattle.indexing.proofs.Structs.{here}
use Rattle.indexing.proofs.node.Node.put_meanings.Goals as goal

pub put_members-a-requires : goal.put_members-a-requires
put_members-a-requires c = omega (arith, c.requires, parts_long (here c.args.self.now) c.word.ensures c.jobs-jobs.ensures)

pub put_members-b-requires : goal.put_members-b-requires
put_members-b-requires c =
    omega (arith, c.requires, parts_long (here c.args.self.now) c.word.ensures c.jobs-jobs.ensures, c.put_members-a.ensures.end)

pub put_methods-requires : goal.put_methods-requires
put_methods-requires c = (
  known c.args.self.now.grown.stands,
  omega (
    arith,
    c.requires,
    parts_long (here c.args.self.now) c.word.ensures c.jobs-jobs.ensures,
    c.put_members-a.ensures.end,
    c.put_members-b.ensures.end,
  ),
)

pub returns : goal.returns
returns c =
    meanings_put (here c.args.self.now) c.word.ensures c.jobs-jobs.ensures c.requires c.put_members-a.ensures c.put_members-b.ensures
    c.put_methods.ensures
