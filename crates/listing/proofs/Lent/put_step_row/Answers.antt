-- `listing::Lent::put_step_row` meets its contract: no row where the node has jobs, and a short line where it has none.
-- Assumes nothing.
use native.Mathlib.Omega.{arith}
use Rattle.listing.proofs.Nodes.{handed_down, step_listed, step_name_short}
use Rattle.listing.proofs.Lent.put_step_row.Goals as goal

pub put_step-at-requires : goal.put_step-at-requires
put_step-at-requires c = (
  c.requires.room,
  omega (arith, c.requires.few),
  step_name_short c.args.self.now.listable c.requires c.args.s c.step_name-name.ensures,
)

pub returns-then-jobs-gt0 : goal.returns-then-jobs-gt0
returns-then-jobs-gt0 c =
    handed_down c.args.self.now.listable c.requires c.args.s (rw (c.node.ensures.0, c.node.ensures.1) at c.jobs.ensures.0) c.if-jobs-gt0.true

pub returns : goal.returns
returns c =
    step_listed c.args.self.now.listable c.requires c.args.s (rw (c.node.ensures.0, c.node.ensures.1) at c.jobs.ensures.0) c.if-jobs-gt0.false
    c.step_name-name.ensures c.put_step-at.ensures
