-- `listing::Lent::put_node` meets its contract, by the place of the first true task: none, a step's or a job's.
-- Assumes nothing.
use Rattle.listing.proofs.Nodes.{tasks_valued, nothing_listed, step_here, job_here}
use Rattle.listing.proofs.Lent.put_node.Goals as goal

pub first_true-requires : goal.first_true-requires
first_true-requires c =
    tasks_valued c.args.self.now.listable c.requires (rw (c.node-node.ensures.0, c.node-node.ensures.1) at c.first.ensures.0)
    (rw (c.node-node.ensures.0, c.node-node.ensures.1) at c.tasks.ensures.0)

pub returns-in_default : goal.returns-in_default
returns-in_default c =
    nothing_listed c.args.self.now.listable c.requires (rw (c.node-node.ensures.0, c.node-node.ensures.1) at c.first.ensures.0)
    (rw (c.node-node.ensures.0, c.node-node.ensures.1) at c.tasks.ensures.0) c.in_default.ensures

pub returns-then-x-k : goal.returns-then-x-k
returns-then-x-k c =
    step_here c.args.self.now.listable c.requires (rw (c.node-node.ensures.0, c.node-node.ensures.1) at c.first.ensures.0)
    (rw (c.node-node.ensures.0, c.node-node.ensures.1) at c.tasks.ensures.0) c.in-Some.ensures
    (rw (c.node-node.ensures.0, c.node-node.ensures.1) at c.steps-k.ensures.0) c.if-x-k.true
    (rw (c.node-node.ensures.0, c.node-node.ensures.1) at c.step.ensures) c.put_step_row.ensures

pub returns : goal.returns
returns c =
    job_here c.args.self.now.listable c.requires (rw (c.node-node.ensures.0, c.node-node.ensures.1) at c.first.ensures.0)
    (rw (c.node-node.ensures.0, c.node-node.ensures.1) at c.tasks.ensures.0) c.in-Some.ensures
    (rw (c.node-node.ensures.0, c.node-node.ensures.1) at c.steps-k.ensures.0) c.if-x-k.false
    (rw (c.node-node.ensures.0, c.node-node.ensures.1) at c.job.ensures) c.put_job_row.ensures
