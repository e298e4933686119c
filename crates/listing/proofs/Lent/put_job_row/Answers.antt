-- `listing::Lent::put_job_row` meets its contract: no row where no method is true, and else a short line with the first that is.
-- Assumes nothing.
use native.Mathlib.Omega.{arith}
use Rattle.shape.specs.Views.{table_of}
use Rattle.shape.proofs.Nodes.{few_nodes}
use Rattle.listing.proofs.Nodes.{methods_valued, no_method, job_listed, job_name_short, depth_low, depth_read}
use Rattle.listing.proofs.Lent.put_job_row.Goals as goal

pub first_true-requires : goal.first_true-requires
first_true-requires c =
    methods_valued c.args.self.now.listable c.requires.0 (rw (c.node-node.ensures.0, c.node-node.ensures.1) at c.first.ensures.0)
    (rw (c.node-node.ensures.0, c.node-node.ensures.1) at c.tasks.ensures.0) (rw (c.node-node.ensures.0, c.node-node.ensures.1) at c.methods.ensures.0)

pub returns-in_default : goal.returns-in_default
returns-in_default c =
    no_method c.args.self.now.listable c.requires.0 (rw (c.node-node.ensures.0, c.node-node.ensures.1) at c.first.ensures.0)
    (rw (c.node-node.ensures.0, c.node-node.ensures.1) at c.tasks.ensures.0) (rw (c.node-node.ensures.0, c.node-node.ensures.1) at c.methods.ensures.0)
    c.args.j c.in_default.ensures

pub overflow_mul-n : goal.overflow_mul-n
overflow_mul-n c =
    omega (arith, c.requires.0.there, few_nodes (table_of c.args.self.now.encoded) c.args.self.now.encoded.indexed.accepted)

pub offset_bounds-self-n : goal.offset_bounds-self-n
offset_bounds-self-n c =
    omega (arith, c.requires.0.there, few_nodes (table_of c.args.self.now.encoded) c.args.self.now.encoded.indexed.accepted)

pub bounds-self-n : goal.bounds-self-n
bounds-self-n c = depth_read c.args.self.now.listable c.requires.0

pub put_job-at-requires : goal.put_job-at-requires
put_job-at-requires c = (
  c.requires.0.room,
  depth_low c.args.self.now.listable c.requires.0 c.args.self.now.encoded.indexed c.requires.1,
  job_name_short c.args.self.now.listable c.requires.0 c.args.j c.job_name-name.ensures,
  omega (arith, c.method-m.ensures.1),
)

pub returns : goal.returns
returns c =
    job_listed c.args.self.now.listable c.requires.0 (rw (c.node-node.ensures.0, c.node-node.ensures.1) at c.first.ensures.0)
    (rw (c.node-node.ensures.0, c.node-node.ensures.1) at c.tasks.ensures.0) (rw (c.node-node.ensures.0, c.node-node.ensures.1) at c.methods.ensures.0)
    c.args.j c.in-Some.ensures (rw (c.node-node.ensures.0, c.node-node.ensures.1) at c.method-m.ensures.0) c.job_name-name.ensures c.put_job-at.ensures
