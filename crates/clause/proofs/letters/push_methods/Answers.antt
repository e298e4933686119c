use native.Mathlib.Omega.{arith}
use Rattle.shape.specs.Views.{table_of, flat}
use Rattle.places.specs.Flat.{method_vars_at}
use Rattle.clause.proofs.Loops.{passed_long}
use Rattle.clause.proofs.Turns.{of_job, methods_more, methods_all}
use Rattle.clause.proofs.letters.push_methods.Goals as goal

pub push_if-requires : goal.push_if-requires
push_if-requires c =
    let T = table_of c.args.node.now.encoded in
    let N = flat c.args.node.now in (
      omega (
        arith,
        passed_long (of_job T N c.args.j) (method_vars_at N) c.args.out.now c.loop-x.x c.loop-x.invariant,
        c.loop-x-test.true,
        c.methods-x-end.ensures.1,
        c.requires,
      ),
      omega (arith, c.method_variable.ensures.2),
    )

pub loop-x-preserved : goal.loop-x-preserved
loop-x-preserved c =
    methods_more (table_of c.args.node.now.encoded) (flat c.args.node.now) c.args.j c.methods-x-end.ensures.0 c.args.out.now c.loop-x.x c.loop-x.invariant
    c.loop-x-test.true c.method_variable.ensures.0 c.method.ensures.0 c.job_of-job.ensures c.push_if.ensures

pub returns : goal.returns
returns c =
    methods_all (table_of c.args.node.now.encoded) (flat c.args.node.now) c.args.j c.methods-x-end.ensures.0 c.args.out.now c.loop-x.x c.loop-x.invariant
    c.loop-x-test.false
