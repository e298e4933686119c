use native.Mathlib.Omega.{arith}
use Rattle.shape.specs.Views.{flat}
use Rattle.places.specs.Flat.{tasks_at}
use Rattle.clause.proofs.Loops.{passed_long}
use Rattle.clause.proofs.Turns.{any_task, tasks_more, tasks_all}
use Rattle.clause.proofs.letters.push_tasks.Goals as goal

pub push-requires : goal.push-requires
push-requires c = (
  omega (
    arith,
    passed_long (any_task (flat c.args.node.now)) (tasks_at (flat c.args.node.now)) c.args.out.now c.loop-x.x c.loop-x.invariant,
    c.loop-x-test.true,
    c.tasks-x-end.ensures.1,
    c.requires,
  ),
  omega (arith, c.own_variable.ensures.2),
)

pub loop-x-preserved : goal.loop-x-preserved
loop-x-preserved c =
    tasks_more (flat c.args.node.now) c.tasks-x-end.ensures.0 c.args.out.now c.loop-x.x c.loop-x.invariant c.loop-x-test.true c.own_variable.ensures.0
    c.push.ensures

pub returns : goal.returns
returns c = tasks_all (flat c.args.node.now) c.tasks-x-end.ensures.0 c.args.out.now c.loop-x.x c.loop-x.invariant c.loop-x-test.false
