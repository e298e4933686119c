use native.Mathlib.Omega.{arith}
use Rattle.table.proofs.Lookup.{task_none, task_place, task_there}
use Rattle.table.proofs.body_task.Goals as goal

pub overflow_add-j : goal.overflow_add-j
overflow_add-j c = omega (arith, task_place c.args.ws.now c.args.m c.args.j _ c.body_size.ensures c.if-j-body_size.true)

pub method_word-k-requires : goal.method_word-k-requires
method_word-k-requires c = omega (arith, task_place c.args.ws.now c.args.m c.args.j _ c.body_size.ensures c.if-j-body_size.true)

pub returns-then-j-body_size : goal.returns-then-j-body_size
returns-then-j-body_size c =
    task_there c.args.ws.now c.args.m c.args.j _ c.body_size.ensures c.if-j-body_size.true _ _ c.count.ensures c.method_word-k.ensures c.task_at.ensures

pub returns-else-j-body_size : goal.returns-else-j-body_size
returns-else-j-body_size c = task_none c.args.ws.now c.args.m c.args.j _ c.body_size.ensures c.if-j-body_size.false
