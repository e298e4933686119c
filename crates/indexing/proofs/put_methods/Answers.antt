-- `indexing::put_methods` meets its contract. The loop's invariant: the methods of these jobs below m are written. The measure is the
-- methods left. Assumes nothing.
use native.Mathlib.Omega.{arith}
use lib.ListN.{length}
use Rattle.table.specs.Layout.{table_in}
use Rattle.indexing.proofs.Loops.{picked_none, picked_room, picked_more, picked_all, is_method, method_test, below}
use Rattle.indexing.proofs.put_methods.Goals as goal

pub loop-m-init : goal.loop-m-init
loop-m-init c =
    picked_none (is_method (table_in c.args.ws.now) c.args.jobs) (length (table_in c.args.ws.now).methods) c.args.out.now c.args.at c.requires.1

pub put_if-a-requires : goal.put_if-a-requires
put_if-a-requires c =
    picked_room c.loop-m.invariant (method_test (table_in c.args.ws.now) c.args.jobs c.loop-m.m c.job_of.ensures c.holds.ensures)
    (below c.methods-m-end.ensures c.loop-m-test.true)

pub loop-m-preserved : goal.loop-m-preserved
loop-m-preserved c =
    picked_more c.loop-m.invariant (method_test (table_in c.args.ws.now) c.args.jobs c.loop-m.m c.job_of.ensures c.holds.ensures)
    (below c.methods-m-end.ensures c.loop-m-test.true) c.put_if-a.ensures

pub returns : goal.returns
returns c = picked_all c.loop-m.invariant (omega (arith, c.methods-m-end.ensures, c.loop-m-test.false))
