use Rattle.tree.proofs.Loops.{gathering_none, gathering_again, gathering_all}
use Rattle.table.specs.Layout.{table_in}
use Rattle.tree.proofs.child_label.Goals as goal

pub loop-m-init : goal.loop-m-init
loop-m-init c = gathering_none (table_in c.args.ws.now) c.requires.0 c.args.l c.args.i _ c.inherited.ensures

pub loop-m-preserved : goal.loop-m-preserved
loop-m-preserved c = gathering_again c.args.l c.requires.0 c.loop-m.invariant c.methods-m-end.ensures c.loop-m-test.true c.with_method-child.ensures

pub returns : goal.returns
returns c = gathering_all c.requires.0 c.requires.1 c.loop-m.invariant c.methods-m-end.ensures c.loop-m-test.false
