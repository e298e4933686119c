use Rattle.shape.specs.Views.{table_of}
use Rattle.cursor.proofs.Counts.{sought_start, sought_past_node}
use Rattle.cursor.proofs.seek_node.Goals as goal

pub loop-cursor-init : goal.loop-cursor-init
loop-cursor-init c = sought_start (table_of c.args.e.now) c.args.j c.row_start-cursor.ensures

pub loop-cursor-preserved : goal.loop-cursor-preserved
loop-cursor-preserved c =
    sought_past_node c.loop-cursor.invariant c.loop-cursor-test.true c.count_node-m.ensures.0 c.if-left-m.false c.past_node-cursor.ensures
