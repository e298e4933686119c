use Rattle.tree.proofs.Loops.{one_child, no_child, some_children}
use Rattle.table.specs.Layout.{table_in}
use Rattle.tree.proofs.child_count.Goals.{else-n-eq0-via-then-n-eq0+else-has_some, else-n-eq0-via-else-n-eq0}
use Rattle.tree.proofs.child_count.Goals as goal

pub returns-then-has_some : goal.returns-then-has_some
returns-then-has_some c =
    one_child (table_in c.args.ws.now) c.args.l c.requires c.longest-n.ensures c.if-n-eq0.true c.has_some.ensures c.if-has_some.true

pub returns-else-n-eq0 : goal.returns-else-n-eq0
returns-else-n-eq0 c =
    elim c.else-n-eq0.branch [
      | else-n-eq0-via-then-n-eq0+else-has_some w ↦
          no_child (table_in c.args.ws.now) c.args.l c.requires c.longest-n.ensures w.if-n-eq0.true w.has_some.ensures w.if-has_some.false
      | else-n-eq0-via-else-n-eq0 w ↦ some_children (table_in c.args.ws.now) c.args.l c.requires c.longest-n.ensures w.if-n-eq0.false
    ]
