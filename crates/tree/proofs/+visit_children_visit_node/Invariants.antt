-- One level less below a node; at one level, one child less to go.
use Rattle.std.proofs.Common.{◌+◌, ◌*◌}
use Rattle.tree.proofs.+visit_children_visit_node.Given as goal

abbrev pub decreases-visit_children : goal.decreases-visit_children
decreases-visit_children l = l.left * 16 + l.m + 1

abbrev pub decreases-visit_node : goal.decreases-visit_node
decreases-visit_node l = l.left * 16
