-- `model::row::up_row_holds` meets its contract. By the node's tasks, then the child's.
-- Assumes nothing.
use mathlib.Core.Path.{sym, ◌∙◌}
use Rattle.lists.proofs.Bool.{said_no}
use Rattle.model.proofs.Satisfied.{node_of, child_of, up_node, up_child}
use Rattle.model.proofs.row.up_row_holds.Goals as goal

pub returns-then-has_task : goal.returns-then-has_task
returns-then-has_task c =
    λ t. up_node c.requires.1 c.requires.2 (rw (← c.node-node.ensures.0, ← c.node-node.ensures.1) (sym c.has_task.ensures ∙ c.if-has_task.true))

pub returns-else-has_task : goal.returns-else-has_task
returns-else-has_task c =
    λ t. up_child c.requires.1 c.requires.2 {m = c.child.result.number} c.args.e.now.indexed (node_of c.args.e.now.indexed c.requires.0 c.requires.1)
    (child_of c.args.e.now.indexed c.requires.0 c.requires.1 c.requires.2)
    (rw (c.node-node.ensures.0, c.node-node.ensures.1) at c.child.ensures.1)
    (rw (c.child.ensures.0, c.node-node.ensures.0) at (said_no c.has_task-else-has_task.ensures t))
