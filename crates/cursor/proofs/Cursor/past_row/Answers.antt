use Rattle.cursor.proofs.Moves.{row_next, column_next, letter_next, node_passed}
use Rattle.cursor.proofs.Cursor.past_row.Goals as goal

pub returns-then-self-ys_in : goal.returns-then-self-ys_in
returns-then-self-ys_in c = rw c.row_start.ensures (row_next c.args.e.now.indexed c.requires c.ys_in.ensures.0 c.ys_in.ensures.1 c.if-self-ys_in.true)

pub returns-then-self-xs_in : goal.returns-then-self-xs_in
returns-then-self-xs_in c =
    rw c.row_start-then-self-xs_in.ensures (column_next c.args.e.now.indexed c.requires c.ys_in.ensures.0 c.if-self-ys_in.false c.xs_in.ensures.0
    c.xs_in.ensures.1 c.if-self-xs_in.true)

pub returns-then-self-groups_in : goal.returns-then-self-groups_in
returns-then-self-groups_in c =
    rw c.row_start-then-self-groups_in.ensures (letter_next c.args.e.now.indexed c.requires c.ys_in.ensures.0 c.if-self-ys_in.false c.xs_in.ensures.0
    c.if-self-xs_in.false c.groups_in.ensures.0 c.if-self-groups_in.true)

pub returns : goal.returns
returns c =
    node_passed c.args.e.now.indexed c.requires c.ys_in.ensures.0 c.if-self-ys_in.false c.xs_in.ensures.0 c.if-self-xs_in.false c.groups_in.ensures.0
    c.if-self-groups_in.false c.past_node.ensures
