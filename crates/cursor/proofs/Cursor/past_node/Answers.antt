use native.Mathlib.Omega.{arith}
use Rattle.cursor.proofs.Moves.{rule_last, rule_empty, rule_next, few_after}
use Rattle.cursor.proofs.Cursor.past_node.Goals as goal
use Rattle.cursor.proofs.Cursor.past_node.Goals.{then-r-eq4-via-then-r-eq4, then-r-eq4-via-else-r-eq4+then-nodes_in-eq0}

pub overflow_add-n : goal.overflow_add-n
overflow_add-n c = omega (arith, few_after c.args.e.now.indexed c.requires)

pub returns-then-r-eq4 : goal.returns-then-r-eq4
returns-then-r-eq4 c =
    rw c.the_end.ensures (elim c.then-r-eq4.branch [
      | then-r-eq4-via-then-r-eq4 w ↦ rule_last c.args.e.now.indexed c.requires c.nodes_in.ensures.0 c.if-n-nodes_in.false w.if-r-eq4.true
      | then-r-eq4-via-else-r-eq4+then-nodes_in-eq0 w ↦ rule_empty c.args.e.now.indexed c.requires c.nodes_in.ensures.0 c.if-n-nodes_in.false
          w.if-r-eq4.false w.nodes_in-else-r-eq4.ensures.0 w.if-nodes_in-eq0.true
    ])

pub returns : goal.returns
returns c =
    rw c.row_start-2.ensures (rule_next c.args.e.now.indexed c.requires c.nodes_in.ensures.0 c.if-n-nodes_in.false c.if-r-eq4.false
    c.nodes_in-else-r-eq4.ensures.0 c.if-nodes_in-eq0.false)
