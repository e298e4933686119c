-- A visit of a node and of the children of one: what each branch adds to the count and the records, by the laws of `Visits`.
use native.Mathlib.Omega.{arith}
use mathlib.Core.Path.{sym, ◌∙◌}
use Rattle.lists.proofs.Order.{ne_lt}
use Rattle.table.specs.Layout.{table_in}
use Rattle.tree.specs.Visit.{label_in}
use Rattle.tree.proofs.Visits.{part_full, part_slot, part_inner, parts_none, parts_more, parts_late}
use Rattle.tree.proofs.Whole.{child_inside}
use Rattle.tree.proofs.+visit_children_visit_node.Goals as goal

pub visit_children-returns-then-m-eq0 : goal.visit_children-returns-then-m-eq0
visit_children-returns-then-m-eq0 t c =
    let a = c.args in
    parts_none (table_in a.ws.now) a.left a.parent a.i (label_in a.l) a.m c.requires.2 c.if-m-eq0.true

pub visit_children-visit_node-requires : goal.visit_children-visit_node-requires
visit_children-visit_node-requires t c =
    let a = c.args in
    let inside = child_inside (table_in a.ws.now) (label_in a.l) a.i c.child_label-child.result c.child_label-child.ensures in
    (omega arith, (c.requires.0, inside, c.requires.2, c.requires.4))

pub visit_children-returns-in_err-d : goal.visit_children-returns-in_err-d
visit_children-returns-in_err-d t c =
    let a = c.args in
    rw c.from_residual.ensures
    (parts_late (table_in a.ws.now) a.left a.parent a.i (label_in a.l) a.m c.if-m-eq0.false (rw c.child_label-child.ensures at (c.in_err-d.ensures {u = tt})))

pub visit_children-returns : goal.visit_children-returns
visit_children-returns t c =
    let a = c.args in
    parts_more (table_in a.ws.now) a.left a.parent a.i (label_in a.l) a.m c.visit_children.result c.if-m-eq0.false
    (rw c.child_label-child.ensures at (c.in_ok-d.ensures {u = tt})) c.visit_children.ensures

pub visit_node-returns-then-c-eq1024 : goal.visit_node-returns-then-c-eq1024
visit_node-returns-then-c-eq1024 t c =
    let a = c.args in
    part_full (table_in a.ws.now) a.left a.parent a.l c.if-c-eq1024.true

pub visit_node-returns-then-is_inner : goal.visit_node-returns-then-is_inner
visit_node-returns-then-is_inner t c =
    let a = c.args in
    part_inner (table_in a.ws.now) a.left a.parent a.l c.visit_children.result (sym c.is_inner.ensures ∙ c.if-is_inner.true)
    (ne_lt c.requires.2.nodes c.if-c-eq1024.false) c.requires.3 c.child_count-n.ensures.0
    (rw c.depth.ensures at c.put_record.ensures) c.with_inner.ensures c.visit_children.ensures

pub visit_node-returns-else-is_inner : goal.visit_node-returns-else-is_inner
visit_node-returns-else-is_inner t c =
    let a = c.args in
    part_slot (table_in a.ws.now) a.left a.parent a.l (sym c.is_inner.ensures ∙ c.if-is_inner.false)
    (ne_lt c.requires.2.nodes c.if-c-eq1024.false) (rw c.depth.ensures at c.put_record-else-is_inner.ensures) c.with_slot.ensures
