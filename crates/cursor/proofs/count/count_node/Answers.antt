use Rattle.cursor.proofs.count.count_node.Goals as goal

pub returns-in-1 : goal.returns-in-1
returns-in-1 c = rw (c.in-1.is, ← c.node.ensures.0, ← c.node.ensures.1) c.count_letters.ensures
