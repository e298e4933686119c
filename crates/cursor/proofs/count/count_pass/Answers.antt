use native.Mathlib.Omega.{arith}
use Rattle.shape.specs.Views.{flat}
use Rattle.cursor.proofs.Counts.{passed}
use Rattle.cursor.proofs.count.count_pass.Goals as goal

pub overflow_sub-result : goal.overflow_sub-result
overflow_sub-result c = (passed (flat c.args.node.now) c.children.ensures.0 c.if-children-eq0.false c.requires.0 c.width.ensures.0).0

pub returns : goal.returns
returns c = (
  (passed (flat c.args.node.now) c.children.ensures.0 c.if-children-eq0.false c.requires.0 c.width.ensures.0).1,
  omega (arith, c.requires.1),
)
