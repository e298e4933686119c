-- The number of a node is small.
use native.Mathlib.Omega.{arith}
use Rattle.indexing.proofs.Structs.{few_here}
use Rattle.indexing.proofs.node.Node.word.Goals as goal

pub overflow_mul-self : goal.overflow_mul-self
overflow_mul-self c = omega (arith, few_here c.args.self.now)

pub overflow_add-self : goal.overflow_add-self
overflow_add-self c = omega (arith, few_here c.args.self.now)
