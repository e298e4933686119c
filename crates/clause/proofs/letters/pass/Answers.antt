use native.Mathlib.Omega.{arith}
use Rattle.shape.proofs.Nodes.{few_steps}
use Rattle.shape.proofs.Structs.{in_node}
use Rattle.clause.proofs.letters.pass.Goals as goal

pub own_variable-requires : goal.own_variable-requires
own_variable-requires c = omega (arith, c.requires.1, few_steps (in_node c.args.node.now))
