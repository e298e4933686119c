use native.Mathlib.Omega.{arith}
use Rattle.shape.proofs.Nodes.{few, few_steps, step_is}
use Rattle.shape.proofs.Structs.{in_node}
use Rattle.shape.proofs.node.Node.step.Goals as goal

pub own_variable-requires : goal.own_variable-requires
own_variable-requires c = omega (arith, c.requires, few_steps (in_node c.args.self.now))

pub meaning-requires : goal.meaning-requires
meaning-requires c = (few c.args.self.now.encoded.indexed, c.own_variable.ensures.1, c.own_variable.ensures.2)

pub returns : goal.returns
returns c = step_is (in_node c.args.self.now) c.args.x c.requires c.own_variable.ensures.0 c.meaning.ensures
