use native.Mathlib.Omega.{arith}
use Rattle.shape.proofs.Nodes.{few, few_methods, method_is}
use Rattle.shape.proofs.Structs.{in_node}
use Rattle.shape.proofs.node.Node.method.Goals as goal

pub method_variable-requires : goal.method_variable-requires
method_variable-requires c = omega (arith, c.requires, few_methods (in_node c.args.self.now))

pub meaning-requires : goal.meaning-requires
meaning-requires c = (few c.args.self.now.encoded.indexed, c.method_variable.ensures.1, c.method_variable.ensures.2)

pub returns : goal.returns
returns c = method_is (in_node c.args.self.now) c.requires c.method_variable.ensures.0 c.meaning.ensures
