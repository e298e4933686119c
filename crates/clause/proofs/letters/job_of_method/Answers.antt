use native.Mathlib.Omega.{arith}
use Rattle.shape.proofs.Nodes.{few_methods}
use Rattle.shape.proofs.Structs.{in_node}
use Rattle.clause.proofs.letters.job_of_method.Goals as goal

pub method_variable-requires : goal.method_variable-requires
method_variable-requires c = omega (arith, c.requires.1, few_methods (in_node c.args.node.now))
