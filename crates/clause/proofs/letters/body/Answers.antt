use native.Mathlib.Omega.{arith}
use Rattle.shape.proofs.Nodes.{few_methods}
use Rattle.shape.proofs.Structs.{in_node}
use Rattle.shape.specs.Views.{table_of}
use Rattle.clause.proofs.Tasks.{body_at}
use Rattle.clause.proofs.Pushed.{same_lits}
use Rattle.clause.proofs.letters.body.Goals as goal

pub method_variable-requires : goal.method_variable-requires
method_variable-requires c = omega (arith, c.requires.1, few_methods (in_node c.args.node.now))

pub returns : goal.returns
returns c = same_lits c.args.out.now
    (body_at (table_of c.args.node.now.encoded) c.args.node.now.number c.args.x c.args.y c.args.i c.method.ensures.0 c.body_task-named.ensures
    c.method_variable.ensures.0) c.at_child.ensures
