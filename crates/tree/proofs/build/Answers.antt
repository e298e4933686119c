use native.Mathlib.Omega.{arith}
use Rattle.table.specs.Layout.{table_in}
use Rattle.tree.proofs.Whole.{start_inside, start_built, no_count_lem}
use Rattle.tree.proofs.build.Goals as goal

pub visit_node-requires : goal.visit_node-requires
visit_node-requires c =
    let T = table_in c.args.ws.now in
    (c.requires, start_inside T c.requires c.root.ensures c.with.ensures, no_count_lem, omega (arith, c.depth.ensures))

pub returns : goal.returns
returns c = start_built (table_in c.args.ws.now) c.requires c.root.ensures c.with.ensures c.args.out.now c.visit_node.new.out c.visit_node.result c.depth.ensures c.visit_node.ensures
