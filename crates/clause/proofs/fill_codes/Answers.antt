use native.Mathlib.Omega.{arith}
use mathlib.Core.Path.{ap}
use mathlib.Core.List.{List}
use Prim.Native.Nat.{ℕ}
use lib.ListN.{length}
use Rattle.shape.specs.Views.{table_of}
use Rattle.clause.proofs.Pushed.{same_lits, alone}
use Rattle.clause.proofs.Cases.{root_there, there, letter_there, row_there, node_lits, start_fact, start_lits}
use Rattle.clause.proofs.fill_codes.Goals as goal

pub node-requires : goal.node-requires
node-requires c = (root_there c.args.e.now.indexed).there

pub node_clause-requires : goal.node_clause-requires
node_clause-requires c =
    let n = c.node-in-1 in (
      omega (arith, ap (λ (o : List ℕ). length o) c.clear.ensures),
      letter_there n.result n.ensures.0 n.ensures.1 c.args.g (rw c.in-1.is at c.requires.0),
      row_there n.result n.ensures.0 n.ensures.1 c.args.g c.args.x c.args.y c.args.i (rw c.in-1.is at c.requires.1),
    )

pub start-requires : goal.start-requires
start-requires c =
    let h = there c.args.e.now.indexed c.requires.0 c.args.x c.args.y c.args.i c.requires.1 in (
      omega (arith, ap (λ (o : List ℕ). length o) c.clear.ensures),
      omega (
        arith,
        start_fact (table_of c.args.e.now) c.args.n c.args.x c.args.y c.args.i c.requires.0.group c.in-2.is h.in_row,
        c.args.e.now.indexed.accepted.limits.facts,
      ),
    )

pub returns-in-1 : goal.returns-in-1
returns-in-1 c =
    let n = c.node-in-1 in
    rw c.in-1.is (
    alone c.clear.new.self _ c.clear.ensures
    (same_lits c.clear.new.self (node_lits n.result n.ensures.0 n.ensures.1 c.args.g c.args.x c.args.y c.args.i) c.node_clause.ensures)
    )

pub returns-in-2 : goal.returns-in-2
returns-in-2 c =
    alone c.clear.new.self _ c.clear.ensures
    (same_lits c.clear.new.self (start_lits (table_of c.args.e.now) c.args.n c.args.x c.args.y c.args.i c.requires.0.group c.in-2.is) c.start.ensures)
