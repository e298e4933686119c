-- One node more is written.
use native.Mathlib.Omega.{arith}
use Rattle.indexing.proofs.Loops.{numbered_none, each_all, numbered_first, numbered_room, numbered_fits, numbered_more}
use Rattle.indexing.proofs.Structs.{one}
use Rattle.indexing.specs.Views.{table_of}
use Rattle.indexing.proofs.grown.Grown.put_nodes.Goals as goal

pub loop-number-init : goal.loop-number-init
loop-number-init c = numbered_none (table_of c.args.self.now) c.args.out.now c.args.at c.requires

pub put-a-requires : goal.put-a-requires
put-a-requires c =
    let t = one c.args.self.now c.nodes-number-end.ensures.0 c.loop-number-test.true in
    (numbered_first c.loop-number.invariant t, numbered_room c.loop-number.invariant t)

pub overflow_add-first : goal.overflow_add-first
overflow_add-first c =
    omega (arith, numbered_fits c.loop-number.invariant (one c.args.self.now c.nodes-number-end.ensures.0 c.loop-number-test.true) c.own-first.ensures)

pub loop-number-preserved : goal.loop-number-preserved
loop-number-preserved c =
    numbered_more c.loop-number.invariant (one c.args.self.now c.nodes-number-end.ensures.0 c.loop-number-test.true) c.put-a.ensures c.own-first.ensures

pub returns : goal.returns
returns c = each_all c.loop-number.invariant.each (omega (arith, c.loop-number-test.false, c.nodes-number-end.ensures.0))
