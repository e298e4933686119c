-- One node more is written.
use native.Mathlib.Omega.{arith}
use Rattle.places.specs.ClausePlace.{no_node}
use Rattle.index.specs.Index.{meanings, source}
use Rattle.indexing.proofs.Loops.{each_none, each_room, each_more, each_all}
use Rattle.indexing.proofs.Structs.{one}
use Rattle.indexing.specs.Views.{table_of}
use Rattle.indexing.proofs.grown.Grown.put_meanings.Goals as goal

pub loop-number-init : goal.loop-number-init
loop-number-init c = each_none meanings (source (table_of c.args.self.now)).nodes c.args.out.now c.args.at c.requires

pub put_meanings-a-requires : goal.put_meanings-a-requires
put_meanings-a-requires c =
    each_room c.loop-number.invariant no_node (one c.args.self.now c.nodes-number-end.ensures.0 c.loop-number-test.true).inside

pub loop-number-preserved : goal.loop-number-preserved
loop-number-preserved c =
    each_more c.loop-number.invariant no_node (one c.args.self.now c.nodes-number-end.ensures.0 c.loop-number-test.true).inside c.put_meanings-a.ensures

pub returns : goal.returns
returns c = each_all c.loop-number.invariant (omega (arith, c.loop-number-test.false, c.nodes-number-end.ensures.0))
