-- `listing::write` meets its contract. The loop's invariant: the rows of the first n nodes are written.
-- Assumes nothing.
use Rattle.listing.proofs.Loops.{went_none, went_ready, went_more, went_all}
use Rattle.listing.proofs.write.Goals as goal

pub loop-n-init : goal.loop-n-init
loop-n-init c = went_none c.requires.0 c.args.e.now.indexed c.requires.1

pub put_node-p-requires : goal.put_node-p-requires
put_node-p-requires c = went_ready c.requires.0 c.args.e.now.indexed c.loop-n.invariant c.nodes_in-n-end.ensures.0 c.loop-n-test.true

pub loop-n-preserved : goal.loop-n-preserved
loop-n-preserved c =
    went_more c.requires.0 c.args.e.now.indexed c.loop-n.invariant c.nodes_in-n-end.ensures.0 c.loop-n-test.true c.put_node-p.auto.out c.put_node-p.ensures

pub returns : goal.returns
returns c = went_all c.requires.0 c.args.e.now.indexed c.loop-n.invariant c.nodes_in-n-end.ensures.0 c.loop-n-test.false
