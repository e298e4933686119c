-- `bitset::rank` meets its contract. The members in the words before that of i are counted by `size`, those in its word by its digits below that of i.
-- Assumes nothing.
use Rattle.std.proofs.Common.{arith}
use Rattle.bitset.proofs.Members.{length_below, rank_within, rank_past}
use Rattle.bitset.proofs.rank.Goals as goal

pub returns-then-k-ws : goal.returns-then-k-ws
returns-then-k-ws c =
    rank_within c.args.ws.now c.args.i _ _ c.ranges.i.fits c.if-k-ws.true
    c.size.ensures
    c.single.ensures

pub overflow_add-result : goal.overflow_add-result
overflow_add-result c =
    omega (arith, returns-then-k-ws c, length_below c.args.ws.now c.args.i, c.ranges.i.fits)

pub returns-else-k-ws : goal.returns-else-k-ws
returns-else-k-ws c =
    rank_past c.args.ws.now c.args.i _ c.ranges.i.fits c.if-k-ws.false c.size-else-k-ws.ensures
