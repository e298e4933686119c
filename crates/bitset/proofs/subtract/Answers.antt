-- `bitset::subtract` meets its contract, word by word.
-- Assumes nothing.
use Rattle.std.proofs.Common.{arith}
use Rattle.bitset.proofs.Loops.{combined_none, combined_word, combined_end}
use Rattle.bitset.proofs.subtract.Goals as goal

pub loop-k-init : goal.loop-k-init
loop-k-init c = combined_none _ _

pub loop-k-preserved : goal.loop-k-preserved
loop-k-preserved c = combined_word c.loop-k.invariant (omega arith)

pub returns : goal.returns
returns c = combined_end c.loop-k.invariant c.min-k-end.ensures c.loop-k-test.false
