-- `indexing::fill` meets its contract: four writes, one behind the other.
-- Assumes nothing.
use Rattle.indexing.proofs.Whole.{index_put}
use Rattle.indexing.proofs.fill.Goals as goal

pub returns : goal.returns
returns c =
    index_put c.requires.0 c.requires.1 c.put_words-a.ensures c.put_nodes-b.ensures c.put_slots-d.ensures c.put_meanings.ensures
