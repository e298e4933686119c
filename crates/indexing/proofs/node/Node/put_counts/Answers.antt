-- By the sizes of the sets that the record's words hold.
use Rattle.indexing.proofs.Whole.{counts_put}
use Rattle.indexing.proofs.Structs.{here}
use Rattle.indexing.proofs.node.Node.put_counts.Goals as goal

pub returns : goal.returns
returns c =
    counts_put (here c.args.self.now) c.word.ensures c.jobs-jobs.ensures c.size-steps.ensures.0 c.size.ensures.0 c.count_methods.ensures.0
    c.put_words.ensures
