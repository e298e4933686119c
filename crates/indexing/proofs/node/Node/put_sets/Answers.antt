-- By what the record's words are.
use Rattle.indexing.proofs.Whole.{sets_put}
use Rattle.indexing.proofs.Structs.{here}
use Rattle.indexing.proofs.node.Node.put_sets.Goals as goal

pub returns : goal.returns
returns c = sets_put (here c.args.self.now) c.word.ensures c.jobs.ensures c.put_words.ensures
