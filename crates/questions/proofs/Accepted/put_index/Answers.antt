use Rattle.questions.proofs.Indexing.{stands}
use Rattle.questions.proofs.Accepted.put_index.Goals as goal

pub fill-requires : goal.fill-requires
fill-requires c =
    (stands c.args.self.now.owned, c.args.self.now.owned.counts, c.requires)
