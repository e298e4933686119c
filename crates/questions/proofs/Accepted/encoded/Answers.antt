use Rattle.questions.proofs.Indexing.{indexed}
use Rattle.questions.proofs.Accepted.encoded.Goals as goal

pub invariant_of-result : goal.invariant_of-result
invariant_of-result c =
    record { indexed = indexed c.args.self.now.owned c.put_index-n.ensures }
