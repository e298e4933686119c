use Rattle.questions.proofs.Indexing.{words_are}
use Rattle.questions.proofs.Accepted.index_words.Goals as goal

pub returns : goal.returns
returns c = words_are c.args.self.now.owned
