use native.Mathlib.Omega.{arith}
use Rattle.questions.proofs.Indexing.{index_most}
use Rattle.encoding.proofs.count_clauses.Goals as goal

pub clauses_by-requires-else-index_words-le-SMALL_INDEX :
    goal.clauses_by-requires-else-index_words-le-SMALL_INDEX
clauses_by-requires-else-index_words-le-SMALL_INDEX c =
    (index_most c.args.accepted.now.owned, omega arith)
