use native.Mathlib.Omega.{arith}
use Rattle.questions.proofs.Indexing.{index_most}
use Rattle.answer.proofs.is_model.Goals as goal

pub is_model_by-requires-else-index_words-le-SMALL_INDEX :
    goal.is_model_by-requires-else-index_words-le-SMALL_INDEX
is_model_by-requires-else-index_words-le-SMALL_INDEX c =
    (index_most c.args.accepted.now.owned, omega arith)
