use native.Mathlib.Omega.{arith}
use Rattle.questions.proofs.Indexing.{index_most}
use Rattle.answer.proofs.list_lines.Goals as goal

pub list_by-requires-else-index_words-le-SMALL_INDEX :
    goal.list_by-requires-else-index_words-le-SMALL_INDEX
list_by-requires-else-index_words-le-SMALL_INDEX c =
    (index_most c.args.accepted.now.owned, omega arith, c.requires.0, c.requires.1)
