use native.Mathlib.Omega.{arith}
use Rattle.questions.proofs.Indexing.{index_most}
use Rattle.encoding.proofs.write_lines.Goals as goal

pub lines_by-requires-else-index_words-le-SMALL_INDEX :
    goal.lines_by-requires-else-index_words-le-SMALL_INDEX
lines_by-requires-else-index_words-le-SMALL_INDEX c =
    (index_most c.args.accepted.now.owned, omega arith)
