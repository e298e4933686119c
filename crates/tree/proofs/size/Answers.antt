use Rattle.tree.proofs.Loops.{size_word}
use Rattle.tree.proofs.size.Goals as goal

pub returns : goal.returns
returns c = size_word c.args.w c.size.ensures
