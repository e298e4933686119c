use Rattle.tree.proofs.Loops.{some_test}
use Rattle.tree.proofs.has_some.Goals as goal

pub returns : goal.returns
returns c = some_test c.args.w c.ranges.w.fits
