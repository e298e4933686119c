use Rattle.tree.proofs.Loops.{put_none, put_five}
use Rattle.tree.proofs.put_record.Goals as goal

pub returns-then-k-out : goal.returns-then-k-out
returns-then-k-out c = put_five c.ranges.steps.fits c.ranges.jobs.fits c.put_words.ensures

pub returns-else-k-out : goal.returns-else-k-out
returns-else-k-out c = put_none c.if-k-out.false
