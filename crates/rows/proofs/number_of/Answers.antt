use Rattle.rows.proofs.Counts.{looked}
use Rattle.rows.proofs.number_of.Goals as goal

pub returns : goal.returns
returns c = looked _ _ c.look_up.result c.ok_or.result c.look_up.ensures.number c.ok_or.ensures.value
