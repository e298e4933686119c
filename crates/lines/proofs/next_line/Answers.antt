use Rattle.lines.proofs.Parted.{ended_none, ended_some}
use Rattle.lines.proofs.next_line.Goals as goal

pub returns-in_err-behind-clause-lines : goal.returns-in_err-behind-clause-lines
returns-in_err-behind-clause-lines c =
    rw (c.from_residual.ensures) (ended_none 10 c.args.text.now _ (rw (c.in_err-behind.was) at (c.split_first.ensures.parts)))

pub returns-clause-lines : goal.returns-clause-lines
returns-clause-lines c = ended_some 10 c.args.text.now _ _ (rw (c.in_ok-behind.was) at (c.split_first.ensures.parts))
