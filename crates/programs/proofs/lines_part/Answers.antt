-- `programs::lines_part` meets its contract: what the text call says.
-- Assumes nothing.
use Rattle.programs.proofs.Writing.{lines_none, lines_some}
use Rattle.programs.proofs.lines_part.Goals as goal

pub returns-in-Err : goal.returns-in-Err
returns-in-Err c =
    lines_none c.args.file.now c.args.line c.args.text.now c.requires.1 c.requires.0.2 (rw c.in-Err.is at c.write_formula.ensures.0)
    c.write_formula.ensures.1

pub returns-in-Ok : goal.returns-in-Ok
returns-in-Ok c =
    lines_some c.args.file.now c.args.line c.args.text.now c.requires.1 c.requires.0.2 (rw c.in-Ok.is at c.write_formula.ensures.0)
    c.write_formula.ensures.1
