-- `programs::formula_part` meets its contract: a refusal, or the lines.
-- Assumes nothing.
use Rattle.programs.proofs.Writing.{lines_refused}
use Rattle.programs.proofs.formula_part.Goals as goal

pub lines_part-requires : goal.lines_part-requires
lines_part-requires c = ((c.in-Ok.counts.nodes, c.in-Ok.counts.variables, rw c.in-Ok.is at c.check.ensures), c.requires)

pub returns-in-Err : goal.returns-in-Err
returns-in-Err c = lines_refused c.args.file.now (rw c.in-Err.is at c.check.ensures) c.refused_part.ensures
