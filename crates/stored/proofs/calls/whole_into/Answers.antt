-- `stored::calls::whole_into` meets its contract: fewer lines are left behind each part.
-- Assumes nothing.
use Rattle.std.proofs.Common.{arith}
use Rattle.programs.specs.Output.{formula_lines}
use Rattle.programs.proofs.Writing.{part_length, formula_on}
use Rattle.stored.proofs.calls.whole_into.Goals as goal

pub loop-part-smaller : goal.loop-part-smaller
loop-part-smaller g c = formula_on c.args.file.now c.loop-part.line c.loop-part.invariant c.formula_part-part.ensures c.if-part.false

pub loop-part-preserved : goal.loop-part-preserved
loop-part-preserved g c =
    omega (arith, part_length (formula_lines c.args.file.now) c.loop-part.line c.loop-part.text c.formula_part-part.ensures, c.loop-part.invariant)
