-- `programs::print_parts` meets its contract: each part lies within the text, and fewer lines are left behind it.
-- Assumes nothing.
use Rattle.std.proofs.Common.{sym, subst, arith}
use Rattle.std.specs.Io.KnownBytes.{Appends}
use Rattle.std.proofs.KnownBytes.{Appends-trans}
use Rattle.programs.specs.Output.{formula_lines}
use Rattle.programs.proofs.Writing.{part_length, part_continues, part_ends, formula_on}
use Rattle.programs.proofs.print_parts.Goals as goal

pub returns-then-part-clause-written : goal.returns-then-part-clause-written
returns-then-part-clause-written g c =
    let ends = part_ends (formula_lines c.args.file.now) c.loop-line.line c.loop-line.text c.formula_part-part.ensures c.if-part.true in
    subst (Appends (g.W.Write.contents c.args.out.now) (g.W.Write.contents c.write_all.new.self)) (sym ends)
    (Appends-trans _ _ _ _ _ c.loop-line.invariant.1 c.in_ok-write_all.ensures.bytes)

pub loop-line-smaller : goal.loop-line-smaller
loop-line-smaller g c = formula_on c.args.file.now c.loop-line.line c.loop-line.invariant.0 c.formula_part-part.ensures c.if-part.false

pub loop-line-preserved : goal.loop-line-preserved
loop-line-preserved g c =
    let length = part_length (formula_lines c.args.file.now) c.loop-line.line c.loop-line.text c.formula_part-part.ensures in
    let continues = part_continues (formula_lines c.args.file.now) c.loop-line.line c.loop-line.text c.formula_part-part.ensures in (
      omega (arith, length, c.loop-line.invariant.0),
      subst (Appends (g.W.Write.contents c.args.out.now) (g.W.Write.contents c.write_all.new.self)) (sym continues)
          (Appends-trans _ _ _ _ _ c.loop-line.invariant.1 c.in_ok-write_all.ensures.bytes),
    )
