-- `programs::refused_part` meets its contract: the one line, or none behind it.
-- Assumes nothing.
use Rattle.std.proofs.Common.{◌∷◌, [], arith}
use Rattle.unmet.specs.Number.{number_of}
use Rattle.programs.specs.Output.{refused_line}
use Rattle.programs.proofs.Lines.{number_length, refused_length}
use Rattle.programs.proofs.Writing.{part_past, part_one}
use Rattle.programs.proofs.refused_part.Goals as goal

pub returns-then-line-ne0 : goal.returns-then-line-ne0
returns-then-line-ne0 c = part_past (refused_line (number_of c.args.unmet) ∷ []) c.args.line c.args.text.now (omega (arith, c.if-line-ne0.true))

pub returns : goal.returns
returns c =
    rw c.if-line-ne0.false
    (part_one (omega (arith, refused_length (number_of c.args.unmet) 19 (number_length c.args.unmet), c.requires)) c.put_refused.ensures)
