-- `writer::clause_fits` meets its contract: by what a line takes at most, or by its size.
-- Assumes nothing.
use mathlib.Core.Path.{sym, ◌∙◌}
use native.Mathlib.Omega.{arith}
use Rattle.lists.proofs.Bool.{leb_in}
use Rattle.writer.proofs.Loops.{line_short}
use lib.ListN.{length}
use Rattle.planning.specs.Text.{clause_line}
use Rattle.writer.specs.Literal.{clause_in}
use Rattle.writer.proofs.clause_fits.Goals as goal

pub returns-then-room-ge3000 : goal.returns-then-room-ge3000
returns-then-room-ge3000 c =
    let s = c.args.lits.now in
    leb_in 3000 c.args.room (omega (arith, c.if-room-ge3000.true))
    ∙ sym
    (leb_in (length (clause_line (clause_in s))) c.args.room
    (omega (arith, line_short s (λ i. (c.type_inv.lits i).fits) c.requires, c.if-room-ge3000.true)))
