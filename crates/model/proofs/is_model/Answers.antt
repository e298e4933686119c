-- `model::is_model` meets its contract. The loop's invariant: all clauses before c are satisfied. The measure falls at every move.
-- Assumes nothing.
use mathlib.Core.Path.{refl}
use Rattle.lists.proofs.Bool.{said_no, said_yes}
use Rattle.cursor.proofs.Moves.{stands_of}
use Rattle.model.proofs.Clauses.{checking_none, checking_off, checking_row, checking_end}
use Rattle.model.proofs.is_model.Goals as goal

pub loop-c-init : goal.loop-c-init
loop-c-init c = checking_none c.seek-c.ensures

pub returns-then-not-is_row_satisfied : goal.returns-then-not-is_row_satisfied
returns-then-not-is_row_satisfied c =
    checking_off c.loop-c.invariant (stands_of c.loop-c.invariant.inside c.loop-c-test.true) c.is_row_satisfied.ensures
    (said_no refl c.if-not-is_row_satisfied.true-raw)

pub loop-c-preserved : goal.loop-c-preserved
loop-c-preserved c =
    checking_row c.loop-c.invariant (stands_of c.loop-c.invariant.inside c.loop-c-test.true) c.is_row_satisfied.ensures
    (said_yes refl c.if-not-is_row_satisfied.false-raw) c.past_row-c.ensures

pub returns : goal.returns
returns c = checking_end c.loop-c.invariant c.loop-c-test.false
