-- `model::row::is_row_satisfied` meets its contract. The loop's invariant: the clauses of the row before place i are satisfied.
-- Assumes nothing.
use Rattle.planning.specs.Model.{value, truths_in}
use Rattle.lists.proofs.Bool.{said_yes}
use Rattle.model.proofs.Clauses.{row_over, row_told, along_more}
use Rattle.model.proofs.row.is_row_satisfied.Goals as goal
use Rattle.model.proofs.row.is_row_satisfied.Goals.{then-c-via-then-c, then-c-via-else-c+then-row_holds}

pub returns-then-c : goal.returns-then-c
returns-then-c c =
    elim c.then-c.branch [
      | then-c-via-then-c w ↦ row_over (value (truths_in c.args.values.now)) c.requires w.if-c.true
      | then-c-via-else-c+then-row_holds w ↦ row_told c.requires w.if-c.false (w.row_holds.ensures w.if-row_holds.true)
    ]

pub loop-i-preserved : goal.loop-i-preserved
loop-i-preserved c = along_more c.requires c.loop-i.invariant c.loop-i-test.true (said_yes c.is_satisfied.ensures c.if-not-is_satisfied.false-raw)
