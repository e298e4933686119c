use Rattle.std.proofs.Common.{rules}
use Rattle.std.proofs.lemmas.Result.{err_from_is_err_and}
use Rattle.rows.proofs.Counts.{asked_err}
use Rattle.rows.proofs.StepLines.{needs_out, sets_out, clears_out, step_stands}
use Rattle.rows.proofs.put_step.Goals as goal

pub returns-in_err-needs : goal.returns-in_err-needs
returns-in_err-needs c =
    let p = err_from_is_err_and c.from_residual.result c.from_residual.ensures.1 in
    let e = c.in_err-needs.ensures in
    asked_err _ _ p.1 p.2 (needs_out _ _ _ c.field_at.ensures.bytes e.0, e.1)

pub returns-in_err-sets : goal.returns-in_err-sets
returns-in_err-sets c =
    let p = err_from_is_err_and c.from_residual-in_err-sets.result c.from_residual-in_err-sets.ensures.1 in
    let e = c.in_err-sets.ensures in
    asked_err _ _ p.1 p.2 (sets_out _ _ _ c.field_at-2.ensures.bytes e.0, e.1)

pub returns-in_err-clears : goal.returns-in_err-clears
returns-in_err-clears c =
    let p = err_from_is_err_and c.from_residual-in_err-clears.result c.from_residual-in_err-clears.ensures.1 in
    let e = c.in_err-clears.ensures in
    asked_err _ _ p.1 p.2 (clears_out _ _ _ c.field_at-3.ensures.bytes e.0, e.1)

pub returns : goal.returns
returns c =
    step_stands _ _ _ _ _ c.in_ok-needs.needs c.in_ok-sets.sets c.in_ok-clears.clears _
    c.field_at.ensures.bytes c.field_at-2.ensures.bytes c.field_at-3.ensures.bytes
    c.in_ok-needs.ensures c.in_ok-sets.ensures c.in_ok-clears.ensures (search rules)
