use mathlib.Core.Path.{refl}
use native.Mathlib.Omega.{arith}
use Rattle.std.proofs.lemmas.Result.{err_from_is_err_and}
use Rattle.answer.proofs.Answered.{question, values}
use Rattle.answer.proofs.hear.Goals as goal

pub returns-in_err-read-clause-question : goal.returns-in_err-read-clause-question
returns-in_err-read-clause-question c =
    let p = err_from_is_err_and c.from_residual.result c.from_residual.ensures.1 in
    rw (p.1, p.2) (question c.args.accepted.now.owned c.args.answer.now c.args.cells.now (omega arith) c.in_err-read.ensures)

pub returns-clause-question : goal.returns-clause-question
returns-clause-question c = question c.args.accepted.now.owned c.args.answer.now c.args.cells.now (omega arith) c.in_ok-read.ensures

pub returns-clause-values : goal.returns-clause-values
returns-clause-values c =
    values c.args.accepted.now.owned c.args.answer.now c.args.cells.now (omega arith) c.in_ok-read.ensures refl (omega arith)
