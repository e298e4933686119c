use Rattle.std.proofs.lemmas.Result.{err_from_is_err_and}
use Rattle.table.specs.Layout.{table_in}
use Rattle.answer.proofs.Answered.{not_0, one_unmet, values_length}
use Rattle.answer.proofs.Outcomes.{show_refused, show_met}
use Rattle.answer.proofs.list_answer.Goals as goal

pub returns-in_err-values : goal.returns-in_err-values
returns-in_err-values c =
    let p = err_from_is_err_and c.from_residual-in_err-values.result c.from_residual-in_err-values.ensures.1 in
    rw (p.1, p.2)
    (show_refused c.args.file.now (rw c.in_ok-accepted.ensures at c.in_ok-accepted.accepted.owned.verdict) c.args.answer.now c.args.text.now c.if-text-lt-LISTING_LEAST.false
    (one_unmet (table_in c.in_ok-accepted.accepted.table) c.args.answer.now c.in_err-values.ensures.question (not_0 _)) (not_0 _))

pub list_lines-requires : goal.list_lines-requires
list_lines-requires c =
    (values_length (table_in c.in_ok-accepted.accepted.table) c.args.answer.now c.in_ok-values.ensures.values, c.if-text-lt-LISTING_LEAST.false)

pub returns : goal.returns
returns c =
    show_met c.args.file.now (rw c.in_ok-accepted.ensures at c.in_ok-accepted.accepted.owned.verdict) c.args.answer.now c.args.text.now c.if-text-lt-LISTING_LEAST.false
    c.in_ok-values.ensures.question c.in_ok-values.ensures.values (rw c.in_ok-accepted.ensures at c.list_lines.ensures)
