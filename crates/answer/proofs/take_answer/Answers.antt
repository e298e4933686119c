use mathlib.Core.Path.{refl, sym, ◌∙◌}
use native.Mathlib.Omega.{arith}
use Rattle.std.proofs.lemmas.Result.{err_from_is_err_and}
use Rattle.lists.proofs.Written.{wrote_whole}
use Rattle.table.specs.Layout.{table_in}
use Rattle.questions.proofs.Indexing.{acceptance}
use Rattle.answer.proofs.Answered.{not_0, one_unmet, values_length}
use Rattle.answer.proofs.Outcomes.{take_refused, take_unsatisfied, take_met}
use Rattle.answer.proofs.take_answer.Goals as goal

pub returns-in_err-heard : goal.returns-in_err-heard
returns-in_err-heard c =
    let p = err_from_is_err_and c.from_residual-in_err-heard.result c.from_residual-in_err-heard.ensures.1 in
    rw (p.1, p.2)
    (take_refused c.args.file.now (rw c.in_ok-accepted.ensures at c.in_ok-accepted.accepted.owned.verdict) c.args.tree.now c.if-tree-lt-MOST_NODES.false
    (sym c.is_own.ensures ∙ c.if-not-is_own.false) c.args.values.now c.if-values-lt-VALUES_LEAST.false c.args.answer.now
    (one_unmet (table_in c.in_ok-accepted.accepted.table) c.args.answer.now c.in_err-heard.ensures.question (not_0 _)) (not_0 _))

pub returns-then-not-is_model : goal.returns-then-not-is_model
returns-then-not-is_model c =
    take_unsatisfied c.args.file.now (rw c.in_ok-accepted.ensures at c.in_ok-accepted.accepted.owned.verdict) c.args.tree.now c.if-tree-lt-MOST_NODES.false
    (sym c.is_own.ensures ∙ c.if-not-is_own.false) c.args.values.now c.if-values-lt-VALUES_LEAST.false c.args.answer.now
    c.in_ok-heard.ensures.question c.in_ok-heard.ensures.values (sym c.is_model.ensures ∙ c.if-not-is_model.true)

pub put_bytes-requires : goal.put_bytes-requires
put_bytes-requires c =
    omega (
      arith,
      values_length (table_in c.in_ok-accepted.accepted.table) c.args.answer.now c.in_ok-heard.ensures.values,
      (acceptance c.in_ok-accepted.accepted.owned).few_variables,
      c.if-values-lt-VALUES_LEAST.false,
    )

pub returns : goal.returns
returns c =
    rw (wrote_whole c.put_bytes.ensures)
    (take_met c.args.file.now (rw c.in_ok-accepted.ensures at c.in_ok-accepted.accepted.owned.verdict) c.args.tree.now c.if-tree-lt-MOST_NODES.false
    (sym c.is_own.ensures ∙ c.if-not-is_own.false) c.args.values.now c.if-values-lt-VALUES_LEAST.false c.args.answer.now
    c.in_ok-heard.ensures.question c.in_ok-heard.ensures.values (sym c.is_model.ensures ∙ c.if-not-is_model.false) refl)
