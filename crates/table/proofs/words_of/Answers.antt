use Rattle.std.proofs.lemmas.Result.{err_from_is_err_and}
use native.Mathlib.Omega.{arith}
use Rattle.rows.proofs.Counts.{asked_err}
use Rattle.table.proofs.Whole.{ends_out, steps_out, methods_out, seven_met, table_read, names_read}
use Rattle.table.proofs.words_of.Goals as goal

pub returns-in_err-met : goal.returns-in_err-met
returns-in_err-met c =
    let p = err_from_is_err_and c.from_residual.result c.from_residual.ensures.1 in
    let e = rw c.in_err-met.was at c.read_ends-met.ensures.0 in
    asked_err _ _ p.1 p.2 (ends_out _ e.0, e.1)

pub returns-in_err-put_steps : goal.returns-in_err-put_steps
returns-in_err-put_steps c =
    let p = err_from_is_err_and c.from_residual-in_err-put_steps.result c.from_residual-in_err-put_steps.ensures.1 in
    let e = c.in_err-put_steps.ensures in
    asked_err _ _ p.1 p.2 (steps_out _ e.0.0, e.0.1)

pub returns-in_err-put_methods : goal.returns-in_err-put_methods
returns-in_err-put_methods c =
    let p = err_from_is_err_and c.from_residual-in_err-put_methods.result c.from_residual-in_err-put_methods.ensures.1 in
    let e = c.in_err-put_methods.ensures in
    asked_err _ _ p.1 p.2 (methods_out _ e.0.0, e.0.1)

pub returns : goal.returns
returns c =
    let s = c.args.o.now.shape in
    let e = rw c.in_ok-met.was at c.read_ends-met.ensures.0 in
    let a = c.in_ok-put_steps.ensures in
    let b = c.in_ok-put_methods.ensures in (
      seven_met _ a.0.0 b.0.0 e.0,
      (
        table_read s.shaped c.args.o.now.held _ _ _ _ _ c.put_front.ensures (omega arith) (omega arith) e.1 a.1 a.0.0 b.1 c.put_names.ensures (omega arith),
        names_read s.shaped c.args.o.now.held _ _ _ _ _ c.put_front.ensures (omega arith) (omega arith) e.1 a.1 a.0.0 b.1 c.put_names.ensures (omega arith),
      ),
    )
