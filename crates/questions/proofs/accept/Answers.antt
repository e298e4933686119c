use mathlib.Core.Path.{refl, ap}
use native.Mathlib.Omega.{arith}
use Rattle.std.proofs.lemmas.Result.{err_from_is_err_and}
use Rattle.table.proofs.Promised.{promises}
use Rattle.questions.specs.Questions.{after_reading}
use Rattle.questions.proofs.Accepting.{known, too_many_nodes, facts_room, too_many_variables, owned}
use Rattle.questions.proofs.accept.Goals as goal

pub returns-in_err-table : goal.returns-in_err-table
returns-in_err-table c =
    let p = err_from_is_err_and c.from_residual.result c.from_residual.ensures.1 in
    rw (p.1, p.2) (ap after_reading (promises.turned_down c.args.file.now _ c.in_err-table.ensures))

pub build-requires : goal.build-requires
build-requires c = known c.args.file.now c.in_ok-table.table c.in_ok-table.ensures

pub returns-in_default : goal.returns-in_default
returns-in_default c = too_many_nodes c.args.file.now c.in_ok-table.table c.in_ok-table.ensures c.in_default.ensures

pub overflow_mul-variables : goal.overflow_mul-variables
overflow_mul-variables c =
    rw c.facts.ensures (omega (arith, facts_room c.args.file.now c.in_ok-table.table c.in_ok-table.ensures c.in-Some.ensures.counted))

pub overflow_add-variables-2 : goal.overflow_add-variables-2
overflow_add-variables-2 c =
    rw c.facts.ensures (
    omega (
      arith,
      facts_room c.args.file.now c.in_ok-table.table c.in_ok-table.ensures c.in-Some.ensures.counted,
      c.in-Some.ensures.counted.small.variables,
      c.in-Some.ensures.counted.small.nodes,
    )
    )

pub returns-then-variables-gt-MOST_VARIABLES : goal.returns-then-variables-gt-MOST_VARIABLES
returns-then-variables-gt-MOST_VARIABLES c =
    too_many_variables c.args.file.now c.in_ok-table.table c.in_ok-table.ensures c.in-Some.ensures.counted (rw c.facts.ensures refl)
    c.if-variables-gt-MOST_VARIABLES.true

pub invariant_of-result : goal.invariant_of-result
invariant_of-result c =
    record {
      owned =
          owned c.args.file.now c.in_ok-table.table c.in_ok-table.ensures c.in-Some.ensures.counted (rw c.facts.ensures refl)
          c.if-variables-gt-MOST_VARIABLES.false c.in-Some.ensures (omega (arith, c.in-Some.ensures.counted.few, c.in-Some.ensures.counted.nodes));
    }
