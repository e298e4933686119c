-- `writer::clause_size` meets its contract: one literal more is counted.
-- Assumes nothing.
use native.Mathlib.Omega.{arith}
use Rattle.writer.proofs.Literals.{literal_most}
use Rattle.writer.proofs.Loops.{counted_more}
use Rattle.writer.proofs.clause_size.Goals as goal

pub overflow_add-n : goal.overflow_add-n
overflow_add-n c =
    let u = c.loop-code in
    omega (arith, u.invariant.small, c.loop-code-test.true, c.literal_size-n.ensures, literal_most _ (c.type_inv.lits u.code-index).fits, c.requires)

pub loop-code-preserved : goal.loop-code-preserved
loop-code-preserved c =
    let u = c.loop-code in
    counted_more u.invariant c.loop-code-test.true (c.type_inv.lits u.code-index).fits c.literal_size-n.ensures
