-- `model::row::slot_row_holds` meets its contract. The effects, then the facts.
-- Assumes nothing.
use native.Mathlib.Omega.{arith}
use Rattle.model.proofs.Satisfied.{slot_low, fact_of}
use Rattle.model.proofs.row.slot_row_holds.Goals as goal

pub fact_variable-requires : goal.fact_variable-requires
fact_variable-requires c = (
  omega (arith, slot_low c.args.e.now.indexed c.requires.0 c.requires.1),
  fact_of c.args.e.now.indexed c.requires.0 c.requires.1 c.if-c-eq0.false,
)

pub fact_variable-requires-2 : goal.fact_variable-requires-2
fact_variable-requires-2 c = (
  omega (arith, slot_low c.args.e.now.indexed c.requires.0 c.requires.1),
  fact_of c.args.e.now.indexed c.requires.0 c.requires.1 c.if-c-eq0.false,
)
