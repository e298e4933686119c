use Rattle.table.specs.Layout.{table_in}
use Rattle.planning.specs.Table.{step_of}
use Rattle.clause.proofs.Facts.{has_is, clear_dropped}
use Rattle.clause.proofs.slots.drops.Goals as goal

pub returns-then-not-sets : goal.returns-then-not-sets
returns-then-not-sets c =
    clear_dropped (step_of (table_in c.args.ws.now) c.args.s) c.args.f c.sets.ensures c.if-not-sets.true
    (has_is c.clears-facts.result c.args.f c.clears-facts.ensures c.has.ensures)
