use Rattle.table.proofs.Lookup.{fact_named}
use Rattle.table.proofs.fact_name.Goals as goal

pub returns : goal.returns
returns c =
    let a = c.args in
    let count = c.count in
    let name-at = c.name_at in
    fact_named a.ws.now a.i a.file.now _ count.ensures name-at.ensures
