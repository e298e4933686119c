use Rattle.table.proofs.Lookup.{step_named}
use Rattle.table.proofs.step_name.Goals as goal

pub returns : goal.returns
returns c =
    let a = c.args in
    let count = c.count-f in
    let count2 = c.count in
    let name-at = c.name_at in
    step_named a.ws.now a.i a.file.now _ count.ensures count2.ensures name-at.ensures
