use mathlib.Core.Path.{ap₂}
use Prim.Native.Nat.{◌+◌}
use Rattle.table.proofs.Lookup.{job_named}
use Rattle.table.proofs.job_name.Goals as goal

pub returns : goal.returns
returns c =
    let a = c.args in
    let count = c.count in
    let count2 = c.count-2 in
    let count3 = c.count-3 in
    let name-at = c.name_at in
    job_named a.ws.now a.i a.file.now _ (ap₂ ◌+◌ count.ensures count2.ensures) count3.ensures name-at.ensures
