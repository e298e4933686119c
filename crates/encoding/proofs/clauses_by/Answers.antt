use Rattle.table.specs.Layout.{table_in}
use Rattle.encoding.proofs.Counted.{clauses_are}
use Rattle.encoding.proofs.clauses_by.Goals as goal

pub returns : goal.returns
returns g c =
    clauses_are (table_in c.args.accepted.now.table) (rw c.encoded-e.ensures at c.count_all.ensures.0)
