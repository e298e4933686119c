use Rattle.table.specs.Layout.{table_in}
use Rattle.encoding.proofs.Counted.{clauses_are}
use Rattle.encoding.proofs.Answers.{past_last_line, lined}
use Rattle.encoding.proofs.lines_by.Goals as goal

pub returns-then-line-clauses : goal.returns-then-line-clauses
returns-then-line-clauses g c =
    past_last_line (table_in c.args.accepted.now.table) c.args.line
    (clauses_are (table_in c.args.accepted.now.table) (rw c.encoded-e.ensures at c.count_all-clauses.ensures.0)) c.if-line-clauses.true

pub put_text-requires : goal.put_text-requires
put_text-requires g c = (
  rw c.encoded-e.ensures c.args.accepted.now.owned.variables,
  clauses_are (table_in c.encoded-e.result.table.now) c.count_all-clauses.ensures.0,
  c.count_all-clauses.ensures.1,
  c.if-line-clauses.false,
)

pub returns : goal.returns
returns g c =
    lined (table_in c.args.accepted.now.table) c.args.line
    (clauses_are (table_in c.args.accepted.now.table) (rw c.encoded-e.ensures at c.count_all-clauses.ensures.0)) c.if-line-clauses.false
    (rw c.encoded-e.ensures at c.put_text.ensures)
