use Rattle.std.proofs.lemmas.Result.{err_from_is_err_and}
use Rattle.table.proofs.Whole.{read_early, read_rest, reads_err}
use Rattle.table.proofs.read.Goals as goal

pub returns-in_err-o : goal.returns-in_err-o
returns-in_err-o c =
    let p = err_from_is_err_and c.from_residual.result c.from_residual.ensures.1 in
    reads_err c.args.file.now p.1 p.2 (read_early _ _ c.in_err-o.ensures.question)

pub returns : goal.returns
returns c = read_rest _ c.in_ok-o.ensures.question _ c.in_ok-o.ensures.of c.words_of.result c.words_of.ensures
