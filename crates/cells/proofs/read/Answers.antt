-- At each return: what was asked before, and the law of that way out.
use mathlib.Core.Path.{◌≡◌}
use lib.ListN.{length}
use Rattle.std.specs.Prelude.{Some, None}
use Rattle.cells.specs.declared.kind.Word.TheVariants.{Satisfiable, Other}
use Rattle.cells.specs.Kind.{word_of}
use Rattle.cells.proofs.Whole.{read_unfit, read_nothing, read_satisfiable, read_other, read_wordless}
use Rattle.cells.proofs.read.Goals as goal

pub returns-then-not-fits_and_ends : goal.returns-then-not-fits_and_ends
returns-then-not-fits_and_ends c = read_unfit c.args.answer.now (length c.args.cells.now) c.fits_and_ends.ensures c.if-not-fits_and_ends.true

pub returns-in_default : goal.returns-in_default
returns-in_default c =
    read_nothing c.args.answer.now (length c.args.cells.now) c.fits_and_ends.ensures c.if-not-fits_and_ends.false
    c.pass_comments-rest.result.now c.pass_comments-rest.ensures.lines c.in_default.ensures.lines

pub returns-in-Some-Satisfiable : goal.returns-in-Some-Satisfiable
returns-in-Some-Satisfiable c =
    let word : word_of c.in-Some.line.now ≡ Some Satisfiable = cc (c.word_of.ensures.is) in
    read_satisfiable c.args.answer.now (length c.args.cells.now) c.fits_and_ends.ensures c.if-not-fits_and_ends.false
    c.pass_comments-rest.result.now c.pass_comments-rest.ensures.lines c.in-Some.line.now c.in-Some.behind.now c.in-Some.ensures.lines
    word c.read_values.ensures

pub returns-in-Some-Other : goal.returns-in-Some-Other
returns-in-Some-Other c =
    let word : word_of c.in-Some.line.now ≡ Some Other = cc (c.word_of.ensures.is) in
    read_other c.args.answer.now (length c.args.cells.now) c.fits_and_ends.ensures c.if-not-fits_and_ends.false
    c.pass_comments-rest.result.now c.pass_comments-rest.ensures.lines c.in-Some.line.now c.in-Some.behind.now c.in-Some.ensures.lines
    word c.read_others.ensures

pub returns-in-None : goal.returns-in-None
returns-in-None c =
    let word : word_of c.in-Some.line.now ≡ None = cc (c.word_of.ensures.is) in
    read_wordless c.args.answer.now (length c.args.cells.now) c.fits_and_ends.ensures c.if-not-fits_and_ends.false
    c.pass_comments-rest.result.now c.pass_comments-rest.ensures.lines c.in-Some.line.now c.in-Some.behind.now c.in-Some.ensures.lines
    word
