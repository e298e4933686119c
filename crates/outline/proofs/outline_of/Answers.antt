use Rattle.std.proofs.Common.{◌∙◌, sym, arith, rules, true, false}
use Rattle.outline.proofs.ByKind.{shape_at, declared_few, names_few, indexed, within_part, sixth}
use Rattle.outline.proofs.Questions.{refused, asked6}
use Rattle.outline.proofs.outline_of.Goals as goal

pub returns-in_err-shape-clause-question : goal.returns-in_err-shape-clause-question
returns-in_err-shape-clause-question c = search (rules, refused c.args.file.now c.in_err-shape.field-0.0 c.in_err-shape.ensures.question)

pub declare-names-requires : goal.declare-names-requires
declare-names-requires c =
    let u = shape_at c.in_ok-shape.ensures.of c.in_ok-shape.shape.shaped in
    (names_few c.args.file.now u, declared_few c.args.file.now u)

pub are_new-requires : goal.are_new-requires
are_new-requires c =
    let u = shape_at c.in_ok-shape.ensures.of c.in_ok-shape.shape.shaped in
    let few = names_few c.args.file.now u in
    within_part c.args.file.now c.declare-names.result c.declare-names.ensures (omega arith) (declared_few c.args.file.now u) _ 0 (omega arith)

pub returns-then-not-are_new-clause-question : goal.returns-then-not-are_new-clause-question
returns-then-not-are_new-clause-question c =
    let u = shape_at c.in_ok-shape.ensures.of c.in_ok-shape.shape.shaped in
    let few = names_few c.args.file.now u in
    asked6 c.args.file.now c.in_ok-shape.ensures.question false
    (sym c.if-not-are_new.true ∙ c.are_new.ensures ∙ sixth c.args.file.now (indexed c.args.file.now u c.declare-names.ensures) (omega arith))

pub returns-clause-question : goal.returns-clause-question
returns-clause-question c =
    let u = shape_at c.in_ok-shape.ensures.of c.in_ok-shape.shape.shaped in
    let few = names_few c.args.file.now u in
    asked6 c.args.file.now c.in_ok-shape.ensures.question true
    (sym c.if-not-are_new.false ∙ c.are_new.ensures ∙ sixth c.args.file.now (indexed c.args.file.now u c.declare-names.ensures) (omega arith))
