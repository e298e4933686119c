use Rattle.grammar.proofs.Lines.{fields_none, fields_out, fields_more, fields_done}
use Rattle.grammar.proofs.are_fields.Goals as goal

pub returns-in_default : goal.returns-in_default
returns-in_default c = fields_none c.loop-form.left c.args.forms.now c.loop-form.form-index c.loop-form.invariant c.in_default.is c.loop-form-test.true

pub returns-then-not-has_form : goal.returns-then-not-has_form
returns-then-not-has_form c =
    fields_out c.loop-form.left c.args.forms.now c.loop-form.form-index c.loop-form.invariant
    c.in-Some.fields c.split_first.result.0.now c.split_first.result.1 c.in-Some.is c.split_first.ensures.parts c.loop-form-test.true c.has_form.ensures c.if-not-has_form.true

pub loop-form-preserved : goal.loop-form-preserved
loop-form-preserved c =
    fields_more c.loop-form.left c.args.forms.now c.loop-form.form-index c.loop-form.invariant
    c.in-Some.fields c.split_first.result.0.now c.split_first.result.1 c.in-Some.is c.split_first.ensures.parts c.loop-form-test.true c.has_form.ensures c.if-not-has_form.false

pub returns : goal.returns
returns c = fields_done c.loop-form.left c.args.forms.now c.loop-form.form-index c.loop-form.invariant _ c.loop-form-test.false c.is_none.ensures
