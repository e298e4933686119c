use Rattle.std.proofs.Common.{◌∙◌, sym}
use Rattle.outline.proofs.Texts.{short_none, short_out, short_more, body_size}
use Rattle.outline.proofs.bodies_fit.Goals as goal

pub returns-then-count_names-gt-MOST_IN_BODY : goal.returns-then-count_names-gt-MOST_IN_BODY
returns-then-count_names-gt-MOST_IN_BODY c =
    sym (short_out c.loop-line.rest.now c.in-Some.line.now c.in-Some.behind.now c.in-Some.ensures.lines
    (body_size c.in-Some.line.now c.field_at.result.now c.count_names.ensures c.field_at.ensures.bytes)
    c.if-count_names-gt-MOST_IN_BODY.true) ∙ c.loop-line.invariant

pub loop-line-preserved : goal.loop-line-preserved
loop-line-preserved c =
    sym (short_more c.loop-line.rest.now c.in-Some.line.now c.in-Some.behind.now c.in-Some.ensures.lines
    (body_size c.in-Some.line.now c.field_at.result.now c.count_names.ensures c.field_at.ensures.bytes)
    c.if-count_names-gt-MOST_IN_BODY.false) ∙ c.loop-line.invariant

pub returns : goal.returns
returns c = sym (short_none c.loop-line.rest.now c.in_default.ensures.lines) ∙ c.loop-line.invariant
