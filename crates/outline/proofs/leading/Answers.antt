use Rattle.std.proofs.Common.{◌∙◌, sym, arith}
use Rattle.outline.proofs.Texts.{led_first, led_more}
use Rattle.outline.proofs.leading.Goals as goal

pub loop-line-init : goal.loop-line-init
loop-line-init c = led_first c.args.c c.args.text.now

pub overflow_add-count : goal.overflow_add-count
overflow_add-count c = omega arith

pub loop-line-preserved : goal.loop-line-preserved
loop-line-preserved c = led_more c.loop-line.invariant c.in-Some.ensures.bytes c.in-Some.ensures.lines
    (sym c.line_begins.ensures ∙ c.if-not-line_begins.false)
