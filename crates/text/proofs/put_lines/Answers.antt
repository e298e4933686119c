use native.Mathlib.Omega.{arith}
use Rattle.text.proofs.Writing.{writing_none, writing_full, writing_more, line_room}
use Rattle.text.proofs.put_lines.Goals as goal

pub loop-place-init : goal.loop-place-init
loop-place-init c = writing_none c.requires.0 c.requires.1

pub returns-in_default-put_line : goal.returns-in_default-put_line
returns-in_default-put_line c = writing_full c.loop-place.invariant c.in-Some.ensures.0 c.in_default-put_line.ensures

pub overflow_add-lines : goal.overflow_add-lines
overflow_add-lines c = omega (arith, line_room c.loop-place.invariant c.in-Some.ensures.0 c.in-Some-put_line.ensures, c.requires.2)

pub loop-place-preserved : goal.loop-place-preserved
loop-place-preserved c = writing_more c.loop-place.invariant c.in-Some.ensures.0 c.in-Some-put_line.ensures c.in-Some.ensures.1.1
