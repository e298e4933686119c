use Rattle.std.proofs.Common.{arith, length-set, length-take}
use Rattle.outline.proofs.Spans.{filled_first, filled_line, filled_more}
use Rattle.outline.specs.declared.Span.{Span}
use Rattle.outline.proofs.declare.Goals as goal

pub loop-name-init : goal.loop-name-init
loop-name-init c = record { wide = omega (arith, length-take {A = Span}); filled = filled_first c.args.file.now _ }

pub loop-name-preserved : goal.loop-name-preserved
loop-name-preserved c =
    record {
      wide = omega (arith, length-set {A = Span});
      filled = filled_more c.loop-name.invariant.filled
          (omega arith) c.in-Some.line.now c.in-Some.behind.now c.in-Some.ensures.bytes c.in-Some.ensures.lines (omega arith) c.name_of.ensures;
    }

pub returns-in_default : goal.returns-in_default
returns-in_default c = absurd (filled_line c.loop-name.invariant.filled (omega arith) c.in_default.ensures.lines)
