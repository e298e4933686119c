use Rattle.std.proofs.Common.{◌∙◌, sym}
use Rattle.lines.proofs.Same.{same_is}
use Rattle.outline.proofs.Names.{last_differs}
use Rattle.outline.proofs.is_same.Goals as goal

pub returns-then-eq : goal.returns-then-eq
returns-then-eq c = c.eq-then-eq.ensures ∙ same_is c.args.a.now c.args.b.now

pub returns-else-eq : goal.returns-else-eq
returns-else-eq c =
    c.if-eq.false
    ∙ last_differs c.args.a.now c.args.b.now c.last.result c.last-2.result c.last.ensures.value c.last-2.ensures.value (sym c.eq.ensures ∙ c.if-eq.false)
