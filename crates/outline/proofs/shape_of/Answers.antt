use Rattle.std.proofs.Common.{◌∙◌, sym}
use Rattle.outline.proofs.Places.{sections_stand}
use Rattle.outline.proofs.Questions.{parted, fourth, fifth, shaped, asked2, asked3, asked4, asked5, asked_none}
use Rattle.outline.proofs.shape_of.Goals as goal
use Rattle.outline.proofs.shape_of.Goals.{then-not-counts_fit-via-then-not-counts_fit, then-not-counts_fit-via-else-not-counts_fit+then-not-bodies_fit}

pub returns-then-not-fits_and_ends-clause-question : goal.returns-then-not-fits_and_ends-clause-question
returns-then-not-fits_and_ends-clause-question c = asked2 c.args.file.now (sym c.fits_and_ends.ensures ∙ c.if-not-fits_and_ends.true)

pub returns-then-not-are_lines-clause-question : goal.returns-then-not-are_lines-clause-question
returns-then-not-are_lines-clause-question c =
    asked3 c.args.file.now (sym c.fits_and_ends.ensures ∙ c.if-not-fits_and_ends.false) (sym c.are_lines.ensures ∙ c.if-not-are_lines.true)

pub returns-in_default-clause-question : goal.returns-in_default-clause-question
returns-in_default-clause-question c =
    let u = parted c.leading.ensures c.leading-2.ensures c.leading-3.ensures c.leading-4.ensures in
    asked4 c.args.file.now (sym c.fits_and_ends.ensures ∙ c.if-not-fits_and_ends.false) (sym c.are_lines.ensures ∙ c.if-not-are_lines.false)
    (sym (c.in_default.ensures.asked ∙ fourth u))

pub returns-then-not-counts_fit-clause-question : goal.returns-then-not-counts_fit-clause-question
returns-then-not-counts_fit-clause-question c =
    let u = parted c.leading.ensures c.leading-2.ensures c.leading-3.ensures c.leading-4.ensures in
    let limits = fifth u c.leading.result.0.counted c.leading-2.result.0.counted c.leading-3.result.0.counted c.leading-4.result.0.counted in
    asked5 c.args.file.now (sym c.fits_and_ends.ensures ∙ c.if-not-fits_and_ends.false) (sym c.are_lines.ensures ∙ c.if-not-are_lines.false)
    (sym (c.in-Some.ensures.asked ∙ fourth u))
    (elim c.then-not-counts_fit.branch [
      | then-not-counts_fit-via-then-not-counts_fit w ↦ sym limits ∙ rw (← c.counts_fit.ensures, w.if-not-counts_fit.true)
      | then-not-counts_fit-via-else-not-counts_fit+then-not-bodies_fit w ↦
          sym limits ∙ rw (← c.counts_fit.ensures, w.if-not-counts_fit.false, ← w.bodies_fit.ensures, w.if-not-bodies_fit.true)
    ])

pub invariant_of-result : goal.invariant_of-result
invariant_of-result c =
    let u = parted c.leading.ensures c.leading-2.ensures c.leading-3.ensures c.leading-4.ensures in
    record {
      shaped = shaped u c.leading.result.0.counted c.leading-2.result.0.counted c.leading-3.result.0.counted c.leading-4.result.0.counted
          c.in-Some.ensures.lines (sym c.in-Some.ensures.asked) (sym c.counts_fit.ensures ∙ c.if-not-counts_fit.false)
          (sym c.bodies_fit.ensures ∙ c.if-not-bodies_fit.false);
      stand = sections_stand c.leading.ensures c.leading-2.ensures c.leading-3.ensures c.leading-4.ensures u;
    }

pub returns-clause-question : goal.returns-clause-question
returns-clause-question c =
    let u = parted c.leading.ensures c.leading-2.ensures c.leading-3.ensures c.leading-4.ensures in
    let limits = fifth u c.leading.result.0.counted c.leading-2.result.0.counted c.leading-3.result.0.counted c.leading-4.result.0.counted in
    asked_none c.args.file.now (sym c.fits_and_ends.ensures ∙ c.if-not-fits_and_ends.false) (sym c.are_lines.ensures ∙ c.if-not-are_lines.false)
    (sym (c.in-Some.ensures.asked ∙ fourth u))
    (sym limits ∙ rw (← c.counts_fit.ensures, c.if-not-counts_fit.false, ← c.bodies_fit.ensures, c.if-not-bodies_fit.false))
