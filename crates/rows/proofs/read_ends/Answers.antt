use mathlib.Core.Path.{refl, sym, ◌∙◌}
use Rattle.rows.proofs.Counts.{count_jobs, number_or}
use Rattle.rows.proofs.EndLines.{set_or, wide_or, ends_stand, ends_asked}
use Rattle.rows.proofs.read_ends.Goals as goal

pub returns : goal.returns
returns c =
    let s = c.args.o.now.shape.shaped in
    let f = c.fact_set-start.ensures in
    let j = c.number_of-root.ensures in
    let stand =
    ends_stand _ _ _ _ _ _ c.unwrap_or.result c.unwrap_or-2.result _ s.start s.root
    c.field_at.ensures.bytes c.field_at-2.ensures.bytes c.field_at-3.ensures.bytes
    (rw c.unwrap_or.ensures (set_or _ _ _ c.fact_set-start.result f)) (rw c.unwrap_or.ensures (wide_or _ _ _ c.fact_set-start.result f refl))
    (c.unwrap_or-2.ensures ∙ number_or _ _ c.number_of-root.result j (sym (count_jobs s))) c.digit_of-depth.ensures in (
      rw (c.and-2.ensures, c.and.ensures)
          (ends_asked _ _ _ _ _ _ _ c.fact_set-start.result c.number_of-root.result _ s.start s.root
          c.field_at.ensures.bytes c.field_at-2.ensures.bytes f j stand),
      stand,
    )
