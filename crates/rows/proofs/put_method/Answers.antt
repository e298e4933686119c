use mathlib.Core.Path.{◌≡◌, sym, ◌∙◌}
use Prim.Native.Nat.{◌-◌, ◌≤◌}
use native.Mathlib.Omega.{arith}
use lib.ListN.{length, set, drop, length-take, length-drop}
use Rattle.grammar.specs.Name.{names_in}
use Rattle.grammar.specs.Line.{body_in}
use Rattle.rows.specs.Words.{Kept}
use Rattle.rows.proofs.Counts.{count_jobs, number_or}
use Rattle.rows.proofs.MethodLines.{body_size, method_asked, method_stands, as_long, first_word, second_word}
use Rattle.rows.proofs.Words.{has_put, kept_put}
use Rattle.rows.proofs.put_method.Goals as goal

pub put_body-requires : goal.put_body-requires
put_body-requires c =
    let z = body_size c.args.line.now c.field_at-body.result.now c.field_at-body.ensures.bytes in
    let o = set (set c.args.out.now 0 c.unwrap_or.result) 1 c.count_names.result in
    omega (arith, z, as_long c.args.out.now c.unwrap_or.result c.count_names.result, length-take (length o - 2) (drop 2 o), length-drop 2 o)

pub returns : goal.returns
returns c =
    let d = c.field_at.ensures.bytes in
    let e = c.field_at-body.ensures.bytes in
    let j = c.number_of-job in
    let o = set (set c.args.out.now 0 c.unwrap_or.result) 1 c.count_names.result in
    let z : length (body_in c.args.line.now) ≡ length (names_in c.field_at-body.result.now)
    = body_size c.args.line.now c.field_at-body.result.now e in
    let y : length o ≡ length c.args.out.now = as_long c.args.out.now c.unwrap_or.result c.count_names.result in
    let h : 2 ≤ length c.args.out.now = omega arith in
    let g : 2 ≤ length o = omega (arith, y, h) in
    let b : length (names_in c.field_at-body.result.now) ≤ length c.put_body.new.out =
    omega (arith, z, y, c.put_body.auto.out, length-take (length o - 2) (drop 2 o), length-drop 2 o) in
    let w : Kept 2 o _ = kept_put 2 o c.put_body.new.out _ g in (
      rw c.and.ensures (method_asked _ _ _ _ _ _ _ j.result c.put_body.result d e j.ensures c.put_body.ensures.0),
      method_stands _ _ _ _ _ c.put_body.new.out _ _ _ d e (c.unwrap_or.ensures ∙ number_or _ _ j.result j.ensures (sym (count_jobs c.args.o.now.shape.shaped)))
          c.count_names.ensures c.put_body.ensures.1 (has_put 2 o c.put_body.new.out _ g) b
          (w.at 0 (omega arith) ∙ first_word c.args.out.now _ _ h) (w.at 1 (omega arith) ∙ second_word c.args.out.now _ _ h),
    )
