use mathlib.Core.Path.{refl, sym, ◌∙◌}
use Prim.Native.Nat.{◌+◌, ◌≤◌}
use native.Mathlib.Omega.{arith}
use lib.ListN.{length, length-map}
use Rattle.lines.specs.Parts.{Piece}
use Rattle.rows.specs.Answers.{sections_of}
use Rattle.rows.specs.Words.{step_words}
use Rattle.rows.proofs.Counts.{asked_met}
use Rattle.rows.proofs.StepLines.{step_whole}
use Rattle.rows.proofs.Words.{has_put, kept_put}
use Rattle.rows.proofs.Walk.{walking_first, walking_room, walking_done, walking_more}
use Rattle.rows.proofs.put_steps.Goals as goal

pub loop-line-init : goal.loop-line-init
loop-line-init c = walking_first _ _ _ _ _ _ _ c.args.o.now.shape.shaped.step_lines (refl, tt)

pub loop-line-preserved : goal.loop-line-preserved
loop-line-preserved c =
    let u = c.loop-line.invariant in
    let e = c.in-Some.ensures.lines in
    let n = c.args.o.now.shape.shaped.steps ∙ sym (length-map (sections_of c.args.o.now).steps (λ (l : Piece). l.bytes)) in
    let r : c.loop-line.at + step_words ≤ length c.args.out.now = walking_room _ _ _ _ u e n c.requires in
    let h : c.loop-line.at ≤ length c.loop-line.out = omega arith in
    rw c.and-met.ensures
    (walking_more _ _ _ _ u e (kept_put c.loop-line.at c.loop-line.out c.put_step.new.out _ h)
    (λ m. step_whole _ _ _ (has_put c.loop-line.at c.loop-line.out c.put_step.new.out _ h) (omega arith) (asked_met c.put_step.result c.put_step.ensures m))
    _ c.put_step.result c.put_step.ensures)

pub returns : goal.returns
returns c =
    let d = walking_done _ _ _ _ c.loop-line.invariant c.in_default.ensures.lines in
    (d.0, record { stands = d.1 })
