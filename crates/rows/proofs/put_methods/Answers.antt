use Prim.Native.Nat.{◌+◌, ◌-◌, ◌≤◌}
use native.Mathlib.Omega.{arith}
use lib.ListN.{length, drop, length-take, length-drop}
use Rattle.rows.specs.Words.{method_words}
use Rattle.rows.proofs.MethodLines.{method_room, method_short, method_whole}
use Rattle.rows.proofs.Words.{has_put, kept_put}
use Rattle.rows.proofs.Walk.{walking_done, walking_more}
use Rattle.rows.proofs.put_methods.Goals as goal

pub put_method-requires : goal.put_method-requires
put_method-requires c =
    let u = c.loop-line.invariant in
    let r : c.loop-line.at + method_words ≤ length c.args.out.now = method_room _ u c.in-Some.ensures.lines c.args.o.now.shape.shaped.methods c.requires in
    omega (
      arith,
      method_short _ u c.in-Some.ensures.lines c.args.o.now.shape.shaped.bodies,
      length-take (c.loop-line.at + 10 - c.loop-line.at) (drop c.loop-line.at c.loop-line.out),
      length-drop c.loop-line.at c.loop-line.out,
    )

pub loop-line-preserved : goal.loop-line-preserved
loop-line-preserved c =
    let u = c.loop-line.invariant in
    let e = c.in-Some.ensures.lines in
    let r : c.loop-line.at + method_words ≤ length c.args.out.now = method_room _ u e c.args.o.now.shape.shaped.methods c.requires in
    let h : c.loop-line.at ≤ length c.loop-line.out = omega arith in
    rw c.and-met.ensures
    (walking_more _ _ _ _ u e (kept_put c.loop-line.at c.loop-line.out c.put_method.new.out _ h)
    (method_whole _ _ _ (has_put c.loop-line.at c.loop-line.out c.put_method.new.out _ h) (omega arith)
    (method_short _ u e c.args.o.now.shape.shaped.bodies) c.put_method.ensures.1)
    _ c.put_method.result c.put_method.ensures.0)

pub returns : goal.returns
returns c =
    let d = walking_done _ _ _ _ c.loop-line.invariant c.in_default.ensures.lines in
    (d.0, record { stands = λ i h. (d.1 i h).stands })
