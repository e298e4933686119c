use mathlib.Core.Path.{refl, sym}
use mathlib.Core.List.{List}
use Prim.Native.Nat.{ℕ}
use native.Mathlib.Omega.{arith}
use Rattle.std.proofs.Common.{Bor}
use Rattle.rows.proofs.Counts.{count_tasks, number_or}
use Rattle.rows.proofs.BodyList.{placing_first, placing_room, placing_more, placing_done}
use Rattle.rows.proofs.Names.{left_first, left_more}
use Rattle.rows.proofs.put_body.Goals as goal

pub loop-left-init : goal.loop-left-init
loop-left-init c = placing_first _ _ _ _ (left_first (λ (x : Bor (List ℕ)). x.now) c.names_of-left.result c.names_of-left.ensures) (refl, tt)

pub bounds-out-size : goal.bounds-out-size
bounds-out-size c =
    let q = left_more (λ (x : Bor (List ℕ)). x.now) c.loop-left.left c.split_first.result.1 c.in-Some.names c.split_first.result.0.now c.in-Some.is
    c.split_first.ensures.parts in
    omega (arith, placing_room c.loop-left.invariant q)

pub loop-left-preserved : goal.loop-left-preserved
loop-left-preserved c =
    let q = left_more (λ (x : Bor (List ℕ)). x.now) c.loop-left.left c.split_first.result.1 c.in-Some.names c.split_first.result.0.now c.in-Some.is
    c.split_first.ensures.parts in
    let t = c.number_of-task in
    let k = number_or _ _ t.result t.ensures (sym (count_tasks c.args.o.now.shape.shaped)) in
    rw (c.and-met.ensures, c.unwrap_or.ensures)
    (placing_more c.loop-left.invariant q k (omega (arith, placing_room c.loop-left.invariant q)) _ t.result t.ensures)

pub returns : goal.returns
returns c = placing_done (rw c.in_default.is at c.loop-left.invariant) refl
