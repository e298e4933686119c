use native.Mathlib.Omega.{arith}
use Prim.Native.Nat.{◌<◌}
use mathlib.Core.Path.{◌≡◌}
use Rattle.clause.proofs.Cases.{there, small}
use Rattle.clause.proofs.letters.node_clause.Goals as goal

pub own_variable-requires : goal.own_variable-requires
own_variable-requires c =
    let k = small c.args.node.now.encoded.indexed c.requires.1 c.args.x c.args.y c.args.i c.requires.2 in
    omega (arith, k.0)

pub apart-requires : goal.apart-requires
apart-requires c =
    let k = small c.args.node.now.encoded.indexed c.requires.1 c.args.x c.args.y c.args.i c.requires.2 in
    (omega (arith, c.requires.0), c.own_variable.ensures.2, k.1)

pub method_variable-requires : goal.method_variable-requires
method_variable-requires c =
    let k = small c.args.node.now.encoded.indexed c.requires.1 c.args.x c.args.y c.args.i c.requires.2 in
    omega (arith, k.0)

pub apart-requires-in-1 : goal.apart-requires-in-1
apart-requires-in-1 c =
    let k = small c.args.node.now.encoded.indexed c.requires.1 c.args.x c.args.y c.args.i c.requires.2 in
    (omega (arith, c.requires.0), c.method_variable.ensures.2, k.1)

pub methods_of_job-requires : goal.methods_of_job-requires
methods_of_job-requires c =
    let h = there c.args.node.now.encoded.indexed c.requires.1 c.args.x c.args.y c.args.i c.requires.2 in
    (c.requires.0, rw c.in-2.is at h.in_row)

pub body-requires : goal.body-requires
body-requires c =
    let h = there c.args.node.now.encoded.indexed c.requires.1 c.args.x c.args.y c.args.i c.requires.2 in
    let k = small c.args.node.now.encoded.indexed c.requires.1 c.args.x c.args.y c.args.i c.requires.2 in
    (c.requires.0, rw c.in-4.is at h.in_x, rw c.in-4.is at h.in_y, omega (arith, k.1))

pub pass-requires : goal.pass-requires
pass-requires c =
    let h = there c.args.node.now.encoded.indexed c.requires.1 c.args.x c.args.y c.args.i c.requires.2 in
    let k = small c.args.node.now.encoded.indexed c.requires.1 c.args.x c.args.y c.args.i c.requires.2 in
    (c.requires.0, rw c.in-5.is at h.in_x, rw c.in-5.is at h.in_y, omega (arith, k.1))

pub child_variable-requires : goal.child_variable-requires
child_variable-requires c =
    let h = there c.args.node.now.encoded.indexed c.requires.1 c.args.x c.args.y c.args.i c.requires.2 in
    let k = small c.args.node.now.encoded.indexed c.requires.1 c.args.x c.args.y c.args.i c.requires.2 in
    let last : c.args.g < 7 = c.requires.1.group in
    let e : c.args.g ≡ 6 = omega arith in
    (rw e at h.in_x, omega (arith, k.1))

pub returns-in-2 : goal.returns-in-2
returns-in-2 c = rw c.in-2.is c.methods_of_job.ensures
