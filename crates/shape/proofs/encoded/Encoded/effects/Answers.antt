use native.Mathlib.Omega.{arith}
use Prim.Native.Nat.{◌<◌}
use mathlib.Core.Path.{◌≡◌}
use Rattle.shape.proofs.Slots.{needs_is, sets_is, clears_is}
use Rattle.shape.specs.Views.{table_of}
use Rattle.shape.proofs.encoded.Encoded.effects.Goals as goal

pub returns-in-0 : goal.returns-in-0
returns-in-0 c =
    rw c.in-0.is (needs_is (table_of c.args.self.now) c.args.self.now.indexed.accepted c.args.s c.needs.result c.needs.ensures)

pub returns-in-1 : goal.returns-in-1
returns-in-1 c =
    rw c.in-1.is (sets_is (table_of c.args.self.now) c.args.self.now.indexed.accepted c.args.s c.sets.result c.sets.ensures)

pub returns-in_default : goal.returns-in_default
returns-in_default c =
    let last : c.args.y < 3 = c.requires.1 in
    let e : c.args.y ≡ 2 = omega arith in
    rw (e, c.subtract.ensures)
    (clears_is (table_of c.args.self.now) c.args.self.now.indexed.accepted c.args.s c.clears-facts.result c.sets-in_default.result (omega arith)
    c.clears-facts.ensures c.sets-in_default.ensures)
