-- One node more is looked at.
use mathlib.Core.Path.{refl}
use native.Mathlib.Omega.{arith}
use lib.Dec.{eqb}
use Rattle.lists.proofs.Order.{ne_lt}
use Rattle.indexing.proofs.Nodes.{children_word}
use Rattle.indexing.proofs.Children.{found_none, found_room, found_more, found_most, found_past, found_all, eight}
use Rattle.indexing.proofs.Structs.{here, few_here}
use Rattle.indexing.proofs.node.Node.put_numbers.Goals as goal

pub overflow_add-e : goal.overflow_add-e
overflow_add-e c = let t = here c.args.self.now in omega (arith, c.word.ensures, children_word t, eight t)

pub overflow_step-number : goal.overflow_step-number
overflow_step-number c = omega (arith, few_here c.args.self.now)

pub loop-number-init : goal.loop-number-init
loop-number-init c = found_none (here c.args.self.now) c.args.out.now c.args.at c.requires

pub put_if-a-requires : goal.put_if-a-requires
put_if-a-requires c =
    let t = here c.args.self.now in
    let u = c.loop-number.invariant in
    found_room t u c.word.ensures (ne_lt (found_most t u c.word.ensures) c.if-a-e.false) (eqb c.word-in-loop-number.result c.args.self.now.number)

pub loop-number-preserved : goal.loop-number-preserved
loop-number-preserved c =
    let t = here c.args.self.now in
    let u = c.loop-number.invariant in
    found_more t u c.word.ensures (ne_lt (found_most t u c.word.ensures) c.if-a-e.false) c.word-in-loop-number.ensures refl c.put_if-a.ensures

pub returns-then-a-e : goal.returns-then-a-e
returns-then-a-e c = found_all (here c.args.self.now) c.loop-number.invariant c.word.ensures (omega (arith, c.if-a-e.true))

pub returns : goal.returns
returns c =
    let t = here c.args.self.now in
    found_all t c.loop-number.invariant c.word.ensures
    (found_past t c.loop-number.invariant c.word.ensures (omega (arith, c.loop-number-test.false, c.nodes-number-end.ensures.0)))
