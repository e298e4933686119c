-- One record more is the same, or tells all of them apart.
use Rattle.std.proofs.Common.{◌≡◌, ◌/◌, ◌<◌, ◌∙◌, length, get_or, [], arith, ap}
use Rattle.nodes.specs.Nodes.{in_array, record_at}
use Rattle.nodes.proofs.Laws.{in_chunk}
use Rattle.nodes.proofs.Same.{same_none, same_next, same_out}
use Rattle.nodes.proofs.is_same.Goals as goal

pub loop-i-init : goal.loop-i-init
loop-i-init c = same_none c.args.flat.now c.args.ns.now

pub returns-then-ne : goal.returns-then-ne
returns-then-ne c =
    let fs = c.args.flat.now in
    let i = c.loop-i.i in
    let h : i < length fs / 5 = omega (arith, c.as_chunks.ensures.front_len, c.loop-i-test.true) in
    let e : c.from.result ≡ record_at fs i = c.from.ensures ∙ ap (λ l. in_array (get_or l i [])) c.as_chunks.ensures.front ∙ in_chunk fs (length fs / 5) i h in
    same_out fs c.args.ns.now i c.read.ensures e c.ne.ensures h c.if-ne.true

pub loop-i-preserved : goal.loop-i-preserved
loop-i-preserved c =
    let fs = c.args.flat.now in
    let i = c.loop-i.i in
    let h : i < length fs / 5 = omega (arith, c.as_chunks.ensures.front_len, c.loop-i-test.true) in
    let e : c.from.result ≡ record_at fs i = c.from.ensures ∙ ap (λ l. in_array (get_or l i [])) c.as_chunks.ensures.front ∙ in_chunk fs (length fs / 5) i h in
    same_next fs c.args.ns.now i c.read.ensures e c.ne.ensures c.loop-i.invariant c.if-ne.false
