-- One record more is laid: the next five words.
use Rattle.std.proofs.Common.{◌≡◌, ◌/◌, ◌<◌, ◌∙◌, length, get_or, [], arith, ap, sym}
use Rattle.nodes.specs.Nodes.{in_array, record_at}
use Rattle.nodes.proofs.Laws.{in_chunk, laid_none, laid_more}
use Rattle.nodes.proofs.scatter.Goals as goal

pub loop-i-init : goal.loop-i-init
loop-i-init c = sym (laid_none c.args.flat.now c.args.ns.now)

pub loop-i-preserved : goal.loop-i-preserved
loop-i-preserved c =
    let fs = c.args.flat.now in
    let i = c.loop-i.i in
    let h : i < length fs / 5 = omega (arith, c.as_chunks.ensures.front_len) in
    let e : c.from.result ≡ record_at fs i = c.from.ensures ∙ ap (λ l. in_array (get_or l i [])) c.as_chunks.ensures.front ∙ in_chunk fs (length fs / 5) i h in
    c.write.ensures ∙ rw (e, c.loop-i.invariant) (laid_more fs c.args.ns.now i (omega (arith, c.requires)))

pub returns : goal.returns
returns c =
    let e : c.loop-i.i ≡ length c.args.flat.now / 5 = omega (arith, c.as_chunks.ensures.front_len) in
    rw (← e) c.loop-i.invariant
