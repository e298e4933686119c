use native.Mathlib.Omega.{arith}
use Rattle.cursor.proofs.Counts.{summing_more, body_most}
use Rattle.cursor.proofs.count.count_body.Goals as goal

pub overflow_add-k : goal.overflow_add-k
overflow_add-k c =
    omega (
      arith,
      c.loop-y.invariant.most,
      c.loop-y-test.true,
      c.children-y-end.ensures.1,
      body_most c.args.node.now.encoded.indexed c.args.node.now.there c.requires
          (omega (arith, c.loop-y-test.true, c.children-y-end.ensures.0)) c.body_len-k.ensures,
    )

pub loop-y-preserved : goal.loop-y-preserved
loop-y-preserved c =
    summing_more c.loop-y.invariant (omega (arith, c.loop-y-test.true, c.children-y-end.ensures.0)) c.body_len-k.ensures
    (body_most c.args.node.now.encoded.indexed c.args.node.now.there c.requires (omega (arith, c.loop-y-test.true, c.children-y-end.ensures.0)) c.body_len-k.ensures)
