-- `stored::calls::list_into` meets its contract: what the call hands back and leaves, of that many bytes.
-- Assumes nothing.
use Rattle.std.proofs.Common.{ℕ, List, ◌++◌, take, drop, ap, ◌∙◌}
use Rattle.answer.specs.Calls.{showing_answer, answer_listing_after}
use Rattle.stored.proofs.calls.list_into.Goals as goal

pub returns : goal.returns
returns c =
    let a = c.args in (
      c.list_answer.ensures.0 ∙ ap (λ (k : ℕ). showing_answer a.file.now a.reply.now (take k a.buffer.now)) c.bytes_within-m.ensures.0,
      ap (λ (b : List ℕ). b ++ drop c.bytes_within-m.result a.buffer.now) c.list_answer.ensures.1 ∙ ap
          (λ (k : ℕ). answer_listing_after a.file.now a.reply.now (take k a.buffer.now) ++ drop k a.buffer.now) c.bytes_within-m.ensures.0,
    )
