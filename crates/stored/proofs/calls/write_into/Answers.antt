-- `stored::calls::write_into` meets its contract: what the call hands back and leaves, of that many bytes.
-- Assumes nothing.
use Rattle.std.proofs.Common.{ℕ, List, ◌++◌, take, drop, ap, ◌∙◌}
use Rattle.encoding.specs.Calls.{writing_formula, formula_after}
use Rattle.stored.proofs.calls.write_into.Goals as goal

pub returns : goal.returns
returns c =
    let a = c.args in (
      c.write_formula.ensures.0 ∙ ap (λ (k : ℕ). writing_formula a.file.now a.line (take k a.buffer.now)) c.bytes_within-m.ensures.0,
      ap (λ (b : List ℕ). b ++ drop c.bytes_within-m.result a.buffer.now) c.write_formula.ensures.1 ∙ ap
          (λ (k : ℕ). formula_after a.file.now a.line (take k a.buffer.now) ++ drop k a.buffer.now) c.bytes_within-m.ensures.0,
    )
