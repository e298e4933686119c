-- text_buffer has the length that it says.
-- By the law of lists that repeat a value: the list is never counted out.
use lib.ListN.{length-replicate}
use Rattle.std.proofs.Common.{ℕ, sym}
use Rattle.programs.proofs.text_buffer.Goals as goal

pub returns : goal.returns
returns c = sym (length-replicate {0} {A = ℕ} 1048576 0)
