-- The bytes so far are written.
use Rattle.writer.proofs.Copied.{Copied}
use Rattle.writer.proofs.put_bytes.Given as goal

abbrev pub invariant-loop-b : goal.invariant-loop-b
invariant-loop-b l = Copied l.bytes l.initial.out l.at l.out l.a l.b-index
