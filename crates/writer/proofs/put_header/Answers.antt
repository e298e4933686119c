-- `writer::put_header` meets its contract: its five parts stand one behind the other.
-- Assumes nothing.
use native.Mathlib.Omega.{arith}
use Rattle.writer.proofs.Header.{wrote_header}
use Rattle.writer.proofs.put_header.Goals as goal

pub returns : goal.returns
returns c =
    wrote_header c.args.v c.args.c (omega (arith, c.requires))
    c.put_bytes-a.ensures
    c.put_decimal-b.ensures
    c.put_byte-d.ensures
    c.put_decimal-e.ensures
    c.put_byte.ensures
