-- `programs::put_refused` meets its contract: its three writes, one behind the other.
-- Assumes nothing.
use Rattle.std.proofs.Common.{◌≤◌, length, ℕ, sym, subst}
use Rattle.planning.specs.Text.{decimal}
use Rattle.unmet.specs.Number.{number_of}
use Rattle.lists.specs.Written.{Wrote}
use Rattle.programs.specs.Output.{refused_line}
use Rattle.programs.proofs.Lines.{number_length}
use Rattle.programs.proofs.Writing.{digits_room, end_room, refused_wrote}
use Rattle.programs.proofs.put_refused.Goals as goal

pub put_decimal-b-requires : goal.put_decimal-b-requires
put_decimal-b-requires c =
    rw c.number.ensures (digits_room (number_of c.args.unmet) c.requires (number_length c.args.unmet) c.put_bytes-a.ensures)

pub put_byte-requires : goal.put_byte-requires
put_byte-requires c =
    end_room (number_of c.args.unmet) c.requires (number_length c.args.unmet) c.put_bytes-a.ensures (rw c.number.ensures at c.put_decimal-b.ensures)

pub returns : goal.returns
returns c =
    refused_wrote (number_of c.args.unmet) c.requires (number_length c.args.unmet) c.put_bytes-a.ensures
    (rw c.number.ensures at c.put_decimal-b.ensures) c.put_byte.ensures
