use native.Mathlib.Omega.{arith}
use Rattle.shape.proofs.Groups.{in_row}
use Rattle.shape.proofs.encoded.Encoded.row_len.Goals as goal

pub returns-then-y-ys_in : goal.returns-then-y-ys_in
returns-then-y-ys_in c =
    in_row c.args.self.now.indexed c.requires (omega (arith, c.if-x-xs_in.true, c.xs_in.ensures.0)) (omega (arith, c.if-y-ys_in.true, c.ys_in.ensures.0))
    c.len_in.ensures
