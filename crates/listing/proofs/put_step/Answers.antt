-- `listing::put_step` meets its contract: there is room for each field behind those before it.
-- Assumes nothing.
use mathlib.Core.List.{[], ◌∷◌}
use native.Mathlib.Omega.{arith}
use lib.ListN.{length-append}
use Rattle.planning.specs.Text.{decimal}
use Rattle.planning.proofs.Text.Numeral.{decimal_length}
use Rattle.listing.proofs.Writes.{wrote_step}
use Rattle.listing.proofs.put_step.Goals as goal

pub put_number-b-requires : goal.put_number-b-requires
put_number-b-requires c =
    omega (arith, c.requires.0, c.put_letter-a.ensures.end, decimal_length c.args.place 3 c.requires.1)

pub put_name-requires : goal.put_name-requires
put_name-requires c =
    omega (
      arith,
      c.requires.0,
      c.requires.2,
      c.put_letter-a.ensures.end,
      decimal_length c.args.place 3 c.requires.1,
      c.put_number-b.ensures.end,
      length-append (decimal c.args.place) (9 ∷ []),
    )

pub returns : goal.returns
returns c =
    wrote_step (omega (arith, c.requires.0)) c.args.place c.args.name.now c.put_letter-a.ensures c.put_number-b.ensures c.put_name.ensures
