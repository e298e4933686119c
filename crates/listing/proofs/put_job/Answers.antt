-- `listing::put_job` meets its contract: there is room for each field behind those before it.
-- Assumes nothing.
use mathlib.Core.List.{[], ◌∷◌}
use native.Mathlib.Omega.{arith}
use lib.ListN.{length-append}
use Rattle.planning.specs.Text.{decimal}
use Rattle.planning.proofs.Text.Numeral.{decimal_length}
use Rattle.listing.proofs.Writes.{wrote_job}
use Rattle.listing.proofs.put_job.Goals as goal

pub put_number-requires : goal.put_number-requires
put_number-requires c =
    omega (
      arith,
      c.requires.0,
      c.requires.2,
      c.put_letter-a.ensures.end,
      decimal_length c.args.depth 0 c.requires.1,
      c.put_number-b.ensures.end,
      length-append (decimal c.args.depth) (9 ∷ []),
      c.put_name-c.ensures.end,
      length-append c.args.name.now (9 ∷ []),
      decimal_length c.args.method 2
          c.requires.3,
    )

pub returns : goal.returns
returns c =
    wrote_job (omega (arith, c.requires.0)) c.args.depth c.args.name.now c.args.method c.put_letter-a.ensures c.put_number-b.ensures
    c.put_name-c.ensures c.put_number.ensures
