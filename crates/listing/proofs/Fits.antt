-- "24,576 for a listing": what is read from any values fits, and so does the listing of every tree that is wanted.
-- By the laws of rows, and by demand 3.
use Prim.Native.Nat.{◌≤◌}
use native.Mathlib.Omega.{arith}
use lib.ListN.{length}
use Rattle.planning.specs.Table.{Table}
use Rattle.planning.specs.Model.{Valuation}
use Rattle.planning.specs.Accepted.{Accepted}
use Rattle.index.specs.Index.{source}
use Rattle.shape.proofs.Nodes.{few_nodes}
use Rattle.listing.specs.Listing.{Names}
use Rattle.listing.specs.Walk.{ShortNames}
use Rattle.listing.specs.Walk.{walked}
use Rattle.listing.proofs.Rows.{bytes_few}

pub walked_fits : {T : Table} {N : Names} → Accepted T → ShortNames N → (v : Valuation) → length (walked T N v) ≤ 24576
walked_fits {T} {N} a short v =
    let k = length (source T).nodes in
    omega (arith, bytes_few T a short v k (omega arith), few_nodes T a)
