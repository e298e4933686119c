-- `listing::write` meets its contract. The loop's invariant: the rows of the first n nodes are written.
-- Assumes nothing.
use Rattle.listing.proofs.Loops.{Went}
use Rattle.listing.proofs.write.Given as goal

abbrev pub invariant-loop-n : goal.invariant-loop-n
invariant-loop-n l = Went l.e.table.now l.file l.values l.initial.out l.out l.p.at l.p.steps l.n
