-- `indexing::put_methods` meets its contract. The loop's invariant: the methods of these jobs below m are written.
-- Assumes nothing.
use lib.ListN.{length}
use Rattle.table.specs.Layout.{table_in}
use Rattle.indexing.proofs.Loops.{Picked, is_method}
use Rattle.indexing.proofs.put_methods.Given as goal

abbrev pub invariant-loop-m : goal.invariant-loop-m
invariant-loop-m l = Picked (is_method (table_in l.ws) l.jobs) (length (table_in l.ws).methods) l.initial.out l.at l.out l.a l.m
