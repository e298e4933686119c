use Rattle.tree.proofs.Loops.{Gathering}
use Rattle.table.specs.Layout.{table_in}
use Rattle.tree.specs.Visit.{label_in}
use Rattle.tree.proofs.child_label.Given as goal

abbrev pub invariant-loop-m : goal.invariant-loop-m
invariant-loop-m l = Gathering (table_in l.ws) (label_in l.l) l.i l.m l.child
