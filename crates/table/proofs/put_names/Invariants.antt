use Rattle.table.specs.Code.{NamesPut}
use Rattle.table.proofs.put_names.Given as goal

abbrev pub invariant-loop-i : goal.invariant-loop-i
invariant-loop-i l = NamesPut l.i l.o.names l.out
