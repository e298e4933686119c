use Rattle.cells.proofs.Numbers.{Digits}
use Rattle.cells.proofs.number.read_digits.Given as goal

abbrev pub invariant-loop-digit : goal.invariant-loop-digit
invariant-loop-digit l = Digits l.digits l.sign l.variable l.digit-index
