-- Small lines computed.
-- By computation.
use mathlib.Core.Path.{◌≡◌, refl}
use mathlib.Core.List.{[], ◌∷◌}
use Rattle.lists.specs.Text.{bytes}
use Rattle.planning.specs.Text.{clause_line, header_line}
use Rattle.writer.specs.Literal.{clause_in}

-- 3 stands for variable 1 negated, 4 for variable 2
clause : clause_line (clause_in (3 ∷ 4 ∷ [])) ≡ bytes "-1 2 0\n"
clause = refl

empty_clause : clause_line (clause_in []) ≡ bytes "0\n"
empty_clause = refl

-- numerals of more than one digit
long_clause : clause_line (clause_in (20 ∷ 16383 ∷ [])) ≡ bytes "10 -8191 0\n"
long_clause = refl

header : header_line 5 9 ≡ bytes "p cnf 5 9\n"
header = refl
