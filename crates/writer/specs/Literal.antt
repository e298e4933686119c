-- Inside the encoding, nothing to believe: a literal as one number. 2 * v stands for variable v, and 2 * v + 1 for v negated.
-- Assumes nothing.
use Rattle.std.specs.Prelude.{cond, List, map, ℕ, ◌+◌, ◌*◌, ◌/◌, ◌%◌, eqb}
use Rattle.planning.specs.Clause.{Lit, pos, neg, Clause}

-- the literal that a number stands for
abbrev pub lit_in : ℕ → Lit
lit_in c = cond (eqb (c % 2) 0) (pos (c / 2)) (neg (c / 2))

-- the number that stands for a literal
abbrev pub code_of : Lit → ℕ
code_of (pos v) = 2 * v
code_of (neg v) = 2 * v + 1

-- the clause that numbers stand for
abbrev pub clause_in : List ℕ → Clause
clause_in cs = map lit_in cs
