-- Questions 12 to 14 of an answer file, and the values that it gives n variables.
-- Assumes nothing.
use Rattle.std.specs.Prelude.{Bool, true, false, ◌&&◌, List, [], map, ℕ, length, eqb, leb}
use Rattle.std.proofs.Math.Option.{Option, none, some}
use Rattle.lists.specs.List.{filter, any, all, from}
use Rattle.planning.specs.Clause.{Lit, pos, neg, variable_of}
use Rattle.solver.specs.Line.{Word, satisfiable, unsatisfiable, unknown}
use Rattle.solver.specs.File.{Answer, answer_of}

abbrev pub is_some : Option Answer → Bool
is_some none = false
is_some (some a) = true

abbrev pub is_satisfiable : Word → Bool
is_satisfiable satisfiable = true
is_satisfiable unsatisfiable = false
is_satisfiable unknown = false

abbrev pub says_satisfiable : Option Answer → Bool
says_satisfiable none = false
says_satisfiable (some a) = is_satisfiable a.word

-- the numbers before the 0
abbrev pub numbers_said : Option Answer → List Lit
numbers_said none = []
numbers_said (some a) = a.numbers

-- how often variable k stands among these
abbrev pub times : ℕ → List Lit → ℕ
times k ls = length (filter (λ l. eqb k (variable_of l)) ls)

-- of n variables each stands once, and no other
abbrev pub once_each : ℕ → List Lit → Bool
once_each n ls = all (λ k. eqb (times k ls) 1) (from 1 n) && all (λ l. leb 1 (variable_of l) && leb (variable_of l) n) ls

-- 12. "Has the answer at most 65,536 bytes, formed as above?"
abbrev pub met12 : List ℕ → Bool
met12 bs = leb (length bs) 65536 && is_some (answer_of bs)

-- 13. "Does it say SATISFIABLE?"
abbrev pub met13 : List ℕ → Bool
met13 bs = says_satisfiable (answer_of bs)

-- 14, of n variables. "Does each variable stand once, and no other?"
abbrev pub met14 : ℕ → List ℕ → Bool
met14 n bs = once_each n (numbers_said (answer_of bs))

-- Values -------------------------------------------------------------------------------------------------------------------------
-- does this number say that variable k is true?
abbrev pub makes_true : ℕ → Lit → Bool
makes_true k (pos n) = eqb k n
makes_true k (neg n) = false

-- the values of n variables
abbrev pub truths : ℕ → List Lit → List Bool
truths n ls = map (λ k. any (makes_true k) ls) (from 1 n)

abbrev pub values_of : ℕ → List ℕ → List Bool
values_of n bs = truths n (numbers_said (answer_of bs))
