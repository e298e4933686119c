-- The text of a formula, as lines of bytes: the DIMACS CNF form. Bytes are numbers: 10 is LF, 32 a space, 45 a minus, 48 to 57 are the
-- digits 0 to 9, and 112, 99, 110, 102 are p, c, n, f.
-- Assumes nothing.
use Rattle.std.specs.Prelude.{cond, List, [], ◌∷◌, ◌++◌, map, ℕ, zero, suc, ◌+◌, ◌-◌, ◌/◌, ◌%◌, length, drop, leb, ltb}
use Rattle.lists.specs.List.{concat, concat_map}
use Rattle.planning.specs.Table.{Table}
use Rattle.planning.specs.Variable.{variables}
use Rattle.planning.specs.Clause.{Lit, pos, neg, Clause, formula}

-- Numerals -----------------------------------------------------------------------------------------------------------------
-- "Numerals are in base ten": the digits of n, the most significant first, put in front of rest, where n has at most k of them
abbrev pub digits : (k n : ℕ) → List ℕ → List ℕ
digits zero n rest = rest
digits (suc k) n rest = cond (ltb n 10) ((48 + n) ∷ rest) (digits k (n / 10) ((48 + n % 10) ∷ rest))

-- n has at most n + 1 digits
abbrev pub decimal : ℕ → List ℕ
decimal n = digits (suc n) n []

-- Lines --------------------------------------------------------------------------------------------------------------------
-- a literal's number: the variable's numeral, with a minus in front where it is negated
abbrev pub lit_text : Lit → List ℕ
lit_text (pos n) = decimal n
lit_text (neg n) = 45 ∷ decimal n

-- "a clause is its numbers and a 0; one space between, LF after"
abbrev pub clause_line : Clause → List ℕ
clause_line c = concat_map (λ l. lit_text l ++ (32 ∷ [])) c ++ (48 ∷ 10 ∷ [])

-- "The header is `p cnf`, variables, clauses"
abbrev pub header_line : (variables clauses : ℕ) → List ℕ
header_line n m = 112 ∷ 32 ∷ 99 ∷ 110 ∷ 102 ∷ 32 ∷ (decimal n ++ (32 ∷ (decimal m ++ (10 ∷ []))))

-- "line 0 is the header, line j the jth clause"
abbrev pub lines : Table → List (List ℕ)
lines T = header_line (variables T) (length (formula T)) ∷ map clause_line (formula T)

-- the whole text
abbrev pub text : Table → List ℕ
text T = concat (lines T)

-- A text call --------------------------------------------------------------------------------------------------------------
-- "as many whole lines as fit" into n bytes, of these lines: up to the first that does not fit behind those before it
abbrev pub fitting : ℕ → List (List ℕ) → List (List ℕ)
fitting n [] = []
fitting n (l ∷ ls) = cond (leb (length l) n) (l ∷ fitting (n - length l) ls) []

-- "A text call begins at a given line": with a buffer of n bytes and begun at line j, these are the lines that it writes
abbrev pub lines_from : Table → (j n : ℕ) → List (List ℕ)
lines_from T j n = fitting n (drop j (lines T))

-- the bytes that it writes; "it returns the bytes used and the next line"
abbrev pub written : Table → (j n : ℕ) → List ℕ
written T j n = concat (lines_from T j n)

abbrev pub bytes_used : Table → (j n : ℕ) → ℕ
bytes_used T j n = length (written T j n)

abbrev pub next_line : Table → (j n : ℕ) → ℕ
next_line T j n = j + length (lines_from T j n)
