-- Inside the reader of an answer, nothing to believe: a number as the code reads it. `number_of` of crate `solver` is the meaning.
-- Assumes nothing.
use Rattle.std.specs.Prelude.{Bool, true, false, ◌&&◌, cond, List, ℕ, length, leb, Some, None}
use Rattle.std.specs.Prelude.{Option as CodeOption}
use Rattle.std.proofs.Math.Option.{Option, none, some}
use Rattle.lists.specs.List.{all}
use Rattle.planning.specs.Clause.{Lit, literal}
use Rattle.planning.specs.Promises.{read_decimal}
use Rattle.lines.specs.Bytes.{digit}
use Rattle.solver.specs.Number.{unpadded, positive, negative}
use Rattle.cells.specs.declared.number.Literal.{Literal}

-- the number that comes back
abbrev pub literal_from : CodeOption Literal → Option Lit
literal_from None = none
literal_from (Some n) = some (literal n.sign n.variable)

-- "a minus allowed except on 0"
abbrev pub with_sign : Bool → Option ℕ → Option Lit
with_sign true = positive
with_sign false = negative

-- the digits ds behind a number n that was read before them
abbrev pub digits_from : Bool → ℕ → List ℕ → Option Lit
digits_from sign n ds = with_sign sign (cond (all digit ds) (some (read_decimal n ds)) none)

-- "no leading zeros, at most five digits"
abbrev pub short : List ℕ → Bool
short ds = leb (length ds) 5 && unpadded ds

-- what stands behind the minus, if there is one
abbrev pub numeral_from : Bool → List ℕ → Option Lit
numeral_from sign ds = cond (short ds) (digits_from sign 0 ds) none
