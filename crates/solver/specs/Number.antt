-- A number of an answer file: which bytes are one, and what it says of a variable (a DIMACS literal).
-- Assumes nothing.
use Rattle.std.specs.Prelude.{Bool, true, false, not, ◌&&◌, cond, List, [], ◌∷◌, ℕ, zero, suc, length, eqb, leb}
use Rattle.std.proofs.Math.Option.{Option, none, some}
use Rattle.lists.specs.List.{all}
use Rattle.planning.specs.Clause.{Lit, pos, neg}
use Rattle.planning.specs.Promises.{read_decimal}
use Rattle.lines.specs.Bytes.{digit}

-- "no leading zeros": a digit alone, or a first digit other than 0
abbrev pub unpadded : List ℕ → Bool
unpadded [] = false
unpadded (d ∷ []) = true
unpadded (d ∷ e ∷ ds) = not (eqb d 48)

-- "no leading zeros, at most five digits"
abbrev pub numeral : List ℕ → Option ℕ
numeral ds = cond (all digit ds && (leb (length ds) 5 && unpadded ds)) (some (read_decimal 0 ds)) none

abbrev pub positive : Option ℕ → Option Lit
positive none = none
positive (some n) = some (pos n)

-- "a minus allowed except on 0"
abbrev pub negative : Option ℕ → Option Lit
negative none = none
negative (some zero) = none
negative (some (suc n)) = some (neg (suc n))

-- a number says of a variable that it is true, or with a minus that it is false; the number 0 is `pos 0`
abbrev pub number_of : List ℕ → Option Lit
number_of [] = none
number_of (b ∷ bs) = cond (eqb b 45) (negative (numeral bs)) (positive (numeral (b ∷ bs)))

abbrev pub one_more : Option Lit → Option (List Lit) → Option (List Lit)
one_more none ls = none
one_more (some l) none = none
one_more (some l) (some ls) = some (l ∷ ls)

-- all of them, if each part is a number
abbrev pub numbers_of : List (List ℕ) → Option (List Lit)
numbers_of [] = some []
numbers_of (p ∷ ps) = one_more (number_of p) (numbers_of ps)
