-- Document 01's example answer, and answers around its edges.
-- Each is computed.
use mathlib.Core.Path.{◌≡◌, refl}
use mathlib.Core.List.{List, [], ◌∷◌, ◌++◌}
use Prim.Native.Nat.{ℕ}
use Rattle.lists.specs.Text.{bytes}
use Rattle.lists.specs.Question.{first_unmet}
use Rattle.lines.specs.Bytes.{digit, same_bytes}
use Rattle.lines.specs.Parts.{split, ended}
use Rattle.solver.specs.File.{answer_of}
use Rattle.solver.specs.Questions.{met12, met13, met14, values_of}
use Rattle.planning.specs.Model.{bits}

-- of 5 variables: the number of the first of 12 to 14 that is not met, or 0
abbrev unmet : List ℕ → ℕ
unmet bs = first_unmet ((12, met12 bs) ∷ (13, met13 bs) ∷ (14, met14 5 bs) ∷ [])

-- `s SATISFIABLE`, and then this
abbrev after : List ℕ → List ℕ
after bs = bytes "s SATISFIABLE\n" ++ bs

-- All met ---------------------------------------------------------------------------------------------------------------------
-- "`answer.txt` of `s SATISFIABLE` and `v 1 2 3 -4 5 0`"
pub example_met : unmet (after (bytes "v 1 2 3 -4 5 0\n")) ≡ 0
unfolding answer_of ended split same_bytes digit
example_met = refl

pub example_values : bits (values_of 5 (after (bytes "v 1 2 3 -4 5 0\n"))) ≡ 1 ∷ 1 ∷ 1 ∷ 0 ∷ 1 ∷ []
unfolding answer_of ended split same_bytes digit
example_values = refl

-- comments anywhere, several `v` lines, any order, and the 0 on a line of its own
pub in_pieces : unmet (after (bytes "c solved\nv -3 1\nc\nv 2 -5 -4\nv 0\n")) ≡ 0
unfolding answer_of ended split same_bytes digit
in_pieces = refl

pub in_pieces_values : bits (values_of 5 (after (bytes "c solved\nv -3 1\nc\nv 2 -5 -4\nv 0\n"))) ≡ 1 ∷ 1 ∷ 0 ∷ 0 ∷ 0 ∷ []
unfolding answer_of ended split same_bytes digit
in_pieces_values = refl

pub comment_first : unmet (bytes "c solved\ns SATISFIABLE\nv 1 2 3 4 5 0\n") ≡ 0
unfolding answer_of ended split same_bytes digit
comment_first = refl

-- 14 --------------------------------------------------------------------------------------------------------------------------
-- variable 5 does not stand
pub missing : unmet (after (bytes "v 1 2 3 -4 0\n")) ≡ 14
unfolding answer_of ended split same_bytes digit
missing = refl

-- variable 2 stands twice
pub doubled : unmet (after (bytes "v 1 2 3 -4 5 2 0\n")) ≡ 14
unfolding answer_of ended split same_bytes digit
doubled = refl

pub both_ways : unmet (after (bytes "v 1 2 3 -4 5 -2 0\n")) ≡ 14
unfolding answer_of ended split same_bytes digit
both_ways = refl

-- there is no variable 6
pub no_such : unmet (after (bytes "v 1 2 3 -4 5 6 0\n")) ≡ 14
unfolding answer_of ended split same_bytes digit
no_such = refl

pub none_stands : unmet (after (bytes "v 0\n")) ≡ 14
unfolding answer_of ended split same_bytes digit
none_stands = refl

pub five_digits : unmet (after (bytes "v 1 2 3 -4 5 99999 0\n")) ≡ 14
unfolding answer_of ended split same_bytes digit
five_digits = refl

-- 13 --------------------------------------------------------------------------------------------------------------------------
pub unknown_word : unmet (bytes "s UNKNOWN\n") ≡ 13
unfolding answer_of ended split same_bytes digit
unknown_word = refl

pub unsatisfiable_word : unmet (bytes "s UNSATISFIABLE\n") ≡ 13
unfolding answer_of ended split same_bytes digit
unsatisfiable_word = refl

-- 12 --------------------------------------------------------------------------------------------------------------------------
-- an empty file
pub empty : unmet [] ≡ 12
unfolding answer_of ended split same_bytes digit
empty = refl

pub empty_line : unmet (after (bytes "\nv 1 2 3 -4 5 0\n")) ≡ 12
unfolding answer_of ended split same_bytes digit
empty_line = refl

-- "LF ends each line."
pub last_ended : unmet (after (bytes "v 1 2 3 -4 5 0")) ≡ 12
unfolding answer_of ended split same_bytes digit
last_ended = refl

-- "A `c` line is `c` alone, or `c`, a space and anything."
pub comment_tab : unmet (after (bytes "c\tsolved\nv 1 2 3 -4 5 0\n")) ≡ 12
unfolding answer_of ended split same_bytes digit
comment_tab = refl

-- "One `s` line comes before any `v` line"
pub no_s : unmet (bytes "v 1 2 3 -4 5 0\n") ≡ 12
unfolding answer_of ended split same_bytes digit
no_s = refl

pub two_s : unmet (after (bytes "s SATISFIABLE\nv 1 2 3 -4 5 0\n")) ≡ 12
unfolding answer_of ended split same_bytes digit
two_s = refl

pub late_s : unmet (bytes "v 1 2 3 -4 5 0\ns SATISFIABLE\n") ≡ 12
unfolding answer_of ended split same_bytes digit
late_s = refl

pub other_word : unmet (bytes "s SATISFIED\n") ≡ 12
unfolding answer_of ended split same_bytes digit
other_word = refl

-- "A `v` line is `v` and one or more numbers, one space before each"
pub letter_alone : unmet (after (bytes "v\nv 1 2 3 -4 5 0\n")) ≡ 12
unfolding answer_of ended split same_bytes digit
letter_alone = refl

pub double_space : unmet (after (bytes "v 1  2 3 -4 5 0\n")) ≡ 12
unfolding answer_of ended split same_bytes digit
double_space = refl

pub trailing_space : unmet (after (bytes "v 1 2 3 -4 5 0 \n")) ≡ 12
unfolding answer_of ended split same_bytes digit
trailing_space = refl

-- "no leading zeros, at most five digits, a minus allowed except on 0"
pub zero_padded : unmet (after (bytes "v 01 2 3 -4 5 0\n")) ≡ 12
unfolding answer_of ended split same_bytes digit
zero_padded = refl

pub six_digits : unmet (after (bytes "v 1 2 3 -4 5 100000 0\n")) ≡ 12
unfolding answer_of ended split same_bytes digit
six_digits = refl

pub minus_zero : unmet (after (bytes "v 1 2 3 -4 5 -0\n")) ≡ 12
unfolding answer_of ended split same_bytes digit
minus_zero = refl

pub minus_alone : unmet (after (bytes "v 1 2 3 - 5 0\n")) ≡ 12
unfolding answer_of ended split same_bytes digit
minus_alone = refl

pub plus : unmet (after (bytes "v +1 2 3 -4 5 0\n")) ≡ 12
unfolding answer_of ended split same_bytes digit
plus = refl

-- "After SATISFIABLE the number 0 stands once, as the last number."
pub no_zero : unmet (after (bytes "v 1 2 3 -4 5\n")) ≡ 12
unfolding answer_of ended split same_bytes digit
no_zero = refl

pub no_numbers : unmet (after ([])) ≡ 12
unfolding answer_of ended split same_bytes digit
no_numbers = refl

pub after_the_zero : unmet (after (bytes "v 1 2 3 -4 0 5\n")) ≡ 12
unfolding answer_of ended split same_bytes digit
after_the_zero = refl

pub two_zeros : unmet (after (bytes "v 1 2 3 -4 5 0\nv 0\n")) ≡ 12
unfolding answer_of ended split same_bytes digit
two_zeros = refl

-- "With the other two words there are no `v` lines."
pub unknown_numbers : unmet (bytes "s UNKNOWN\nv 1 2 3 -4 5 0\n") ≡ 12
unfolding answer_of ended split same_bytes digit
unknown_numbers = refl

pub unsatisfiable_zero : unmet (bytes "s UNSATISFIABLE\nv 0\n") ≡ 12
unfolding answer_of ended split same_bytes digit
unsatisfiable_zero = refl
