-- Inside the stored cases, nothing to believe: the number that digits spell in base ten, as a number of 64 binary digits.
-- Assumes nothing.
use Rattle.std.specs.Prelude.{ℕ, ◌+◌, ◌*◌, ◌%◌, List, fold}

-- n with the digit d behind it, cut where it is too long; the lowest four binary digits of a byte "0" to "9" are its value
abbrev pub with_digit : ℕ → ℕ → ℕ
with_digit n d = ((n % 1844674407370955162) * 10 + d % 16) % 18446744073709551616

abbrev pub spelled : List ℕ → ℕ
spelled ds = fold with_digit 0 ds
