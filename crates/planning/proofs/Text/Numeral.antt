-- Numerals: a number's is read back as that number, has no leading zero, and is as short as it can be.
-- By recursion on the digits left.
use mathlib.Core.Path.{◌≡◌, ap, ◌∙◌}
use mathlib.Core.List.{List, [], ◌∷◌}
use Prim.Native.Nat.{ℕ, zero, suc, ◌+◌, ◌-◌, ◌*◌, ◌/◌, ◌%◌, ◌^◌, ◌≤◌, ◌<◌}
use native.Mathlib.Nat.{div-add-mod', mod-lt, div-lt_iff_lt-mul, pow-suc}
use native.Mathlib.Omega.{arith}
use lib.ListN.{length, get_or}
use Rattle.lists.specs.List.{Every}
use Rattle.lists.proofs.Bool.{leb_cases}
use Rattle.planning.specs.Text.{digits, decimal}
use Rattle.planning.specs.Promises.{read_decimal, Digit, Numeral}

smaller : (n : ℕ) → 10 ≤ n → n / 10 < n
smaller n h = (div-lt_iff_lt-mul {k = 10} {x = n} {y = n} (omega arith)).1 (omega arith)

-- Read back ------------------------------------------------------------------------------------------------------------------
read_digits : (k n : ℕ) (rest : List ℕ) → n < k → read_decimal 0 (digits k n rest) ≡ read_decimal n rest
read_digits zero n rest l = absurd (omega arith)
read_digits (suc k) n rest l = leb_cases (read_decimal 0 (digits (suc k) n rest) ≡ read_decimal n rest) (suc n) 10
    (λ h e. rw e (ap (λ (m : ℕ). read_decimal m rest) (omega arith)))
    (λ h e. rw e (read_digits k (n / 10) ((48 + n % 10) ∷ rest) (omega (arith, smaller n (omega arith))) ∙ ap (λ (m : ℕ). read_decimal m rest) (whole n)))
  where
    whole : (n : ℕ) → n / 10 * 10 + ((48 + n % 10) - 48) ≡ n
    whole n = omega (arith, div-add-mod' n 10)

read_decimal_lem : (n : ℕ) → read_decimal 0 (decimal n) ≡ n
read_decimal_lem n = read_digits (suc n) n [] (omega arith)

-- Every byte is a digit, and the first is 0 only where the number is ----------------------------------------------------------
digits_are : (k n : ℕ) (rest : List ℕ) → Every Digit rest → Every Digit (digits k n rest)
digits_are zero n rest r = r
digits_are (suc k) n rest r = leb_cases (Every Digit (digits (suc k) n rest)) (suc n) 10
    (λ h e. rw e ((omega arith, omega arith), r))
    (λ h e. rw e (digits_are k (n / 10) ((48 + n % 10) ∷ rest) ((omega arith, omega (arith, mod-lt n {m = 10} (omega arith))), r)))

decimal_digits : (n : ℕ) → Every Digit (decimal n)
decimal_digits n = digits_are (suc n) n [] tt

first_digit : (k n : ℕ) (rest : List ℕ) → n < k → 1 ≤ n → 49 ≤ get_or (digits k n rest) 0 0
first_digit zero n rest l p = absurd (omega arith)
first_digit (suc k) n rest l p = leb_cases (49 ≤ get_or (digits (suc k) n rest) 0 0) (suc n) 10
    (λ h e. rw e (omega arith))
    (λ h e. rw e (first_digit k (n / 10) ((48 + n % 10) ∷ rest) (omega (arith, smaller n (omega arith))) (omega (arith, div-add-mod' n 10, mod-lt n {m = 10} (omega arith)))))

no_leading_zero : (n : ℕ) → 1 ≤ n → 49 ≤ get_or (decimal n) 0 0
no_leading_zero n p = first_digit (suc n) n [] (omega arith) p

pub numeral : (n : ℕ) → Numeral n
numeral n = record { reads_back = read_decimal_lem n; digits = decimal_digits n; no_leading_zero = no_leading_zero n }

-- At most j + 1 digits below 10 to the power j + 1 ------------------------------------------------------------------------------
digits_length : (k n j : ℕ) (rest : List ℕ) → n < 10 ^ suc j → length (digits k n rest) ≤ suc j + length rest
digits_length zero n j rest l = omega arith
digits_length (suc k) n j rest l = leb_cases (length (digits (suc k) n rest) ≤ suc j + length rest) (suc n) 10
    (λ h e. rw e (omega arith))
    (λ h e. rw e (go j (omega arith) l (λ i p. digits_length k (n / 10) i ((48 + n % 10) ∷ rest) p)))
  where
    go : (j : ℕ) → 10 ≤ n → n < 10 ^ suc j → ((i : ℕ) → n / 10 < 10 ^ suc i → length (digits k (n / 10) ((48 + n % 10) ∷ rest)) ≤ suc i + length ((48 + n % 10) ∷ rest))
        → length (digits k (n / 10) ((48 + n % 10) ∷ rest)) ≤ suc j + length rest
    go zero h l f = absurd (omega arith)
    go (suc j) h l f = let r = f j ((div-lt_iff_lt-mul {k = 10} {x = n} {y = 10 ^ suc j} (omega arith)).1 (rw (pow-suc 10 (suc j)) at l)) in omega arith

pub decimal_length : (n j : ℕ) → n < 10 ^ suc j → length (decimal n) ≤ suc j
decimal_length n j l = let h = digits_length (suc n) n j [] l in omega arith
