-- Numerals: the last digit of a number behind the digits of its tenth.
-- By recursion on the digits left.
use mathlib.Core.Path.{◌≡◌, refl, ap, ◌∙◌}
use mathlib.Core.List.{List, [], ◌∷◌, ◌++◌, append_assoc}
use Prim.Native.Nat.{ℕ, zero, suc, ◌+◌, ◌/◌, ◌%◌, ◌^◌, ◌≤◌, ◌<◌}
use native.Mathlib.Nat.{div-lt_iff_lt-mul}
use native.Mathlib.Omega.{arith}
use lib.ListN.{length, length-append}
use Rattle.lists.proofs.Bool.{leb_cases}
use Rattle.planning.specs.Text.{digits, decimal}
use Rattle.planning.proofs.Text.Numeral.{decimal_length}

pub tenth_less : (n : ℕ) → 10 ≤ n → n / 10 < n
tenth_less n h = (div-lt_iff_lt-mul {k = 10} {x = n} {y = n} (omega arith)).1 (omega arith)

-- what stands behind the digits stays behind them
digits_append : (k n : ℕ) (xs ys : List ℕ) → digits k n (xs ++ ys) ≡ digits k n xs ++ ys
digits_append zero n xs ys = refl
digits_append (suc k) n xs ys = leb_cases (digits (suc k) n (xs ++ ys) ≡ digits (suc k) n xs ++ ys) (suc n) 10
    (λ h e. rw e refl)
    (λ h e. rw e (digits_append k (n / 10) ((48 + n % 10) ∷ xs) ys))

-- how many digits are allowed makes no difference where all of them are
digits_enough : (j k n : ℕ) (xs : List ℕ) → n < j → n < k → digits j n xs ≡ digits k n xs
digits_enough zero k n xs h l = absurd (omega arith)
digits_enough (suc j) zero n xs h l = absurd (omega arith)
digits_enough (suc j) (suc k) n xs h l = leb_cases (digits (suc j) n xs ≡ digits (suc k) n xs) (suc n) 10
    (λ p e. rw e refl)
    (λ p e. rw e (digits_enough j k (n / 10) ((48 + n % 10) ∷ xs) (omega (arith, tenth_less n (omega arith))) (omega (arith, tenth_less n (omega arith)))))

-- "Numerals are in base ten"
pub decimal_one : (n : ℕ) → n < 10 → decimal n ≡ (48 + n) ∷ []
decimal_one n h = leb_cases (decimal n ≡ (48 + n) ∷ []) (suc n) 10 (λ l e. rw e refl) (λ l e. absurd (omega arith))

pub decimal_more : (n : ℕ) → 10 ≤ n → decimal n ≡ decimal (n / 10) ++ ((48 + n % 10) ∷ [])
decimal_more n h = leb_cases (decimal n ≡ decimal (n / 10) ++ ((48 + n % 10) ∷ [])) (suc n) 10
    (λ l e. absurd (omega arith))
    (λ l e. rw e (digits_append n (n / 10) [] ((48 + n % 10) ∷ [])
    ∙ ap (λ (xs : List ℕ). xs ++ ((48 + n % 10) ∷ [])) (digits_enough n (suc (n / 10)) (n / 10) [] (tenth_less n h) (omega arith))))

-- two digits at once
pub hundredth_less : (n : ℕ) → 100 ≤ n → n / 100 < n
hundredth_less n h = (div-lt_iff_lt-mul {k = 100} {x = n} {y = n} (omega arith)).1 (omega arith)

pub decimal_two : (n : ℕ) → 10 ≤ n → n < 100 → decimal n ≡ ((48 + n / 10) ∷ []) ++ ((48 + n % 10) ∷ [])
decimal_two n h l = decimal_more n h ∙ ap (λ (xs : List ℕ). xs ++ ((48 + n % 10) ∷ [])) (decimal_one (n / 10) (omega arith))

pub decimal_hundreds : (n : ℕ) → 100 ≤ n → decimal n ≡ decimal (n / 100) ++ (((48 + n / 10 % 10) ∷ []) ++ ((48 + n % 10) ∷ []))
decimal_hundreds n h =
    let q : n / 10 / 10 ≡ n / 100 = omega arith in
    decimal_more n (omega arith)
    ∙ ap (λ (xs : List ℕ). xs ++ ((48 + n % 10) ∷ [])) (decimal_more (n / 10) (omega arith) ∙ ap (λ (m : ℕ). decimal m ++ ((48 + n / 10 % 10) ∷ [])) q)
    ∙ append_assoc (decimal (n / 100)) ((48 + n / 10 % 10) ∷ []) ((48 + n % 10) ∷ [])

-- How many digits --------------------------------------------------------------------------------------------------------------
pub length_one : (n : ℕ) → n < 10 → length (decimal n) ≡ 1
length_one n h = ap length (decimal_one n h)

pub length_more : (n : ℕ) → 10 ≤ n → length (decimal n) ≡ length (decimal (n / 10)) + 1
length_more n h = ap length (decimal_more n h) ∙ length-append (decimal (n / 10)) ((48 + n % 10) ∷ [])

pub length_two : (n : ℕ) → 10 ≤ n → n < 100 → length (decimal n) ≡ 2
length_two n h l = ap length (decimal_two n h l)

pub length_hundreds : (n : ℕ) → 100 ≤ n → length (decimal n) ≡ length (decimal (n / 100)) + 2
length_hundreds n h =
    let q : n / 10 / 10 ≡ n / 100 = omega arith in
    omega (arith, length_more n (omega arith), length_more (n / 10) (omega arith), ap (λ (m : ℕ). length (decimal m)) q)

-- a number of 64 binary digits has at most 20
pub length_most : (n : ℕ) → n < 2 ^ 64 → length (decimal n) ≤ 20
length_most n h = decimal_length n 19 (omega arith)
