-- Binary digits of a word: of a union, a difference and a power of two, and how many are set.
-- By the library's laws of the operations, and by recursion on the digit's place.
use Rattle.std.proofs.Common.{◌≡◌, ℕ, zero, suc, ◌+◌, ◌-◌, ◌/◌, ◌%◌, ◌^◌, ◌<◌, min, not, ◌&&◌, ◌||◌, eqb, sym, refl, ap, ◌∙◌, ap₂, mod-lt, zero-lt-suc, one-mul, div-one, add-one, arith, pow_pos, shr-shr, shr_lt}
use lib.Arith.{lt-one}
use lib.Bits.{bit_and, bit_or, and_step, and_le_l, or_shr, or_mod, shifted_half, shifted_even}
use lib.Count.{ones, ones_in, ones_step}
use lib.Dec.{eqb-suc-suc, eqb-suc-zero, eqb-zero-suc}
use lib.Pow.{mod-mod-pow, field}
use Rattle.bitset.specs.Set.{bit}

-- a digit is 0 or 1
pub digit_lt : (w i : ℕ) → bit w i < 2
digit_lt w i = mod-lt (w / 2 ^ i) (zero-lt-suc 1)

by_digit : (P : ℕ → Type 0) → P 0 → P 1 → (d : ℕ) → d < 2 → P d
by_digit P p q zero h = p
by_digit P p q (suc zero) h = q
by_digit P p q (suc (suc d)) h = absurd (omega arith)

by_digits : (P : ℕ → ℕ → Type 0) → P 0 0 → P 0 1 → P 1 0 → P 1 1 → (w v i : ℕ) → P (bit w i) (bit v i)
by_digits P p q r s w v i =
    by_digit (λ (d : ℕ). P d (bit v i)) (by_digit (P 0) p q (bit v i) (digit_lt v i)) (by_digit (P 1) r s (bit v i) (digit_lt v i)) (bit w i)
    (digit_lt w i)

-- the lowest digit, and those above it
digit_low : (w : ℕ) → bit w 0 ≡ w % 2
digit_low w = ap (λ (x : ℕ). x % 2) (div-one w)

digit_up : (w i : ℕ) → bit w (suc i) ≡ bit (w / 2) i
digit_up w i = let e : suc i ≡ 1 + i = omega arith in rw (e, shr-shr w 1 i)

pub digit_none : (i : ℕ) → bit 0 i ≡ 0
digit_none zero = refl
digit_none (suc i) = digit_up 0 i ∙ digit_none i

-- Operations ------------------------------------------------------------------------------------------------------------
pub digit_or : (w v i : ℕ) → eqb (bit (bit_or w v) i) 1 ≡ (eqb (bit w i) 1 || eqb (bit v i) 1)
digit_or w v i =
    ap (λ (x : ℕ). eqb x 1) (ap (λ (x : ℕ). x % 2) (or_shr w v i) ∙ or_mod (w / 2 ^ i) (v / 2 ^ i) 1)
    ∙ by_digits (λ (d e : ℕ). eqb (bit_or d e) 1 ≡ (eqb d 1 || eqb e 1)) refl refl refl refl w v i

minus_half : (w v : ℕ) → (w - bit_and w v) / 2 ≡ w / 2 - bit_and (w / 2) (v / 2)
minus_half w v = omega (arith, and_step w v, and_le_l (w / 2) (v / 2))

minus_low : (w v : ℕ) → (w - bit_and w v) % 2 ≡ w % 2 - min (w % 2) (v % 2)
minus_low w v = omega (arith, and_step w v, and_le_l (w / 2) (v / 2))

digit_minus : (w v i : ℕ) → bit (w - bit_and w v) i ≡ bit w i - min (bit w i) (bit v i)
digit_minus w v zero = rw (digit_low (w - bit_and w v), digit_low w, digit_low v) (minus_low w v)
digit_minus w v (suc i) =
    rw (digit_up (w - bit_and w v) i, digit_up w i, digit_up v i, minus_half w v) (digit_minus (w / 2) (v / 2) i)

pub digit_without : (w v i : ℕ) → eqb (bit (w - bit_and w v) i) 1 ≡ (eqb (bit w i) 1 && not (eqb (bit v i) 1))
digit_without w v i =
    ap (λ (x : ℕ). eqb x 1) (digit_minus w v i)
    ∙ by_digits (λ (d e : ℕ). eqb (d - min d e) 1 ≡ (eqb d 1 && not (eqb e 1))) refl refl refl refl w v i

power_even : (i : ℕ) → 2 ^ suc i % 2 ≡ 0
power_even i = rw (← one-mul (2 ^ suc i)) (shifted_even 1 i)

power_half : (i : ℕ) → 2 ^ suc i / 2 ≡ 2 ^ i
power_half i = rw (← one-mul (2 ^ suc i), shifted_half 1 i, one-mul (2 ^ i))

pub digit_power : (i j : ℕ) → eqb (bit (2 ^ i) j) 1 ≡ eqb j i
digit_power zero zero = refl
digit_power zero (suc j) = ap (λ (x : ℕ). eqb x 1) (digit_up 1 j ∙ digit_none j) ∙ sym (eqb-suc-zero j)
digit_power (suc i) zero =
    ap (λ (x : ℕ). eqb x 1) (digit_low (2 ^ suc i) ∙ power_even i) ∙ sym (eqb-zero-suc i)
digit_power (suc i) (suc j) =
    ap (λ (x : ℕ). eqb x 1) (digit_up (2 ^ suc i) j ∙ ap (λ (x : ℕ). bit x j) (power_half i)) ∙ digit_power i j ∙ sym (eqb-suc-suc j i)

-- How many digits are set ----------------------------------------------------------------------------------------------
half_lt : (w n : ℕ) → w < 2 ^ suc n → w / 2 < 2 ^ n
half_lt w n h = shr_lt n 1 (rw (add-one n) h)

-- all of a word's digits stand among its n lowest where it is below 2 ^ n
ones_in_ones : (n w : ℕ) → w < 2 ^ n → ones_in n w ≡ ones w
unfolding ones_in ones
ones_in_ones zero w h = ap ones (sym (lt-one h))
ones_in_ones (suc n) w h = ap (λ (x : ℕ). w % 2 + x) (ones_in_ones n (w / 2) (half_lt w n h)) ∙ sym (ones_step w)

-- the n lowest digits of a word are the digits of its remainder
low_digits : (n w : ℕ) → ones_in n (w % 2 ^ n) ≡ ones_in n w
unfolding ones_in
low_digits zero w = refl
low_digits (suc n) w = rw (← add-one n) (ap₂ (λ (d x : ℕ). d + x) (mod-mod-pow w n 1) (ap (ones_in n) (field w n 1) ∙ low_digits n (w / 2)))

pub ones_in_low : (n w : ℕ) → ones_in n w ≡ ones (w % 2 ^ n)
ones_in_low n w = sym (low_digits n w) ∙ ones_in_ones n (w % 2 ^ n) (mod-lt w (pow_pos n))
