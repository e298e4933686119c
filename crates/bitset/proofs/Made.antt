-- A set made of its members: what it contains, and that words with the same members are the same words.
-- By recursion on the members, on the digits and on the words.
use Rattle.std.proofs.Common.{◌≡◌, ℕ, zero, suc, ◌+◌, ◌*◌, ◌/◌, ◌%◌, ◌^◌, ◌<◌, Bool, true, false, ◌&&◌, ◌||◌, eqb, ltb, List, [], ◌∷◌, length, get_or, set, replicate, sym, refl, ap, ◌∙◌, ap₂, mod-eq_of_lt, arith, lit<, length-set, lt-ltb}
use lib.Bits.{bit_or, or_lt}
use lib.ListN.{length-replicate}
use lib.Pow.{mod-pow-add, pow-lt}
use Rattle.lists.specs.List.{up_to, has, Every, Rising}
use Rattle.lists.proofs.Bool.{clash, and_on}
use Rattle.lists.proofs.Every.{every_get_d}
use Rattle.lists.proofs.Member.{filter_same}
use Rattle.lists.proofs.Rising.{filter_has}
use Rattle.bitset.specs.Set.{bit, contains, members_below, members, inserted, set_of}
use Rattle.bitset.proofs.Digits.{digit_lt, digit_none}

-- the same word, digit by digit
same_digit : (a b : ℕ) → a < 2 → b < 2 → eqb a 1 ≡ eqb b 1 → a ≡ b
same_digit zero zero h k e = refl
same_digit zero (suc zero) h k e = clash e refl
same_digit zero (suc (suc b)) h k e = absurd (omega arith)
same_digit (suc zero) zero h k e = clash (sym e) refl
same_digit (suc zero) (suc zero) h k e = refl
same_digit (suc zero) (suc (suc b)) h k e = absurd (omega arith)
same_digit (suc (suc a)) b h k e = absurd (omega arith)

same_low : (k w v : ℕ) → ((i : ℕ) → i < k → eqb (bit w i) 1 ≡ eqb (bit v i) 1) → w % 2 ^ k ≡ v % 2 ^ k
same_low zero w v f = omega arith
same_low (suc k) w v f =
    let e : suc k ≡ 1 + k = omega arith in
    rw (e, mod-pow-add w 1 k, mod-pow-add v 1 k, same_digit (bit w k) (bit v k) (digit_lt w k) (digit_lt v k) (f k (omega arith)), same_low k w v (λ i h. f i (omega arith)))

-- the same words, word by word
pub same_words : (ws vs : List ℕ) → length ws ≡ length vs → Every (λ (w : ℕ). w < 2 ^ 64) ws → Every (λ (w : ℕ). w < 2 ^ 64) vs
    → ((i : ℕ) → contains ws i ≡ contains vs i) → ws ≡ vs
same_words [] [] e p q f = refl
same_words [] (v ∷ vs) e p q f = absurd (omega arith)
same_words (w ∷ ws) [] e p q f = absurd (omega arith)
same_words (w ∷ ws) (v ∷ vs) e p q f = ap₂ (λ (x : ℕ) (l : List ℕ). x ∷ l) first (same_words ws vs (omega arith) p.1 q.1 later)
  where
    low : (i : ℕ) → i < 64 → eqb (bit w i) 1 ≡ eqb (bit v i) 1
    low i h =
        let a : i / 64 ≡ 0 = omega arith in
        let b : i % 64 ≡ i = omega arith in
        rw (a, b) at (f i)

    first : w ≡ v
    first = sym (mod-eq_of_lt p.0) ∙ same_low 64 w v low ∙ mod-eq_of_lt q.0

    later : (i : ℕ) → contains ws i ≡ contains vs i
    later i =
        let a : (64 + i) / 64 ≡ suc (i / 64) = omega arith in
        let b : (64 + i) % 64 ≡ i % 64 = omega arith in
        rw (a, b) at (f (64 + i))

-- What a set contains that was made of some numbers ------------------------------------------------------------------------
made_length : (n : ℕ) (is : List ℕ) → length (set_of n is) ≡ n
made_length n [] = length-replicate n 0
made_length n (i ∷ is) = length-set (set_of n is) (i / 64) (bit_or (get_or (set_of n is) (i / 64) 0) (2 ^ (i % 64))) ∙ made_length n is

get_d_zeros : (n i : ℕ) → ◌≡◌ {A = ℕ} (get_or (replicate n 0) i 0) 0
get_d_zeros zero i = refl
get_d_zeros (suc n) zero = refl
get_d_zeros (suc n) (suc i) = get_d_zeros n i

none_contained : (n i : ℕ) → contains (replicate n 0) i ≡ false
none_contained n i = rw (get_d_zeros n (i / 64), digit_none (i % 64))

or_swap : (a b : Bool) → (a || b) ≡ (b || a)
or_swap true true = refl
or_swap true false = refl
or_swap false true = refl
or_swap false false = refl

-- every word of it is one
abbrev Word : ℕ → Type 0
Word w = w < 2 ^ 64

zeros_words : (n : ℕ) → Every Word (replicate n 0)
zeros_words zero = tt
zeros_words (suc n) = (lit< tt, zeros_words n)

set_words : (ws : List ℕ) (i w : ℕ) → Every Word ws → Word w → Every Word (set ws i w)
set_words [] i w h k = tt
set_words (v ∷ vs) zero w h k = (k, h.1)
set_words (v ∷ vs) (suc i) w h k = (h.0, set_words vs i w h.1 k)

made_words : (n : ℕ) (is : List ℕ) → Every Word (set_of n is)
made_words n [] = zeros_words n
made_words n (i ∷ is) =
    let h = made_words n is in
    set_words (set_of n is) (i / 64) (bit_or (get_or (set_of n is) (i / 64) 0) (2 ^ (i % 64))) h
    (or_lt 64 (get_or (set_of n is) (i / 64) 0) (2 ^ (i % 64)) (every_get_d Word (set_of n is) 0 h (lit< tt) (i / 64)) (pow-lt {i = i % 64} {j = 64} (omega arith)))

module _ (insert : (ws : List ℕ) (i j : ℕ) → contains (inserted ws i) j ≡ (contains ws j || (eqb j i && ltb (i / 64) (length ws)))) where
  made_contains : (k n : ℕ) (is : List ℕ) → Rising k (64 * n) is → (j : ℕ) → contains (set_of n is) j ≡ has is j
  made_contains k n [] r j = none_contained n j
  made_contains k n (i ∷ is) r j =
      insert (set_of n is) i j
      ∙ rw (made_length n is, lt-ltb (i / 64) n (omega (arith, r.1)), and_on (eqb j i), made_contains (suc i) n is r.2 j) (or_swap (has is j) (eqb j i))

  pub made_members : (n : ℕ) (is : List ℕ) → Rising 0 (64 * n) is → members (set_of n is) ≡ is
  made_members n is r =
      ap (λ (m : ℕ). members_below (set_of n is) (64 * m)) (made_length n is)
      ∙ filter_same (contains (set_of n is)) (has is) (up_to (64 * n)) (λ i h. made_contains 0 n is r i)
      ∙ filter_has (64 * n) is r

  pub made_whole : (ws : List ℕ) → Every Word ws → Rising 0 (64 * length ws) (members ws) → ((i : ℕ) → contains ws i ≡ has (members ws) i)
      → set_of (length ws) (members ws) ≡ ws
  made_whole ws h r f =
      same_words (set_of (length ws) (members ws)) ws (made_length (length ws) (members ws)) (made_words (length ws) (members ws)) h
      (λ i. made_contains 0 (length ws) (members ws) r i ∙ sym (f i))
