-- Members as digits: which numbers are members, how many stand in a word, and how the members below a number go on.
-- By recursion on how many numbers are left.
use Rattle.std.proofs.Common.{◌≡◌, ℕ, zero, suc, ◌+◌, ◌-◌, ◌*◌, ◌/◌, ◌%◌, ◌^◌, ◌<◌, ◌≤◌, min, Bool, true, false, eqb, leb, List, [], ◌∷◌, ◌++◌, length, get_or, take, sym, refl, ap, ◌∙◌, append-nil, add-suc, zero-add, div-one, add-one, arith, length-append, length-take-le, get_or-take, shr-shr}
use lib.Bits.{bit_and, and_mask}
use lib.Count.{ones, ones_in}
use lib.ListN.{get_or-eq_default}
use Rattle.lists.specs.List.{cons_if, filter, from, up_to}
use Rattle.lists.proofs.Bool.{leb_cases}
use Rattle.lists.proofs.Member.{filter_same, length_filter}
use Rattle.lists.proofs.Number.{up_to_range, length_from}
use Rattle.bitset.specs.Set.{bit, contains, members_below, members}
use Rattle.bitset.proofs.Digits.{digit_lt, digit_none, ones_in_low}
use Rattle.lists.proofs.Place.{from_add, filter_append}

-- Numbers in a row -----------------------------------------------------------------------------------------------------
pub below_add : (ws : List ℕ) (m n : ℕ) → members_below ws (m + n) ≡ members_below ws m ++ filter (contains ws) (from m n)
below_add ws m n =
    ap (filter (contains ws)) (from_add 0 m n ∙ ap (λ (k : ℕ). from 0 m ++ from k n) (zero-add m))
    ∙ filter_append (contains ws) (from 0 m) (from m n)

-- one number more
pub below_member : (ws : List ℕ) (i : ℕ) → contains ws i ≡ true → members_below ws (i + 1) ≡ members_below ws i ++ (i ∷ [])
below_member ws i t = below_add ws i 1 ∙ ap (λ (b : Bool). members_below ws i ++ cons_if b i []) t

pub below_other : (ws : List ℕ) (i : ℕ) → contains ws i ≡ false → members_below ws (i + 1) ≡ members_below ws i
below_other ws i f =
    below_add ws i 1 ∙ ap (λ (b : Bool). members_below ws i ++ cons_if b i []) f ∙ append-nil (members_below ws i)

-- Which numbers are members ----------------------------------------------------------------------------------------------
contains_at : (ws : List ℕ) (k j : ℕ) → j < 64 → contains ws (64 * k + j) ≡ eqb (bit (get_or ws k 0) j) 1
contains_at ws k j h =
    let q : (64 * k + j) / 64 ≡ k = omega arith in
    let r : (64 * k + j) % 64 ≡ j = omega arith in
    rw (q, r)

-- past the last word nothing is a member
pub contains_past : (ws : List ℕ) (i : ℕ) → length ws ≤ i / 64 → contains ws i ≡ false
contains_past ws i h = rw (get_or-eq_default ws 0 h, digit_none (i % 64))

none_past : (ws : List ℕ) (i n : ℕ) → 64 * length ws ≤ i → filter (contains ws) (from i n) ≡ []
none_past ws i zero h = refl
none_past ws i (suc n) h =
    ap (λ (b : Bool). cons_if b i (filter (contains ws) (from (suc i) n))) (contains_past ws i (omega arith))
    ∙ none_past ws (suc i) n (omega arith)

below_past : (ws : List ℕ) (n : ℕ) → 64 * length ws ≤ n → members_below ws n ≡ members ws
below_past ws n h =
    let e : n ≡ 64 * length ws + (n - 64 * length ws) = omega arith in
    ap (members_below ws) e
    ∙ below_add ws (64 * length ws) (n - 64 * length ws)
    ∙ rw (none_past ws (64 * length ws) (n - 64 * length ws) (omega arith)) (append-nil (members ws))

-- so those below n are found among the numbers that have a word
pub below_end : (ws : List ℕ) (n : ℕ) → members_below ws (min n (64 * length ws)) ≡ members_below ws n
below_end ws n = leb_cases (members_below ws (min n (64 * length ws)) ≡ members_below ws n) n (64 * length ws) inside past
  where
    inside : n ≤ 64 * length ws → leb n (64 * length ws) ≡ true → members_below ws (min n (64 * length ws)) ≡ members_below ws n
    inside h t = let e : min n (64 * length ws) ≡ n = omega arith in ap (members_below ws) e

    past : 64 * length ws < n → leb n (64 * length ws) ≡ false → members_below ws (min n (64 * length ws)) ≡ members_below ws n
    past h t =
        let e : min n (64 * length ws) ≡ 64 * length ws = omega arith in
        ap (members_below ws) e ∙ sym (below_past ws n (omega arith))

-- the first k words have the members below 64 * k
below_take : (ws : List ℕ) (k n : ℕ) → n ≤ 64 * k → members_below (take k ws) n ≡ members_below ws n
below_take ws k n h =
    filter_same (contains (take k ws)) (contains ws) (up_to n)
    (λ i m. let l : i / 64 < k = omega (arith, up_to_range i n m) in rw (get_or-take k ws (i / 64) 0 l))

-- How many there are ---------------------------------------------------------------------------------------------------
length_cons_if : (d x : ℕ) (xs : List ℕ) → d < 2 → length (cons_if (eqb d 1) x xs) ≡ d + length xs
length_cons_if zero x xs h = omega arith
length_cons_if (suc zero) x xs h = omega arith
length_cons_if (suc (suc d)) x xs h = absurd (omega arith)

next_digits : (w j : ℕ) → w / 2 ^ suc j ≡ w / 2 ^ j / 2
next_digits w j = rw (← add-one j) (sym (shr-shr w j 1))

-- m numbers of word k, from its digit j on
count_digits : (ws : List ℕ) (k j m : ℕ) → j + m ≤ 64 → length (filter (contains ws) (from (64 * k + j) m)) ≡ ones_in m (get_or ws k 0 / 2 ^ j)
unfolding ones_in
count_digits ws k j zero h = refl
count_digits ws k j (suc m) h =
    rw (contains_at ws k j (omega arith), ← add-suc (64 * k) j)
    (length_cons_if (bit (get_or ws k 0) j) (64 * k + j) (filter (contains ws) (from (64 * k + suc j) m)) (digit_lt (get_or ws k 0) j)
    ∙ ap (λ (n : ℕ). bit (get_or ws k 0) j + n) (count_digits ws k (suc j) m (omega arith) ∙ ap (ones_in m) (next_digits (get_or ws k 0) j)))

-- the members below digit m of word k
count_below : (ws : List ℕ) (k m : ℕ) → m ≤ 64 → length (members_below ws (64 * k + m)) ≡ length (members_below ws (64 * k)) + ones (get_or ws k 0 % 2 ^ m)
count_below ws k m h =
    let z : 64 * k + 0 ≡ 64 * k = omega arith in
    ap length (below_add ws (64 * k) m)
    ∙ length-append (members_below ws (64 * k)) (filter (contains ws) (from (64 * k) m))
    ∙ ap (λ (n : ℕ). length (members_below ws (64 * k)) + n)
    (rw (z, div-one (get_or ws k 0)) at (count_digits ws k 0 m (omega arith)) ∙ ones_in_low m (get_or ws k 0))

-- the members in whole words
pub count_word : (ws : List ℕ) (k : ℕ) → get_or ws k 0 < 2 ^ 64 → length (members_below ws (64 * (k + 1))) ≡ length (members_below ws (64 * k)) + ones (get_or ws k 0)
count_word ws k f =
    let e : 64 * (k + 1) ≡ 64 * k + 64 = omega arith in
    let m : get_or ws k 0 % 2 ^ 64 ≡ get_or ws k 0 = omega arith in
    rw (e, count_below ws k 64 (omega arith), m)

pub length_below : (ws : List ℕ) (n : ℕ) → length (members_below ws n) ≤ n
length_below ws n = rw (length_from 0 n) at (length_filter (contains ws) (up_to n))

-- the members of the first k words
whole_words : (ws : List ℕ) (k : ℕ) → k ≤ length ws → members (take k ws) ≡ members_below ws (64 * k)
whole_words ws k h = rw (length-take-le k ws h) (below_take ws k (64 * k) (omega arith))

-- Rank -------------------------------------------------------------------------------------------------------------------
-- n, which counts the members in the words before that of i, and those of its word w & (s - 1)
pub rank_within : (ws : List ℕ) (i n s : ℕ) → i < 2 ^ 64 → i / 64 < length ws → n ≡ length (members (take (i / 64) ws)) % 2 ^ 64 → s ≡ 2 ^ (i % 64)
    → n + ones (bit_and (get_or ws (i / 64) 0) (s - 1)) ≡ length (members_below ws i)
rank_within ws i n s f h e g =
    let split : 64 * (i / 64) + i % 64 ≡ i = omega arith in
    let words = rw (whole_words ws (i / 64) (omega arith)) at e in
    let before : n ≡ length (members_below ws (64 * (i / 64))) = omega (arith, words, length_below ws (64 * (i / 64))) in
    rw (before, g, and_mask (get_or ws (i / 64) 0) (i % 64)) (sym (rw split at (count_below ws (i / 64) (i % 64) (omega arith))))

pub rank_past : (ws : List ℕ) (i n : ℕ) → i < 2 ^ 64 → length ws ≤ i / 64 → n ≡ length (members ws) % 2 ^ 64 → n ≡ length (members_below ws i)
rank_past ws i n f h e = rw (below_past ws i (omega arith)) (omega (arith, length_below ws (64 * length ws)))
