-- What the words of a set mean: every statement of specs/Promises.antt.
-- By the laws of digits, words and members, and by cases on whether there is a word.
use Rattle.std.proofs.Common.{◌≡◌, ℕ, zero, suc, ◌+◌, ◌-◌, ◌*◌, ◌/◌, ◌%◌, ◌^◌, ◌<◌, ◌≤◌, min, Bool, true, false, not, ◌&&◌, ◌||◌, eqb, ltb, ◌⊎◌, List, [], ◌∷◌, ◌++◌, length, get_or, take, sym, refl, ap, ◌∙◌, inl, inr, add-one, arith, length-set, get_or-set_other, take-suc, get_or-set_same}
use native.Mathlib.Decide.{ℕ_discrete}
use lib.Bits.{bit_or, or_zero_r, and_zero_r}
use lib.Count.{ones}
use lib.Seq.{take-append_seam, take-length, get_or-append_seam, set_out}
use Rattle.lists.specs.List.{Every, filter, cons_if, from, has}
use Rattle.lists.proofs.Bool.{bool_cases, clash, leb_cases, eqb_same, eqb_other}
use Rattle.lists.proofs.Every.{every_get_d}
use Rattle.lists.proofs.Member.{in_filter_in, in_filter_out, has_in, has_not}
use Rattle.lists.proofs.Number.{up_to_in}
use Rattle.lists.proofs.Rising.{rising_filter}
use Rattle.bitset.specs.Set.{without, onto, bit, contains, members_below, members, inserted, union, difference}
use Rattle.bitset.specs.Promises.{ones_of, Promises}
use Rattle.bitset.proofs.Digits.{digit_or, digit_without, digit_power}
use Rattle.bitset.proofs.Made.{made_members, made_whole}
use Rattle.bitset.proofs.Members.{below_add, below_end, contains_past, length_below, count_word}
use Rattle.bitset.proofs.Words.{length_onto, get_d_onto}

-- Members after an operation -------------------------------------------------------------------------------------------------
or_none : (a b : Bool) → a ≡ (a || (b && false))
or_none true b = refl
or_none false true = refl
or_none false false = refl

and_all : (a : Bool) → a ≡ (a && true)
and_all true = refl
and_all false = refl

-- whether there is a word for i
by_word : (ws : List ℕ) (i : ℕ) (P : Bool → Type 0) → (i / 64 < length ws → P true) → (length ws ≤ i / 64 → P false) → P (ltb (i / 64) (length ws))
by_word ws i P f g = leb_cases (P (ltb (i / 64) (length ws))) (suc (i / 64)) (length ws) (λ h t. rw t (f (omega arith))) (λ h t. rw t (g (omega arith)))

-- numbers of one word differ in their digit
same_word : (i j : ℕ) → j / 64 ≡ i / 64 → eqb (j % 64) (i % 64) ≡ eqb j i
same_word i j e = go (ℕ_discrete j i)
  where
    go : Dec (j ≡ i) → eqb (j % 64) (i % 64) ≡ eqb j i
    go (yes p) = rw (p, eqb_same (i % 64), eqb_same i)
    go (no u) = eqb_other (j % 64) (i % 64) (λ q. u (omega arith)) ∙ sym (eqb_other j i u)

insert_within : (ws : List ℕ) (i j : ℕ) → i / 64 < length ws → contains (inserted ws i) j ≡ (contains ws j || eqb j i)
insert_within ws i j h = go (ℕ_discrete (j / 64) (i / 64))
  where
    w : ℕ
    w = get_or ws (i / 64) 0

    go : Dec (j / 64 ≡ i / 64) → contains (inserted ws i) j ≡ (contains ws j || eqb j i)
    go (yes e) =
        rw (e, get_or-set_same ws (i / 64) (bit_or w (2 ^ (i % 64))) 0 h)
        (digit_or w (2 ^ (i % 64)) (j % 64) ∙ ap (λ (b : Bool). eqb (bit w (j % 64)) 1 || b) (digit_power (i % 64) (j % 64) ∙ same_word i j e))
    go (no u) =
        rw (get_or-set_other ws (i / 64) (j / 64) (bit_or w (2 ^ (i % 64))) 0 u, eqb_other j i (λ q. u (ap (λ (x : ℕ). x / 64) q)))
        (or_none (contains ws j) false)

insert_member : (ws : List ℕ) (i j : ℕ) → contains (inserted ws i) j ≡ (contains ws j || (eqb j i && ltb (i / 64) (length ws)))
insert_member ws i j =
    by_word ws i (λ (b : Bool). contains (inserted ws i) j ≡ (contains ws j || (eqb j i && b)))
    (λ h. insert_within ws i j h ∙ ap (λ (b : Bool). contains ws j || b) (and_all (eqb j i)))
    (λ h. rw (set_out ws (i / 64) (bit_or (get_or ws (i / 64) 0) (2 ^ (i % 64))) h) (or_none (contains ws j) (eqb j i)))

unite_member : (ws vs : List ℕ) (j : ℕ) → contains (union ws vs) j ≡ (contains ws j || (ltb (j / 64) (length ws) && contains vs j))
unite_member ws vs j =
    by_word ws j (λ (b : Bool). contains (union ws vs) j ≡ (contains ws j || (b && contains vs j)))
    (λ h. rw (get_d_onto bit_or or_zero_r ws vs (j / 64) h) (digit_or (get_or ws (j / 64) 0) (get_or vs (j / 64) 0) (j % 64)))
    (λ h. rw (contains_past ws j h, contains_past (onto bit_or ws vs) j (omega (arith, length_onto bit_or ws vs))))

without_none : (w : ℕ) → without w 0 ≡ w
without_none w = omega (arith, and_zero_r w)

subtract_member : (ws vs : List ℕ) (j : ℕ) → contains (difference ws vs) j ≡ (contains ws j && not (contains vs j))
subtract_member ws vs j =
    by_word ws j (λ (b : Bool). contains (difference ws vs) j ≡ (contains ws j && not (contains vs j)))
    (λ h. rw (get_d_onto without without_none ws vs (j / 64) h) (digit_without (get_or ws (j / 64) 0) (get_or vs (j / 64) 0) (j % 64)))
    (λ h. rw (contains_past ws j h, contains_past (onto without ws vs) j (omega (arith, length_onto without ws vs))))

-- The list of members --------------------------------------------------------------------------------------------------------
-- a member has a word
member_lt : (ws : List ℕ) (i : ℕ) → contains ws i ≡ true → i < 64 * length ws
member_lt ws i t =
    leb_cases (i < 64 * length ws) (suc (i / 64)) (length ws) (λ h e. omega arith) (λ h e. clash t (contains_past ws i (omega arith)))

listed_member : (ws : List ℕ) (i : ℕ) → contains ws i ≡ has (members ws) i
listed_member ws i = go (bool_cases (contains ws i))
  where
    go : (contains ws i ≡ true) ⊎ (contains ws i ≡ false) → contains ws i ≡ has (members ws) i
    go (inl t) =
        t ∙ sym (has_in (members ws) i (in_filter_in (contains ws) i (from 0 (64 * length ws)) (up_to_in i (64 * length ws) (member_lt ws i t)) t))
    go (inr f) = f ∙ sym (has_not (members ws) i (λ m. clash (in_filter_out (contains ws) i (from 0 (64 * length ws)) m).1 f))

-- the members below i, where there is a word for each number below i
first_within : (ws : List ℕ) (i : ℕ) → i ≤ 64 * length ws → members_below ws i ≡ take (length (members_below ws i)) (members ws)
first_within ws i h =
    let e : 64 * length ws ≡ i + (64 * length ws - i) = omega arith in
    sym (ap (take (length (members_below ws i))) (ap (members_below ws) e ∙ below_add ws i (64 * length ws - i))
    ∙ take-append_seam (members_below ws i) (filter (contains ws) (from i (64 * length ws - i))))

first_members : (ws : List ℕ) (i : ℕ) → members_below ws i ≡ take (length (members_below ws i)) (members ws)
first_members ws i = rw (← below_end ws i) (first_within ws (min i (64 * length ws)) (omega arith))

place_member : (ws : List ℕ) (i : ℕ) → contains ws i ≡ true → get_or (members ws) (length (members_below ws i)) 0 ≡ i
place_member ws i t =
    let m : ℕ = 64 * length ws - suc i in
    let e : 64 * length ws ≡ i + suc (64 * length ws - suc i) = omega (arith, member_lt ws i t) in
    ap (λ (l : List ℕ). get_or l (length (members_below ws i)) 0)
    (ap (members_below ws) e ∙ below_add ws i (suc m) ∙ ap (λ (b : Bool). members_below ws i ++ cons_if b i (filter (contains ws) (from (suc i) m))) t)
    ∙ get_or-append_seam (members_below ws i) i (filter (contains ws) (from (suc i) m)) 0

-- Counts ---------------------------------------------------------------------------------------------------------------------
ones_of_more : (ws : List ℕ) (w : ℕ) → ones_of (ws ++ (w ∷ [])) ≡ ones_of ws + ones w
ones_of_more [] w = omega arith
ones_of_more (v ∷ vs) w = omega (arith, ones_of_more vs w)

count_words : (ws : List ℕ) → ((k : ℕ) → get_or ws k 0 < 2 ^ 64) → (k : ℕ) → k ≤ length ws → length (members_below ws (64 * k)) ≡ ones_of (take k ws)
count_words ws f zero h = refl
count_words ws f (suc k) h =
    rw (← add-one k, count_word ws k (f k), count_words ws f k (omega arith))
    (sym (rw (add-one k, take-suc ws k 0 (omega arith)) (ones_of_more (take k ws) (get_or ws k 0))))

count_digits : (ws : List ℕ) → Every (λ (w : ℕ). w < 2 ^ 64) ws → length (members ws) ≡ ones_of ws
count_digits ws h =
    count_words ws (every_get_d (λ (w : ℕ). w < 2 ^ 64) ws 0 h (omega arith)) (length ws) (omega arith) ∙ ap ones_of (take-length ws)

pub promises : Promises
promises =
    record {
      insert = insert_member;
      insert_length = λ ws i. length-set ws (i / 64) (bit_or (get_or ws (i / 64) 0) (2 ^ (i % 64)));
      unite = unite_member;
      unite_length = λ ws vs. length_onto bit_or ws vs;
      subtract = subtract_member;
      subtract_length = λ ws vs. length_onto without ws vs;
      rising = λ ws. rising_filter (contains ws) (64 * length ws);
      member = listed_member;
      first = first_members;
      place = place_member;
      at_most = λ ws. length_below ws (64 * length ws);
      digits = count_digits;
      made = made_members insert_member;
      whole = λ ws h. made_whole insert_member ws h (rising_filter (contains ws) (64 * length ws)) (listed_member ws);
    }
