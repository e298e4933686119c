-- The numerals of an answer are those of the numbers up to 99,999, and no other bytes.
-- By recursion on the digits.
use mathlib.Core.Path.{◌≡◌, refl, sym, ap, ap₂, ◌∙◌, subst}
use mathlib.Core.Bool.{Bool, true, false, not, ◌&&◌, cond}
use mathlib.Core.List.{List, [], ◌∷◌, ◌++◌, append-nil}
use mathlib.Core.Logic.{◌↔◌}
use mathlib.Core.Option.{none, some}
use Prim.Native.Nat.{ℕ, zero, suc, ◌+◌, ◌-◌, ◌*◌, ◌/◌, ◌%◌, ◌^◌, ◌≤◌, ◌<◌}
use native.Mathlib.Nat.{mul_assoc, mul_comm, pow-suc}
use native.Mathlib.Omega.{arith}
use native.Mathlib.Decide.{dec_lt}
use lib.ListN.{length, get_or}
use lib.Dec.{eqb, leb}
use Rattle.lists.specs.List.{all, Every}
use Rattle.lists.proofs.Bool.{clash, not-true, and_l, and_r, and_in, eqb_other, leb_sound, leb_in, leb_cases, some_inj, none≢some}
use Rattle.lists.proofs.Member.{all_in, all_out}
use Rattle.lists.proofs.Every.{every_of, every_out}
use Rattle.planning.specs.Text.{digits, decimal}
use Rattle.planning.specs.Promises.{read_decimal, Digit}
use Rattle.planning.proofs.Text.Numeral.{numeral as numeral-laws, decimal_length}
use Rattle.lines.specs.Bytes.{digit}
use Rattle.solver.specs.Number.{unpadded, numeral}

-- A numeral is read ------------------------------------------------------------------------------------------------------------
digits_yes : (ds : List ℕ) → Every Digit ds → all digit ds ≡ true
unfolding digit
digits_yes ds h = all_in digit ds (λ d m.
    let r = every_out Digit ds h d m in
    and_in (leb 48 d) (leb d 57) (leb_in 48 d r.0) (leb_in d 57 (omega (arith, r.1))))

unpadded_yes : (ds : List ℕ) → 49 ≤ get_or ds 0 0 → unpadded ds ≡ true
unpadded_yes [] h = absurd (omega arith)
unpadded_yes (d ∷ []) h = refl
unpadded_yes (d ∷ e ∷ ds) h = ap not (eqb_other d 48 (λ z. omega arith))

numeral_yes : (ds : List ℕ) (n : ℕ) → Every Digit ds → length ds ≤ 5 → 49 ≤ get_or ds 0 0 → read_decimal 0 ds ≡ n → numeral ds ≡ some n
numeral_yes ds n h l p e =
    ap (λ (c : Bool). cond c (some (read_decimal 0 ds)) none)
    (and_in (all digit ds) (leb (length ds) 5 && unpadded ds) (digits_yes ds h) (and_in (leb (length ds) 5) (unpadded ds) (leb_in (length ds) 5 l) (unpadded_yes ds p)))
    ∙ ap (λ (m : ℕ). some m) e

numeral_in : (n : ℕ) → n ≤ 99999 → numeral (decimal n) ≡ some n
unfolding digit
numeral_in zero l = refl
numeral_in (suc m) l =
    let n = suc m in
    let r = numeral-laws n in
    numeral_yes (decimal n) n r.digits (decimal_length n 4 (omega arith)) (r.no_leading_zero (omega arith)) r.reads_back

-- and what is read is a numeral ------------------------------------------------------------------------------------------------
-- more fuel changes nothing
fuel : (k j n : ℕ) (rest : List ℕ) → n < k → n < j → digits k n rest ≡ digits j n rest
fuel zero j n rest p q = absurd (omega arith)
fuel (suc k) zero n rest p q = absurd (omega arith)
fuel (suc k) (suc j) n rest p q = leb_cases (digits (suc k) n rest ≡ digits (suc j) n rest) (suc n) 10
    (λ h e. rw e)
    (λ h e. rw e (fuel k j (n / 10) ((48 + n % 10) ∷ rest) (omega arith) (omega arith)))

-- one digit more
digit_on : (k m d : ℕ) (rest : List ℕ) → 1 ≤ m → Digit d → digits (suc k) (m * 10 + (d - 48)) rest ≡ digits k m (d ∷ rest)
digit_on k m d rest p h = leb_cases (digits (suc k) (m * 10 + (d - 48)) rest ≡ digits k m (d ∷ rest)) (suc (m * 10 + (d - 48))) 10
    (λ g e. absurd (omega (arith, h.0)))
    (λ g e. rw e (ap₂ (λ (q x : ℕ). digits k q (x ∷ rest)) (omega (arith, h.0, h.1)) (omega (arith, h.0, h.1))))

digits_on : (ds : List ℕ) (k m : ℕ) (rest : List ℕ) → 1 ≤ m → Every Digit ds → digits (length ds + k) (read_decimal m ds) rest ≡ digits k m (ds ++ rest)
digits_on [] k m rest p h = let z : 0 + k ≡ k = omega arith in ap (λ (j : ℕ). digits j m rest) z
digits_on (d ∷ ds) k m rest p h =
    let z : suc (length ds) + k ≡ length ds + suc k = omega arith in
    ap (λ (j : ℕ). digits j (read_decimal (m * 10 + (d - 48)) ds) rest) z
    ∙ (digits_on ds (suc k) (m * 10 + (d - 48)) rest (omega arith) h.1 ∙ digit_on k m d (ds ++ rest) p h.0)

one_digit : (k d : ℕ) (rest : List ℕ) → Digit d → digits (suc k) (d - 48) rest ≡ d ∷ rest
one_digit k d rest h = rw (leb_in (suc (d - 48)) 10 (omega (arith, h.0, h.1))) (ap (λ (x : ℕ). x ∷ rest) (omega (arith, h.0)))

back : (d : ℕ) (ds : List ℕ) → Every Digit (d ∷ ds) → unpadded (d ∷ ds) ≡ true → decimal (read_decimal (d - 48) ds) ≡ d ∷ ds
back d [] h u = one_digit (d - 48) d [] h.0
back d (e ∷ es) h u =
    let m : 1 ≤ d - 48 = go (dec_lt 48 d) in
    let n = read_decimal (d - 48) (e ∷ es) in
    fuel (suc n) (length (e ∷ es) + suc n) n [] (omega arith) (omega arith)
    ∙ (digits_on (e ∷ es) (suc n) (d - 48) [] m h.1 ∙ (one_digit n d ((e ∷ es) ++ []) h.0 ∙ ap (λ (xs : List ℕ). d ∷ xs) (append-nil (e ∷ es))))
  where
    go : Dec (48 < d) → 1 ≤ d - 48
    go (yes l) = omega arith
    go (no l) =
        let z : d ≡ 48 = omega (arith, h.0.0) in
        clash (subst (λ (x : ℕ). eqb x 48 ≡ true) (sym z) refl) (not-true (eqb d 48) u)

digits_of : (ds : List ℕ) → all digit ds ≡ true → Every Digit ds
unfolding digit
digits_of ds h = every_of Digit ds (λ d m.
    let r = all_out digit ds h d m in
    (leb_sound 48 d (and_l (leb 48 d) (leb d 57) r), omega (arith, leb_sound d 57 (and_r (leb 48 d) (leb d 57) r))))

read_bound : (ds : List ℕ) (m j : ℕ) → Every Digit ds → m < j → read_decimal m ds < j * 10 ^ length ds
read_bound [] m j h p = omega arith
read_bound (d ∷ ds) m j h p =
    let r = read_bound ds (m * 10 + (d - 48)) (j * 10) h.1 (omega (arith, h.0.0, h.0.1)) in
    subst (λ (x : ℕ). read_decimal (m * 10 + (d - 48)) ds < x) (mul_assoc j 10 (10 ^ length ds) ∙ ap (λ (x : ℕ). j * x) (mul_comm 10 (10 ^ length ds) ∙ sym (pow-suc 10 (length ds)))) r

short_bound : (ds : List ℕ) → Every Digit ds → length ds ≤ 5 → read_decimal 0 ds ≤ 99999
short_bound [] h l = omega arith
short_bound (a ∷ []) h l = omega (arith, read_bound (a ∷ []) 0 1 h (omega arith))
short_bound (a ∷ b ∷ []) h l = omega (arith, read_bound (a ∷ b ∷ []) 0 1 h (omega arith))
short_bound (a ∷ b ∷ c ∷ []) h l = omega (arith, read_bound (a ∷ b ∷ c ∷ []) 0 1 h (omega arith))
short_bound (a ∷ b ∷ c ∷ d ∷ []) h l = omega (arith, read_bound (a ∷ b ∷ c ∷ d ∷ []) 0 1 h (omega arith))
short_bound (a ∷ b ∷ c ∷ d ∷ e ∷ []) h l = omega (arith, read_bound (a ∷ b ∷ c ∷ d ∷ e ∷ []) 0 1 h (omega arith))
short_bound (a ∷ b ∷ c ∷ d ∷ e ∷ f ∷ ds) h l = absurd (omega arith)

numeral_out : (ds : List ℕ) (n : ℕ) → numeral ds ≡ some n → (ds ≡ decimal n) × (n ≤ 99999)
numeral_out ds n e = go (all digit ds && (leb (length ds) 5 && unpadded ds)) refl e
  where
    text : (ds : List ℕ) → Every Digit ds → unpadded ds ≡ true → ds ≡ decimal (read_decimal 0 ds)
    text [] h u = clash u refl
    text (d ∷ ds) h u =
        let z : 0 * 10 + (d - 48) ≡ d - 48 = omega arith in
        sym (ap (λ (x : ℕ). decimal (read_decimal x ds)) z ∙ back d ds h u)

    go : (c : Bool) → (all digit ds && (leb (length ds) 5 && unpadded ds)) ≡ c → cond c (some (read_decimal 0 ds)) none ≡ some n → (ds ≡ decimal n) × (n ≤ 99999)
    go false p q = none≢some q
    go true p q =
        let z : read_decimal 0 ds ≡ n = some_inj q in
        let h = digits_of ds (and_l (all digit ds) (leb (length ds) 5 && unpadded ds) p) in
        let t = and_r (all digit ds) (leb (length ds) 5 && unpadded ds) p in
        let l = leb_sound (length ds) 5 (and_l (leb (length ds) 5) (unpadded ds) t) in
        (text ds h (and_r (leb (length ds) 5) (unpadded ds) t) ∙ ap decimal z, omega (arith, short_bound ds h l))

-- "no leading zeros, at most five digits": the text of a number below 100,000
pub numeral_exact : (ds : List ℕ) (n : ℕ) → (numeral ds ≡ some n) ↔ ((ds ≡ decimal n) × (n ≤ 99999))
numeral_exact ds n = (numeral_out ds n, λ h. ap numeral h.0 ∙ numeral_in n h.1)
