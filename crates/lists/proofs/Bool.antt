-- Booleans, tests of numbers, and options.
-- By cases.
use mathlib.Core.Path.{◌≡◌, refl, sym, ◌∙◌}
use mathlib.Core.Bool.{Bool, true, false, not, ◌&&◌, ◌||◌}
use mathlib.Core.Logic.{◌⊎◌, inl, inr}
use mathlib.Core.Option.{Option, none, some}
use Prim.Native.Nat.{ℕ, ◌≤◌, ◌<◌}
use native.Mathlib.Omega.{arith}
use native.Mathlib.Decide.{dec_le}
use lib.Dec.{T as So, eqb, leb, eqb→eq, eqb_refl, leb→le, le→leb}

pub bool_cases : (b : Bool) → (b ≡ true) ⊎ (b ≡ false)
bool_cases true = inl refl
bool_cases false = inr refl

pub clash : {A : Type 0} {b : Bool} → b ≡ true → b ≡ false → A
clash p q = let z : ◌≡◌ {A = ℕ} 0 1 = cc in absurd (omega arith)

pub false_of : (b : Bool) → (b ≡ true → ⊥) → b ≡ false
false_of true u = absurd (u refl)
false_of false u = refl

pub not-true : (b : Bool) → not b ≡ true → b ≡ false
not-true true h = sym h
not-true false h = refl

-- what `if !f(..)` tells of f's answer r, which is t
pub said_no : {r t : Bool} → r ≡ t → not r ≡ true → t ≡ false
said_no {r} e n = sym e ∙ not-true r n

pub said_yes : {r t : Bool} → r ≡ t → not r ≡ false → t ≡ true
said_yes {r} e n = sym e ∙ not-false r n
  where
    not-false : (b : Bool) → not b ≡ false → b ≡ true
    not-false true h = refl
    not-false false h = sym h

pub and_off : (a : Bool) → (a && false) ≡ false
and_off true = refl
and_off false = refl

pub and_on : (a : Bool) → (a && true) ≡ a
and_on true = refl
and_on false = refl

pub or_off : (a : Bool) → (a || false) ≡ a
or_off true = refl
or_off false = refl

pub and_l : (a b : Bool) → (a && b) ≡ true → a ≡ true
and_l true b h = refl
and_l false b h = h

pub and_r : (a b : Bool) → (a && b) ≡ true → b ≡ true
and_r true b h = h
and_r false b h = clash h refl

pub and_in : (a b : Bool) → a ≡ true → b ≡ true → (a && b) ≡ true
and_in true b p q = q
and_in false b p q = p

pub or_out : (a b : Bool) → (a || b) ≡ true → (a ≡ true) ⊎ (b ≡ true)
or_out true b h = inl refl
or_out false b h = inr h

pub or_l : (a b : Bool) → a ≡ true → (a || b) ≡ true
or_l true b p = refl
or_l false b p = clash p refl

pub or_r : (a b : Bool) → b ≡ true → (a || b) ≡ true
or_r true b p = refl
or_r false b p = p

pub and_assoc : (a b c : Bool) → ((a && b) && c) ≡ (a && (b && c))
and_assoc true b c = refl
and_assoc false b c = refl

pub or_assoc : (a b c : Bool) → ((a || b) || c) ≡ (a || (b || c))
or_assoc true b c = refl
or_assoc false b c = refl

-- Tests of numbers ---------------------------------------------------------------------------------------------------
pub so_of : (b : Bool) → b ≡ true → So b
so_of true p = tt
so_of false p = clash p refl

pub of_so : (b : Bool) → So b → b ≡ true
of_so true t = refl
of_so false t = absurd t

pub eqb_sound : (m n : ℕ) → eqb m n ≡ true → m ≡ n
eqb_sound m n h = eqb→eq m n (so_of (eqb m n) h)

pub eqb_same : (n : ℕ) → eqb n n ≡ true
eqb_same n = of_so (eqb n n) (eqb_refl n)

pub eqb_other : (m n : ℕ) → (m ≡ n → ⊥) → eqb m n ≡ false
eqb_other m n u = false_of (eqb m n) (λ h. u (eqb_sound m n h))

pub leb_sound : (m n : ℕ) → leb m n ≡ true → m ≤ n
leb_sound m n h = leb→le m n (so_of (leb m n) h)

pub leb_in : (m n : ℕ) → m ≤ n → leb m n ≡ true
leb_in m n h = of_so (leb m n) (le→leb m n h)

-- a test by leb, and by ltb, which is leb of the next number: what each outcome says
pub leb_cases : (A : Type 0) (m n : ℕ) → (m ≤ n → leb m n ≡ true → A) → (n < m → leb m n ≡ false → A) → A
leb_cases A m n f g = go (dec_le m n)
  where
    go : Dec (m ≤ n) → A
    go (yes h) = f h (leb_in m n h)
    go (no u) = g (omega arith) (false_of (leb m n) (λ h. u (leb_sound m n h)))

-- Options ------------------------------------------------------------------------------------------------------------
module _ {A : Type 0} where
  pub some_inj : {a b : A} → ◌≡◌ {A = Option A} (some a) (some b) → a ≡ b
  some_inj e = cc

  pub none≢some : {B : Type 0} {a : A} → ◌≡◌ {A = Option A} none (some a) → B
  none≢some e = let z : ◌≡◌ {A = ℕ} 0 1 = cc in absurd (omega arith)

pub leb_no : (m n : ℕ) → n < m → leb m n ≡ false
leb_no m n h = false_of (leb m n) (λ e. absurd (omega (arith, leb_sound m n e)))
