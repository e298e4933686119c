-- Which question of a call is the first that is not met.
-- By cases on whether each is met.
use mathlib.Core.Path.{◌≡◌, refl, sym, ◌∙◌}
use mathlib.Core.Bool.{Bool, true, false}
use mathlib.Core.List.{List, [], ◌∷◌}
use Prim.Native.Nat.{ℕ}
use native.Mathlib.Omega.{arith}
use Rattle.lists.specs.Question.{first_unmet}

-- Of an answer: 12 to 15 ------------------------------------------------------------------------------------------------------------
abbrev pub three : (b c d : Bool) → List (ℕ × Bool)
three b c d = (12, b) ∷ (13, c) ∷ (14, d) ∷ []

abbrev pub four : (b c d e : Bool) → List (ℕ × Bool)
four b c d e = (12, b) ∷ (13, c) ∷ (14, d) ∷ (15, e) ∷ []

module _ (b c d e : Bool) where
  -- one of 12 to 14 is not met
  pub unmet_three : {q : ℕ} → q ≡ first_unmet (three b c d) → (q ≡ 0 → ⊥) → first_unmet (four b c d e) ≡ q
  unmet_three {q} h u = go b c d h
    where
      go : (b c d : Bool) → q ≡ first_unmet (three b c d) → first_unmet (four b c d e) ≡ q
      go false c d h = sym h
      go true false d h = sym h
      go true true false h = sym h
      go true true true h = absurd (u h)

  -- they are met, and 15 is or is not
  pub met_three : 0 ≡ first_unmet (three b c d) → first_unmet (four b c d e) ≡ first_unmet ((15, e) ∷ [])
  met_three h = go b c d h
    where
      go : (b c d : Bool) → 0 ≡ first_unmet (three b c d) → first_unmet (four b c d e) ≡ first_unmet ((15, e) ∷ [])
      go false c d h = absurd (omega arith)
      go true false d h = absurd (omega arith)
      go true true false h = absurd (omega arith)
      go true true true h = refl

pub record FourMet (b c d e : Bool) : Type 0 where
  pub twelfth : b ≡ true
  pub thirteenth : c ≡ true
  pub fourteenth : d ≡ true
  pub fifteenth : e ≡ true

pub four_met : (b c d e : Bool) → first_unmet (four b c d e) ≡ 0 → FourMet b c d e
four_met false c d e h = absurd (omega arith)
four_met true false d e h = absurd (omega arith)
four_met true true false e h = absurd (omega arith)
four_met true true true false h = absurd (omega arith)
four_met true true true true h = record { twelfth = refl; thirteenth = refl; fourteenth = refl; fifteenth = refl }

pub four_of : (b c d e : Bool) → FourMet b c d e → first_unmet (four b c d e) ≡ 0
four_of b c d e m = rw (m.twelfth, m.thirteenth, m.fourteenth, m.fifteenth)

-- Behind question 10 -----------------------------------------------------------------------------------------------------------------
module _ (qs : List (ℕ × Bool)) where
  pub behind_10 : {a : Bool} → a ≡ true → first_unmet ((10, a) ∷ qs) ≡ first_unmet qs
  behind_10 p = rw p

  pub tenth_met : (a : Bool) → first_unmet ((10, a) ∷ qs) ≡ 0 → (a ≡ true) × (first_unmet qs ≡ 0)
  tenth_met false h = absurd (omega arith)
  tenth_met true h = (refl, h)

-- Of lent values: 10, 14 and 15 -----------------------------------------------------------------------------------------------------
pub lent_three : (a d e : Bool) → a ≡ true → d ≡ true → e ≡ true → first_unmet ((10, a) ∷ (14, d) ∷ (15, e) ∷ []) ≡ 0
lent_three a d e p q r = rw (p, q, r)

pub lent_met : (a d e : Bool) → first_unmet ((10, a) ∷ (14, d) ∷ (15, e) ∷ []) ≡ 0 → (a ≡ true) × (d ≡ true) × (e ≡ true)
lent_met false d e h = absurd (omega arith)
lent_met true false e h = absurd (omega arith)
lent_met true true false h = absurd (omega arith)
lent_met true true true h = (refl, refl, refl)
