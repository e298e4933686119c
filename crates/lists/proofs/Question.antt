-- The first question that is not met.
-- By cases on whether each is met.
use mathlib.Core.Path.{◌≡◌, refl}
use mathlib.Core.Bool.{Bool, true, false}
use mathlib.Core.List.{List, ◌∷◌}
use Prim.Native.Nat.{ℕ, ◌<◌}
use native.Mathlib.Omega.{arith}
use Rattle.lists.specs.Question.{first_unmet}

-- where none is unmet, the first is met and none of the others is unmet
pub all_met : (n : ℕ) (b : Bool) (qs : List (ℕ × Bool)) → 0 < n → 0 ≡ first_unmet ((n, b) ∷ qs) → (b ≡ true) × (0 ≡ first_unmet qs)
all_met n true qs h e = (refl, e)
all_met n false qs h e = absurd (omega (arith, e))
