-- The order of numbers, in the forms that scans of a slice need.
-- By linear arithmetic.
use mathlib.Core.Path.{◌≡◌}
use mathlib.Core.Logic.{◌⊎◌, inl, inr, ⊎_elim}
use Prim.Native.Nat.{ℕ, ◌+◌, ◌-◌, ◌≤◌, ◌<◌}
use native.Mathlib.Nat.{eq-zero-or-pos}
use native.Mathlib.Omega.{arith}

pub le_or_lt : (a b : ℕ) → (a ≤ b) ⊎ (b < a)
le_or_lt a b = ⊎_elim (λ e. inl (omega arith)) (λ p. inr (omega arith)) (eq-zero-or-pos (a - b))

pub ne_lt : {a b : ℕ} → a ≤ b → (a ≡ b → ⊥) → a < b
ne_lt h n = omega arith

pub le_refl : (a : ℕ) → a ≤ a
le_refl a = omega arith

pub le_antisym : {a b : ℕ} → a ≤ b → b ≤ a → a ≡ b
le_antisym h k = omega arith

pub le_of_lt : {a b : ℕ} → a < b → a ≤ b
le_of_lt h = omega arith

pub le_trans : {a b c : ℕ} → a ≤ b → b ≤ c → a ≤ c
le_trans h k = omega arith

pub le_next : {a b : ℕ} → a ≤ b → a ≤ b + 1
le_next h = omega arith

pub ne_lt_one : {a b : ℕ} → a ≤ b → (a ≡ b → ⊥) → a + 1 ≤ b
ne_lt_one h n = omega arith

pub falls : {i a b : ℕ} → i ≤ a → a ≤ b → (a ≡ b → ⊥) → b - (a + 1) < b - i
falls l h n = omega arith

pub zero_least : (a : ℕ) → 0 ≤ a
zero_least a = omega arith

pub lt_le : {a b c : ℕ} → a < b → b ≤ c → a < c
lt_le h k = omega arith

pub next_le : {a b : ℕ} → a < b → a + 1 ≤ b
next_le h = omega arith

pub le_sum : (a b : ℕ) → a ≤ a + b
le_sum a b = omega arith
