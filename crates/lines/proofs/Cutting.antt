-- Cutting a part at a byte: how a scan follows `split` and `ended`.
-- By induction on the bytes.
use mathlib.Core.Path.{◌≡◌, refl, ap}
use mathlib.Core.Bool.{Bool, true, false, cond}
use mathlib.Core.List.{List, [], ◌∷◌}
use Prim.Native.Nat.{ℕ, suc, ◌≤◌, ◌<◌}
use native.Mathlib.Omega.{arith}
use lib.Dec.{eqb}
use lib.ListN.{length, take, drop}
use Rattle.lines.specs.Parts.{split, ended, put_byte, push}
use Rattle.lines.specs.Cut.{before}

pub before_le : (c : ℕ) (p : List ℕ) → before c p ≤ length p
unfolding before
before_le c [] = omega arith
before_le c (b ∷ p) = go (eqb b c) (before_le c p)
  where
    go : (t : Bool) → before c p ≤ length p → cond t 0 (suc (before c p)) ≤ suc (length p)
    go true h = omega arith
    go false h = omega arith

pub split_last : (c : ℕ) (p : List ℕ) → before c p ≡ length p → split c p ≡ p ∷ []
unfolding before split
split_last c [] e = refl
split_last c (b ∷ p) e = go (eqb b c) e (split_last c p)
  where
    go : (t : Bool) → cond t 0 (suc (before c p)) ≡ suc (length p) → (before c p ≡ length p → split c p ≡ p ∷ []) → put_byte t b (split c p) ≡ (b ∷ p) ∷ []
    go true e ih = absurd (omega arith)
    go false e ih = rw (ih (omega arith))

pub split_more : (c : ℕ) (p : List ℕ) → before c p < length p → split c p ≡ take (before c p) p ∷ split c (drop (suc (before c p)) p)
unfolding before split
split_more c [] h = absurd (omega arith)
split_more c (b ∷ p) h = go (eqb b c) h (split_more c p)
  where
    go : (t : Bool) → cond t 0 (suc (before c p)) < suc (length p) → (before c p < length p → split c p ≡ take (before c p) p ∷ split c (drop (suc (before c p)) p))
        → put_byte t b (split c p) ≡ take (cond t 0 (suc (before c p))) (b ∷ p) ∷ split c (drop (suc (cond t 0 (suc (before c p)))) (b ∷ p))
    go true h ih = refl
    go false h ih = ap (push b) (ih (omega arith))

pub ended_last : (c : ℕ) (p : List ℕ) → before c p ≡ length p → ended c p ≡ []
unfolding before ended
ended_last c [] e = refl
ended_last c (b ∷ p) e = go (eqb b c) e (ended_last c p)
  where
    go : (t : Bool) → cond t 0 (suc (before c p)) ≡ suc (length p) → (before c p ≡ length p → ended c p ≡ []) → put_byte t b (ended c p) ≡ []
    go true e ih = absurd (omega arith)
    go false e ih = rw (ih (omega arith))

pub ended_more : (c : ℕ) (p : List ℕ) → before c p < length p → ended c p ≡ take (before c p) p ∷ ended c (drop (suc (before c p)) p)
unfolding before ended
ended_more c [] h = absurd (omega arith)
ended_more c (b ∷ p) h = go (eqb b c) h (ended_more c p)
  where
    go : (t : Bool) → cond t 0 (suc (before c p)) < suc (length p) → (before c p < length p → ended c p ≡ take (before c p) p ∷ ended c (drop (suc (before c p)) p))
        → put_byte t b (ended c p) ≡ take (cond t 0 (suc (before c p))) (b ∷ p) ∷ ended c (drop (suc (cond t 0 (suc (before c p)))) (b ∷ p))
    go true h ih = refl
    go false h ih = ap (push b) (ih (omega arith))
