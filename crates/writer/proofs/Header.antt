-- The header's line part by part.
-- By joining lists.
use mathlib.Core.Path.{◌≡◌}
use mathlib.Core.List.{List, [], ◌∷◌, ◌++◌, append_assoc}
use Prim.Native.Nat.{ℕ, ◌+◌, ◌≤◌}
use native.Mathlib.Omega.{arith}
use lib.ListN.{length, length-append}
use Rattle.lists.specs.Written.{Wrote}
use Rattle.lists.proofs.Written.{wrote_append, wrote_same}
use Rattle.planning.specs.Text.{decimal, header_line}

pub length_header : (v c : ℕ) → length (header_line v c) ≡ length (decimal v) + length (decimal c) + 8
length_header v c = omega (arith, length-append (decimal v) (32 ∷ (decimal c ++ (10 ∷ []))), length-append (decimal c) (10 ∷ []))

-- its five parts, written one behind the other
pub wrote_header : {o o₁ o₂ o₃ o₄ o₅ : List ℕ} {at r₁ r₂ r₃ r₄ r₅ : ℕ} (v c : ℕ) → at ≤ length o
    → Wrote o at (112 ∷ 32 ∷ 99 ∷ 110 ∷ 102 ∷ 32 ∷ []) o₁ r₁ → Wrote o₁ r₁ (decimal v) o₂ r₂ → Wrote o₂ r₂ (32 ∷ []) o₃ r₃
    → Wrote o₃ r₃ (decimal c) o₄ r₄ → Wrote o₄ r₄ (10 ∷ []) o₅ r₅ → Wrote o at (header_line v c) o₅ r₅
wrote_header v c h w₁ w₂ w₃ w₄ w₅ =
    wrote_same (simp append_assoc) (wrote_append h (wrote_append h (wrote_append h (wrote_append h w₁ w₂) w₃) w₄) w₅)
