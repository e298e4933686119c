-- Where a field stands.
-- By recursion on the line.
use mathlib.Core.Path.{◌≡◌, refl, ap, ◌∙◌}
use mathlib.Core.Bool.{Bool, true, false}
use mathlib.Core.List.{List, [], ◌∷◌}
use Prim.Native.Nat.{ℕ, zero, suc, ◌+◌, ◌≤◌}
use native.Mathlib.Omega.{arith}
use lib.Dec.{eqb}
use lib.ListN.{length, get_or, take, drop}
use Rattle.lines.specs.Parts.{split, put_byte}
use Rattle.grammar.specs.Byte.{tab}
use Rattle.grammar.specs.Line.{field}
use Rattle.grammar.specs.Field.{At, place_in}

-- one byte further on
place_next : (k : ℕ) (ps : List (List ℕ)) (at end : ℕ) → place_in k ps (suc at) (suc end) ≡ suc (place_in k ps at end)
unfolding place_in
place_next k [] at end = refl
place_next zero (p ∷ ps) at end = refl
place_next (suc k) (p ∷ ps) at end = let e : suc at + length p + 1 ≡ suc (at + length p + 1) = omega arith in rw (e, place_next k ps (at + length p + 1) end)

-- f stands at the place x of s
Stands : List ℕ → ℕ → List ℕ → Type 0
Stands s x f = (x + length f ≤ length s) × (take (length f) (drop x s) ≡ f)

later : (b : ℕ) (s : List ℕ) {x y : ℕ} (f : List ℕ) → y ≡ suc x → Stands s x f → Stands (b ∷ s) y f
unfolding Stands
later b s f e u = rw e (omega (arith, u.0), u.1)

stands : (l : List ℕ) (k : ℕ) → Stands l (place_in k (split tab l) 0 (length l)) (get_or (split tab l) k [])
unfolding Stands split place_in
stands [] zero = (omega arith, refl)
stands [] (suc k) = (omega arith, refl)
stands (b ∷ s) k = go (eqb b tab) (split tab s) k (λ j. stands s j)
  where
    go : (t : Bool) (ps : List (List ℕ)) (k : ℕ) → ((j : ℕ) → Stands s (place_in j ps 0 (length s)) (get_or ps j []))
        → Stands (b ∷ s) (place_in k (put_byte t b ps) 0 (suc (length s))) (get_or (put_byte t b ps) k [])
    go true ps zero u = (omega arith, refl)
    go true ps (suc k) u = later b s (get_or ps k []) (place_next k ps 0 (length s)) (u k)
    go false [] k u = (omega arith, refl)
    go false (p ∷ ps) zero u = let h = u zero in (omega (arith, h.0), ap (λ (l : List ℕ). b ∷ l) h.1)
    go false (p ∷ ps) (suc k) u =
        let e : 0 + suc (length p) + 1 ≡ suc (0 + length p + 1) = omega arith in
        later b s (get_or ps k []) (ap (λ (n : ℕ). place_in k ps n (suc (length s))) e ∙ place_next k ps (0 + length p + 1) (length s)) (u (suc k))

pub field_stands : (l : List ℕ) (k : ℕ) {f : List ℕ} → f ≡ field l k → At l k f
unfolding field Stands
field_stands l k e = let h = stands l k in rw e (record { high = h.0; bytes = h.1 })
