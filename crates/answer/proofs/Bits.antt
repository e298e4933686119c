-- Values as 0 and 1.
-- By recursion on the values.
use mathlib.Core.Path.{◌≡◌, refl, ap, ap₂}
use mathlib.Core.Bool.{Bool, true, false, ◌&&◌}
use mathlib.Core.List.{List, [], ◌∷◌}
use Prim.Native.Nat.{ℕ, zero, suc, ◌≤◌}
use native.Mathlib.Omega.{arith}
use lib.Dec.{eqb, leb}
use lib.ListN.{length, length-map}
use Rattle.std.specs.List.{list_all}
use Rattle.lists.specs.List.{all}
use Rattle.lists.proofs.Bool.{and_l, and_r, leb_sound}
use Rattle.planning.specs.Model.{bit, bits, truths_in}

-- a test of each of them, as the library has it
pub list_all_lem : (p : ℕ → Bool) (xs : List ℕ) → list_all p xs ≡ all p xs
list_all_lem p [] = refl
list_all_lem p (x ∷ xs) = ap (λ (b : Bool). p x && b) (list_all_lem p xs)

pub bits_back : (vs : List Bool) → truths_in (bits vs) ≡ vs
bits_back [] = refl
bits_back (true ∷ vs) = ap (λ (l : List Bool). true ∷ l) (bits_back vs)
bits_back (false ∷ vs) = ap (λ (l : List Bool). false ∷ l) (bits_back vs)

one_bit : (v : ℕ) → v ≤ 1 → bit (eqb 1 v) ≡ v
one_bit zero h = refl
one_bit (suc zero) h = refl
one_bit (suc (suc v)) h = absurd (omega arith)

pub bits_same : (vs : List ℕ) → all (λ v. leb v 1) vs ≡ true → bits (truths_in vs) ≡ vs
bits_same [] h = refl
bits_same (v ∷ vs) h = ap₂ (λ (x : ℕ) (xs : List ℕ). x ∷ xs) (one_bit v (leb_sound v 1 (and_l (leb v 1) (all (λ v. leb v 1) vs) h))) (bits_same vs (and_r (leb v 1) (all (λ v. leb v 1) vs) h))

pub bits_binary : (vs : List Bool) → all (λ v. leb v 1) (bits vs) ≡ true
bits_binary [] = refl
bits_binary (true ∷ vs) = bits_binary vs
bits_binary (false ∷ vs) = bits_binary vs

pub bits_length : (vs : List Bool) → length (bits vs) ≡ length vs
bits_length vs = length-map vs bit
