-- The chosen one of numbered things by its place: the first whose variable is true.
-- By recursion on the things.
use mathlib.Core.Path.{◌≡◌, refl}
use mathlib.Core.Bool.{Bool, true, false, cond}
use mathlib.Core.List.{List, [], ◌∷◌, ◌++◌, map}
use mathlib.Core.Logic.{inl, inr}
use mathlib.Core.Option.{Option, none, some}
use Prim.Native.Nat.{ℕ, zero, suc, ◌+◌, ◌≤◌, ◌<◌}
use native.Mathlib.Omega.{arith}
use lib.ListN.{length, get_or, get_elem?}
use Rattle.lists.specs.List.{number}
use Rattle.planning.specs.Table.{step, job}
use Rattle.planning.specs.Model.{Valuation, or_else, chosen}
use Rattle.planning.proofs.Trees.Hold.{Held}
use Rattle.listing.specs.Walk.{first_true}

module _ {A : Type 0} (v : Valuation) where
  pub chosen_first : (b : ℕ) (xs : List A) → chosen v (number b xs) ≡ get_elem? xs (first_true v b (length xs))
  chosen_first b [] = refl
  chosen_first b (x ∷ xs) = go (v b) (chosen_first (suc b) xs)
    where
      go : (c : Bool) → chosen v (number (suc b) xs) ≡ get_elem? xs (first_true v (suc b) (length xs))
          → or_else c x (chosen v (number (suc b) xs)) ≡ get_elem? (x ∷ xs) (cond c 0 (suc (first_true v (suc b) (length xs))))
      go true e = refl
      go false e = e

  -- it is one of them
  pub chosen_held : (b : ℕ) (xs : List A) → Held xs (chosen v (number b xs))
  chosen_held b [] = tt
  chosen_held b (x ∷ xs) = go (v b) (chosen v (number (suc b) xs)) (chosen_held (suc b) xs)
    where
      go : (c : Bool) (o : Option A) → Held xs o → Held (x ∷ xs) (or_else c x o)
      go true o h = inl refl
      go false none h = tt
      go false (some a) h = inr h

-- Members by place -----------------------------------------------------------------------------------------------------------
pub elem_in : (xs : List ℕ) (i : ℕ) → i < length xs → get_elem? xs i ≡ some (get_or xs i 0)
elem_in [] i h = absurd (omega arith)
elem_in (x ∷ xs) zero h = refl
elem_in (x ∷ xs) (suc i) h = elem_in xs i (omega arith)

pub elem_past : {A : Type 0} (xs : List A) (i : ℕ) → length xs ≤ i → get_elem? xs i ≡ none
elem_past [] i h = refl
elem_past (x ∷ xs) zero h = absurd (omega arith)
elem_past (x ∷ xs) (suc i) h = elem_past xs i (omega arith)

jobs_elem : (js : List ℕ) (i : ℕ) → i < length js → get_elem? (map job js) i ≡ some (job (get_or js i 0))
jobs_elem [] i h = absurd (omega arith)
jobs_elem (j ∷ js) zero h = refl
jobs_elem (j ∷ js) (suc i) h = jobs_elem js i (omega arith)

-- steps, then jobs
pub step_elem : (ss js : List ℕ) (i : ℕ) → i < length ss → get_elem? (map step ss ++ map job js) i ≡ some (step (get_or ss i 0))
step_elem [] js i h = absurd (omega arith)
step_elem (s ∷ ss) js zero h = refl
step_elem (s ∷ ss) js (suc i) h = step_elem ss js i (omega arith)

pub job_elem : (ss js : List ℕ) (i : ℕ) → i < length js → get_elem? (map step ss ++ map job js) (length ss + i) ≡ some (job (get_or js i 0))
job_elem [] js i h = let z : 0 + i ≡ i = omega arith in rw z (jobs_elem js i h)
job_elem (s ∷ ss) js i h = let z : suc (length ss) + i ≡ suc (length ss + i) = omega arith in rw z (job_elem ss js i h)
