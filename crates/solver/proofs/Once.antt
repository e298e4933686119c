-- Question 14: of n variables each stands once among these numbers, and no other.
-- Test by test.
use mathlib.Core.Path.{◌≡◌, ◌∙◌}
use mathlib.Core.Bool.{Bool, true, ◌&&◌}
use mathlib.Core.List.{List, ◌∷◌}
use Prim.Native.Nat.{ℕ, suc, ◌≤◌}
use native.Mathlib.Omega.{arith}
use lib.ListN.{length, length-map}
use lib.Dec.{eqb, leb}
use Rattle.lists.specs.List.{any, all, Every, from}
use Rattle.lists.proofs.Bool.{and_l, and_r, and_in, eqb_sound, eqb_same, eqb_other, leb_sound, leb_in}
use Rattle.lists.proofs.Member.{all_in, all_out}
use Rattle.lists.proofs.Every.{every_of, every_out}
use Rattle.lists.proofs.Number.{from_range, from_in, length_from}
use Rattle.planning.specs.Clause.{Lit, variable_of}
use Rattle.solver.specs.Questions.{makes_true, times, once_each, truths}

-- a number of one of n variables
abbrev pub InRange : ℕ → Lit → Type 0
InRange n l = (1 ≤ variable_of l) × (variable_of l ≤ n)

pub times_own : (l : Lit) (ls : List Lit) → times (variable_of l) (l ∷ ls) ≡ suc (times (variable_of l) ls)
times_own l ls = rw (eqb_same (variable_of l))

pub times_other : (k : ℕ) (l : Lit) (ls : List Lit) → (k ≡ variable_of l → ⊥) → times k (l ∷ ls) ≡ times k ls
times_other k l ls u = rw (eqb_other k (variable_of l) u)

module _ (n : ℕ) (ls : List Lit) where
  abbrev counts : Bool
  counts = all (λ k. eqb (times k ls) 1) (from 1 n)

  abbrev ranges : Bool
  ranges = all (λ l. leb 1 (variable_of l) && leb (variable_of l) n) ls

  each_once : once_each n ls ≡ true → (k : ℕ) → 1 ≤ k → k ≤ n → times k ls ≡ 1
  each_once h k p q =
      eqb_sound (times k ls) 1 (all_out (λ (k : ℕ). eqb (times k ls) 1) (from 1 n) (and_l counts ranges h) k (from_in k 1 n p (omega arith)))

  no_other : once_each n ls ≡ true → Every (InRange n) ls
  no_other h = every_of (InRange n) ls (λ l m.
      let r = all_out (λ (l : Lit). leb 1 (variable_of l) && leb (variable_of l) n) ls (and_r counts ranges h) l m in (
        leb_sound 1 (variable_of l) (and_l (leb 1 (variable_of l)) (leb (variable_of l) n) r),
        leb_sound (variable_of l) n (and_r (leb 1 (variable_of l)) (leb (variable_of l) n) r),
      ))

  pub once_out : once_each n ls ≡ true → ((k : ℕ) → 1 ≤ k → k ≤ n → times k ls ≡ 1) × Every (InRange n) ls
  once_out h = (each_once h, no_other h)

  pub once_in : ((k : ℕ) → 1 ≤ k → k ≤ n → times k ls ≡ 1) → Every (InRange n) ls → once_each n ls ≡ true
  once_in f h = and_in counts ranges
      (all_in (λ (k : ℕ). eqb (times k ls) 1) (from 1 n) (λ k m. let r = from_range k 1 n m in rw (f k r.0 (omega arith))))
      (all_in (λ (l : Lit). leb 1 (variable_of l) && leb (variable_of l) n) ls (λ l m.
      let r = every_out (InRange n) ls h l m in
      and_in (leb 1 (variable_of l)) (leb (variable_of l) n) (leb_in 1 (variable_of l) r.0) (leb_in (variable_of l) n r.1)))

-- a value for each variable
pub truths_length : (n : ℕ) (ls : List Lit) → length (truths n ls) ≡ n
truths_length n ls = length-map (from 1 n) (λ k. any (makes_true k) ls) ∙ length_from 1 n
