-- A number put into an empty cell: what the cells and the numbers to come are like before and after.
-- The number's own cell, and each other.
use mathlib.Core.Path.{◌≡◌, refl, sym, ap, ◌∙◌, subst}
use mathlib.Core.Bool.{Bool, true, false}
use mathlib.Core.List.{List, ◌∷◌}
use mathlib.Core.Logic.{◌⊎◌, inl, inr}
use Prim.Native.Nat.{ℕ, suc, ◌-◌, ◌≤◌, ◌<◌}
use native.Mathlib.Omega.{arith}
use native.Mathlib.Decide.{ℕ_discrete}
use lib.ListN.{length, get_or, set, length-set}
use lib.Seq.{get_or-set_same, get_or-set_other}
use lib.Dec.{eqb}
use Rattle.lists.specs.List.{any, Every}
use Rattle.lists.proofs.Bool.{or_off, eqb_same}
use Rattle.planning.specs.Clause.{Lit, pos, neg, variable_of}
use Rattle.solver.specs.Questions.{makes_true, times}
use Rattle.planning.specs.Model.{bit}
use Rattle.solver.specs.Scan.{sign}
use Rattle.solver.proofs.Once.{times_own, times_other}
use Rattle.solver.proofs.Values.{true_other, none_true}

-- what a cell and the numbers to come must be like: it is empty and its variable stands once, or it is filled and its does not stand
abbrev pub Cell : ℕ → ℕ → Type 0
Cell c t = ((c ≡ 2) × (t ≡ 1)) ⊎ ((c < 2) × (t ≡ 0))

pub record Good (cs : List ℕ) (ls : List Lit) : Type 0 where
  pub cell : (k : ℕ) → k < length cs → Cell (get_or cs k 0) (times (suc k) ls)
  pub inside : Every (λ (l : Lit). (1 ≤ variable_of l) × (variable_of l ≤ length cs)) ls

-- the value at a cell, when all numbers are put
pub record Out (cs : List ℕ) (ls : List Lit) (k : ℕ) (v : Bool) : Type 0 where
  pub empty : get_or cs k 0 ≡ 2 → v ≡ any (makes_true (suc k)) ls
  pub filled : get_or cs k 0 < 2 → v ≡ eqb 1 (get_or cs k 0)

bit_small : (b : Bool) → bit b < 2
bit_small true = omega arith
bit_small false = omega arith

bit_one : (b : Bool) → eqb 1 (bit b) ≡ b
bit_one true = refl
bit_one false = refl

true_own : (l : Lit) → makes_true (variable_of l) l ≡ sign l
true_own (pos n) = eqb_same n
true_own (neg n) = refl

module _ (cs : List ℕ) (l : Lit) (ls : List Lit) (p : 1 ≤ variable_of l) (q : variable_of l ≤ length cs) (e : get_or cs (variable_of l - 1) 0 ≡ 2) where
  abbrev i : ℕ
  i = variable_of l - 1

  abbrev ds : List ℕ
  ds = set cs i (bit (sign l))

  own : suc i ≡ variable_of l
  own = omega arith

  here : get_or ds i 0 ≡ bit (sign l)
  here = get_or-set_same cs i (bit (sign l)) 0 (omega arith)

  there : (k : ℕ) → (k ≡ i → ⊥) → get_or ds k 0 ≡ get_or cs k 0
  there k u = get_or-set_other cs i k (bit (sign l)) 0 u

  pub same_length : length ds ≡ length cs
  same_length = length-set cs i (bit (sign l))

  times_here : times (suc i) (l ∷ ls) ≡ suc (times (suc i) ls)
  times_here = subst (λ (j : ℕ). times j (l ∷ ls) ≡ suc (times j ls)) (sym own) (times_own l ls)

  times_there : (k : ℕ) → (k ≡ i → ⊥) → times (suc k) (l ∷ ls) ≡ times (suc k) ls
  times_there k u = times_other (suc k) l ls (λ z. u (omega arith))

  pub good_before : Good ds ls → Good cs (l ∷ ls)
  good_before g = record {
    cell = λ k h. at k h (ℕ_discrete k i);
    inside = ((p, q), subst (λ (n : ℕ). Every (λ (l : Lit). (1 ≤ variable_of l) × (variable_of l ≤ n)) ls) same_length g.inside);
  }
    where
      at : (k : ℕ) → k < length cs → Dec (k ≡ i) → Cell (get_or cs k 0) (times (suc k) (l ∷ ls))
      at k h (no u) = rw (times_there k u, ← (there k u)) (g.cell k (omega (arith, same_length)))
      at k h (yes z) =
          subst (λ (j : ℕ). Cell (get_or cs j 0) (times (suc j) (l ∷ ls))) (sym z) (pick (g.cell i (omega (arith, same_length))))
        where
          pick : Cell (get_or ds i 0) (times (suc i) ls) → Cell (get_or cs i 0) (times (suc i) (l ∷ ls))
          pick (inl r) = absurd (omega (arith, r.0, here, bit_small (sign l)))
          pick (inr r) = inl (e, times_here ∙ ap suc r.1)

  pub none_left : Good cs (l ∷ ls) → times (suc i) ls ≡ 0
  none_left g = pick (g.cell i (omega arith))
    where
      pick : Cell (get_or cs i 0) (times (suc i) (l ∷ ls)) → times (suc i) ls ≡ 0
      pick (inl r) = omega (arith, r.1, times_here)
      pick (inr r) = omega (arith, r.0, e)

  pub good_after : Good cs (l ∷ ls) → Good ds ls
  good_after g = record {
    cell = λ k h. at k (omega (arith, same_length)) (ℕ_discrete k i);
    inside = subst (λ (n : ℕ). Every (λ (l : Lit). (1 ≤ variable_of l) × (variable_of l ≤ n)) ls) (sym same_length) g.inside.1;
  }
    where
      at : (k : ℕ) → k < length cs → Dec (k ≡ i) → Cell (get_or ds k 0) (times (suc k) ls)
      at k h (no u) = rw (there k u, ← (times_there k u)) (g.cell k h)
      at k h (yes z) = rw z (inr (omega (arith, here, bit_small (sign l)), none_left g))

  own_true : times (suc i) ls ≡ 0 → any (makes_true (suc i)) (l ∷ ls) ≡ sign l
  own_true h = rw (subst (λ (j : ℕ). makes_true j l ≡ sign l) (sym own) (true_own l), none_true (suc i) ls h) (or_off (sign l))

  pub out_before : (k : ℕ) (v : Bool) → times (suc i) ls ≡ 0 → Out ds ls k v → Out cs (l ∷ ls) k v
  out_before k v none o = at (ℕ_discrete k i)
    where
      at : Dec (k ≡ i) → Out cs (l ∷ ls) k v
      at (yes z) =
          let w : get_or ds k 0 ≡ bit (sign l) = rw z here in
          let own_k = subst (λ (j : ℕ). any (makes_true (suc j)) (l ∷ ls) ≡ sign l) (sym z) (own_true none) in
          record {
            empty = λ h. o.filled (omega (arith, w, bit_small (sign l))) ∙ (ap (eqb 1) w ∙ (bit_one (sign l) ∙ sym own_k));
            filled = λ h. absurd (omega (arith, e, subst (λ (j : ℕ). get_or cs j 0 < 2) z h));
          }
      at (no u) = record {
        empty = λ h. rw (true_other (suc k) l (λ z. u (omega arith))) (o.empty (there k u ∙ h));
        filled = λ h. o.filled (rw (there k u) h) ∙ ap (eqb 1) (there k u);
      }
