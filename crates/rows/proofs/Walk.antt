-- Lines read one after the other, w words each.
-- The lines passed stand in their words; the answer so far and the lines left tell whether question 7 is met.
use mathlib.Core.Path.{◌≡◌, refl, sym, ap, ◌∙◌}
use mathlib.Core.Bool.{Bool, true, ◌&&◌}
use mathlib.Core.List.{List, [], ◌∷◌}
use mathlib.Core.Logic.{◌⊎◌, inl, inr}
use Prim.Native.Nat.{ℕ, suc, ◌+◌, ◌*◌, ◌≤◌, ◌<◌}
use native.Mathlib.Omega.{arith}
use Rattle.std.proofs.Math.Bool.{and-true, and_assoc}
use Rattle.std.proofs.Math.Nat.{mul-le-mul_left}
use lib.ListN.{length, get_or, drop, length-drop}
use lib.Seq.{drop-cons}
use Rattle.std.specs.Prelude.{Result, ⊤}
use Rattle.std.specs.Result.{result_and}
use Rattle.unmet.specs.declared.Unmet.{Unmet}
use Rattle.lists.specs.List.{all}
use Rattle.lists.proofs.Order.{le_or_lt}
use Rattle.rows.specs.Words.{Kept}
use Rattle.rows.specs.Answers.{Asked}
use Rattle.rows.proofs.Counts.{asked_and}

-- P l k o: what the line l is read as stands in the words o from the place k on; it does as long as its w places are kept.
-- q l: the line meets question 7
module _ (w : ℕ) (q : List ℕ → Bool) (P : List ℕ → ℕ → List ℕ → Type 0)
    (keep : (l : List ℕ) (k n : ℕ) (o o' : List ℕ) → k + w ≤ n → Kept n o o' → P l k o → P l k o') where
  -- some of the lines are passed, as many as stand before the place at; `left` are not
  pub record Walking {A : Type 0} (lines left : List (List ℕ)) (o : List ℕ) (at : ℕ) (r : Result A Unmet) : Type 0 where
    pub passed : ℕ
    pub place : at ≡ w * passed
    pub few : passed ≤ length lines
    pub those : left ≡ drop passed lines
    pub so : Bool
    pub asked : Asked so (λ _. ⊤) r
    pub met : (so && all q left) ≡ all q lines
    pub stands : (j : ℕ) → j < passed → P (get_or lines j []) (w * j) o

  pub walking_first : {A : Type 0} (lines left : List (List ℕ)) (o : List ℕ) {r : Result A Unmet} → left ≡ lines → Asked true (λ _. ⊤) r
      → Walking lines left o 0 r
  walking_first lines left o e h = rw e (record {
    passed = 0;
    place = omega arith;
    few = omega arith;
    those = refl;
    so = true;
    asked = h;
    met = refl;
    stands = λ j h. absurd (omega arith);
  })

  -- no line is left
  pub walking_done : {A : Type 0} {lines left : List (List ℕ)} {o : List ℕ} {at : ℕ} {r : Result A Unmet} → Walking lines left o at r → left ≡ []
      → Asked (all q lines) (λ _. ⊤) r × ((i : ℕ) → i < length lines → P (get_or lines i []) (w * i) o)
  walking_done {lines} {left} {o} {r} u e =
      let z : length left ≡ 0 = ap length e in
      let y : length left ≡ length (drop u.passed lines) = ap length u.those in
      let b : u.so ≡ all q lines = sym (and-true u.so) ∙ sym (ap (λ (ls : List (List ℕ)). u.so && all q ls) e) ∙ u.met in
      (rw b at u.asked, λ i h. u.stands i (omega (arith, z, y, length-drop u.passed lines)))

  -- a line is left
  module _ {A : Type 0} {lines left rest : List (List ℕ)} {l o : List ℕ} {at : ℕ} {r : Result A Unmet} (u : Walking lines left o at r)
      (e : left ≡ l ∷ rest) where
    pub walking_there : u.passed < length lines
    walking_there =
        let z : length left ≡ suc (length rest) = ap length e in
        let y : length left ≡ length (drop u.passed lines) = ap length u.those in
        omega (arith, z, y, length-drop u.passed lines)

    both : l ∷ rest ≡ get_or lines u.passed [] ∷ drop (suc u.passed) lines
    both = sym e ∙ u.those ∙ drop-cons lines u.passed [] walking_there

    pub walking_line : l ≡ get_or lines u.passed []
    walking_line = let b = both in cc

    pub walking_room : {n m : ℕ} → n ≡ length lines → w * n ≤ m → at + w ≤ m
    walking_room {n} {m} c h = let z : w * suc u.passed ≤ w * n = mul-le-mul_left w (omega (arith, walking_there)) in omega (arith, u.place, z)

    module _ {o' : List ℕ} (k : Kept at o o') (p : P l at o') where
      stand : (j : ℕ) → j < suc u.passed → (u.passed ≤ j) ⊎ (j < u.passed) → P (get_or lines j []) (w * j) o'
      stand j g (inl h) = let d : j ≡ u.passed = omega arith in rw (d, ← walking_line, ← u.place) p
      stand j g (inr h) =
          let z : w * suc j ≤ w * u.passed = mul-le-mul_left w (omega arith) in
          keep (get_or lines j []) (w * j) at o o' (omega (arith, u.place, z)) k (u.stands j h)

      pub walking_more : {B : Type 0} (Q : B → Type 0) (t : Result B Unmet) → Asked (q l) Q t → Walking lines rest o' (at + w) (result_and r t)
      walking_more Q t h =
          let b = both in
          record {
            passed = suc u.passed;
            place = omega (arith, u.place);
            few = walking_there;
            those = cc;
            so = u.so && q l;
            asked = asked_and _ _ _ _ r t u.asked h;
            met = and_assoc u.so (q l) (all q rest) ∙ sym (ap (λ (ls : List (List ℕ)). u.so && all q ls) e) ∙ u.met;
            stands = λ j g. stand j g (le_or_lt u.passed j);
          }
