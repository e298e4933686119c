-- A body as numbers: name after name, as the code goes.
-- The tasks passed stand in their words; the answer so far and the names left tell whether question 7 is met.
use mathlib.Core.Path.{◌≡◌, refl, sym, ap, ◌∙◌}
use mathlib.Core.Bool.{Bool, true, false, ◌&&◌}
use mathlib.Core.List.{List, [], ◌∷◌}
use mathlib.Core.Logic.{◌⊎◌, inl, inr}
use Prim.Native.Nat.{ℕ, suc, ◌+◌, ◌≤◌, ◌<◌}
use native.Mathlib.Omega.{arith}
use lib.ListN.{length, get_or, set, drop}
use lib.Seq.{drop-cons, get_or-set_same, get_or-set_other}
use Rattle.std.specs.Prelude.{Result, ⊤}
use Rattle.std.specs.Result.{result_and}
use Rattle.std.proofs.Math.Bool.{and-true, and-false}
use Rattle.unmet.specs.declared.Unmet.{Unmet}
use Rattle.lists.specs.List.{all}
use Rattle.lists.proofs.Order.{le_or_lt}
use Rattle.grammar.specs.Name.{Name}
use Rattle.outline.specs.Names.{among, number_of}
use Rattle.rows.specs.Answers.{Asked, BodyStands}
use Rattle.rows.proofs.Counts.{asked_and}

passed : (a b c : Bool) → (a && (b && c)) ≡ ((b && a) && c)
passed a true c = refl
passed a false c = and-false a

-- n tasks of `every` stand in o; ms are left
pub record Placing {A : Type 0} (tasks every ms : List Name) (o : List ℕ) (n : ℕ) (r : Result A Unmet) : Type 0 where
  pub so : Bool
  pub asked : Asked so (λ _. ⊤) r
  pub told : (all (among tasks) ms && so) ≡ all (among tasks) every
  pub size : n + length ms ≡ length every
  pub those : ms ≡ drop n every
  pub task : (j : ℕ) → j < n → get_or o j 0 ≡ number_of tasks (get_or every j [])

pub placing_first : {A : Type 0} (tasks every ms : List Name) (o : List ℕ) {r : Result A Unmet} → every ≡ ms → Asked true (λ _. ⊤) r
    → Placing tasks every ms o 0 r
placing_first tasks every ms o e h = rw e (record {
  so = true;
  asked = h;
  told = and-true (all (among tasks) ms);
  size = omega arith;
  those = refl;
  task = λ j h. absurd (omega arith);
})

pub placing_done : {A : Type 0} {tasks every ms : List Name} {o : List ℕ} {n : ℕ} {r : Result A Unmet} → Placing tasks every ms o n r → ms ≡ []
    → Asked (all (among tasks) every) (λ _. ⊤) r × BodyStands tasks every o
placing_done {tasks} {every} {ms} {o} {n} u e =
    let z : length ms ≡ 0 = ap length e in
    let b : u.so ≡ all (among tasks) every = sym (ap (λ (ns : List Name). all (among tasks) ns && u.so) e) ∙ u.told in
    (rw b at u.asked, record { task = λ j h. u.task j (omega (arith, u.size, z)) })

module _ {A : Type 0} {tasks every ns ms : List Name} {m : Name} {o : List ℕ} {n : ℕ} {r : Result A Unmet} (u : Placing tasks every ns o n r)
    (e : ns ≡ m ∷ ms) where
  many : length ns ≡ suc (length ms)
  many = ap length e

  -- there is a name left, so there is room for it
  pub placing_room : n < length every
  placing_room = omega (arith, u.size, many)

  both : m ∷ ms ≡ get_or every n [] ∷ drop (suc n) every
  both = sym e ∙ u.those ∙ drop-cons every n [] placing_room

  -- its number is k
  module _ {k : ℕ} (f : k ≡ number_of tasks m) (l : n < length o) where
    here : (j : ℕ) → j < suc n → (n ≤ j) ⊎ (j < n) → get_or (set o n k) j 0 ≡ number_of tasks (get_or every j [])
    here j g (inl h) =
        let d : j ≡ n = omega arith in
        let b = both in
        let y : m ≡ get_or every n [] = cc in
        rw d (get_or-set_same o n k 0 l ∙ f ∙ ap (number_of tasks) y)
    here j g (inr h) = get_or-set_other o n j k 0 (λ d. omega arith) ∙ u.task j h

    pub placing_more : {B : Type 0} (Q : B → Type 0) (t : Result B Unmet) → Asked (among tasks m) Q t
        → Placing tasks every ms (set o n k) (n + 1) (result_and t r)
    placing_more Q t h =
        let b = both in
        let z : n + 1 ≡ suc n = omega arith in
        rw z (record {
          so = among tasks m && u.so;
          asked = asked_and _ _ _ _ t r h u.asked;
          told = passed (all (among tasks) ms) (among tasks m) u.so ∙ sym (ap (λ (ns : List Name). all (among tasks) ns && u.so) e) ∙ u.told;
          size = omega (arith, u.size, many);
          those = cc;
          task = λ j g. here j g (le_or_lt n j);
        })
