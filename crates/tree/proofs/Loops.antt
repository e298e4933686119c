-- The loops over a table's methods: one law for the start, one for each turn, one for the end.
-- By the laws of the methods of some jobs.
use mathlib.Core.Path.{◌≡◌, refl, sym, ◌∙◌}
use mathlib.Core.Bool.{Bool, true, false, cond, not}
use mathlib.Core.List.{List, [], ◌∷◌, ◌++◌}
use Prim.Native.Nat.{ℕ, zero, suc, ◌+◌, ◌*◌, ◌%◌, ◌^◌, ◌≤◌, ◌<◌}
use native.Mathlib.Nat.{mod-eq_of_lt}
use native.Mathlib.Omega.{arith}
use lib.Dec.{eqb}
use lib.ListN.{length, get_elem?}
use Rattle.lists.specs.Written.{Wrote}
use Rattle.lists.proofs.Bool.{clash, eqb_other}
use Rattle.lists.proofs.Order.{ne_lt}
use Rattle.lists.proofs.Written.{wrote_same}
use Rattle.bitset.specs.Set.{contains, set_of}
use Rattle.bitset.proofs.Promises.{promises}
use Rattle.planning.specs.Table.{Table, job_of, body_of}
use Rattle.planning.specs.Place.{Label as PlanningLabel, methods_of, longest, one_if_any, child_count, child_label}
use Rattle.planning.proofs.Sizes.Sized.{children_short}
use Rattle.tree.specs.Visit.{members_in, label_in, some_in, Inside, Known, with_task, Put}
use Rattle.tree.specs.declared.Label.{Label}
use Rattle.tree.proofs.Methods.{Gathered, gathered_none, gathered_next, gathered_all}
use Rattle.tree.proofs.Whole.{word_made, some_none, some_some}

-- Sets in a word ---------------------------------------------------------------------------------------------------------------
pub size_word : {r : ℕ} (w : ℕ) → r ≡ length (members_in w) % 2 ^ 64 → (r ≡ length (members_in w)) × (r ≤ 64)
size_word {r} w e =
    let m : length (members_in w) ≤ 64 = promises.at_most (w ∷ []) in
    let q : r ≡ length (members_in w) = e ∙ mod-eq_of_lt (omega (arith, m)) in
    (q, omega arith)

pub some_test : (w : ℕ) → w < 2 ^ 64 → not (eqb w 0) ≡ some_in (members_in w)
some_test zero h = sym (some_none 0 refl)
some_test (suc w) h = rw (eqb_other (suc w) 0 (λ e. omega arith)) (sym (some_some (suc w) h (λ e. omega arith)))

-- What a child may hold ------------------------------------------------------------------------------------------------------------
pub record Gathering (T : Table) (L : PlanningLabel) (i m : ℕ) (l : Label) : Type 0 where
  pub at : m ≤ length T.methods
  pub is : Gathered T L i m l

pub gathering_none : (T : Table) (known : Known T) (l : Label) (i s : ℕ) → s ≡ cond (eqb i 0) l.steps 0 → Gathering T (label_in l) i 0 (record { steps = s; jobs = 0 })
gathering_none T known l i s e = record { at = omega arith; is = rw e (gathered_none T known (label_in l) i l.steps refl) }

pub gathering_again : {T : Table} (l : Label) {r d : Label} {i m k : ℕ} → Known T → Gathering T (label_in l) i m d → k ≡ length T.methods → m < k
    → r ≡ cond (contains (l.jobs ∷ []) (job_of T m)) (with_task d (get_elem? (body_of T m) i)) d → Gathering T (label_in l) i (m + 1) r
gathering_again {T} l {r} {d} {i} {m} {k} known g e h f =
    record { at = omega (arith, e); is = rw f (gathered_next T known (label_in l) l.jobs i m refl g.is) }

pub gathering_all : {T : Table} {l r : Label} {i m k : ℕ} → Known T → Inside T l → Gathering T (label_in l) i m r → k ≡ length T.methods → k ≤ m → label_in r ≡ child_label T (label_in l) i
gathering_all {T} {l} {r} {i} {m} {k} known inside g e h =
    let q : m ≡ length T.methods = omega (arith, g.at, e) in
    gathered_all T known (label_in l) i inside.steps (rw q at g.is)

-- How many children ----------------------------------------------------------------------------------------------------------------
one_if_any_lem : (xs : List ℕ) → some_in xs ≡ true → one_if_any xs ≡ 1
one_if_any_lem [] e = clash e refl
one_if_any_lem (x ∷ xs) e = refl

none_if_none : (xs : List ℕ) → some_in xs ≡ false → one_if_any xs ≡ 0
none_if_none [] e = refl
none_if_none (x ∷ xs) e = clash refl e

any_one : (xs : List ℕ) → one_if_any xs ≤ 1
any_one [] = omega arith
any_one (x ∷ xs) = omega arith

module _ (T : Table) (l : Label) (known : Known T) {n : ℕ} (e : n ≡ longest T (methods_of T (members_in l.jobs))) where
  pub one_child : n ≡ 0 → {b : Bool} → b ≡ some_in (members_in l.steps) → b ≡ true → (1 ≡ child_count T (label_in l)) × (◌≤◌ 1 8)
  unfolding child_count
  one_child z f g = (omega (arith, e, one_if_any_lem (members_in l.steps) (sym f ∙ g)), omega arith)

  short : child_count T (label_in l) ≤ 8
  short = children_short T 8 (omega arith) known.limits.bodies (label_in l)

  pub no_child : n ≡ 0 → {b : Bool} → b ≡ some_in (members_in l.steps) → b ≡ false → (n ≡ child_count T (label_in l)) × (n ≤ 8)
  unfolding child_count
  no_child z f g = (omega (arith, e, none_if_none (members_in l.steps) (sym f ∙ g)), omega arith)

  pub some_children : (n ≡ 0 → ⊥) → (n ≡ child_count T (label_in l)) × (n ≤ 8)
  unfolding child_count
  some_children u =
      let p : 1 ≤ n = ne_lt (omega arith) (λ q. u (sym q)) in
      let q : n ≡ child_count T (label_in l) = omega (arith, e, any_one (members_in l.steps)) in
      (q, omega (arith, short))

-- A record put -------------------------------------------------------------------------------------------------------------------
pub put_none : {at d p n s j : ℕ} {o : List ℕ} → length o < 5 * at + 5 → Put at d p n s j o o
put_none h = record { kept = λ k. absurd (omega arith) }

pub put_five : {at d p n s j : ℕ} {o o' : List ℕ} {r : ℕ} → s < 2 ^ 64 → j < 2 ^ 64 → Wrote o (5 * at) (d ∷ p ∷ n ∷ s ∷ j ∷ []) o' r
    → Put at d p n s j o o'
put_five {at} {d} {p} {n} {s} {j} {o} {o'} {r} hs hj w = record { kept = λ k. rw last at (wrote_same words w) }
  where
    last : r ≡ 5 * at + 5
    last = omega (arith, w.end)

    words : d ∷ p ∷ n ∷ s ∷ j ∷ [] ≡ d ∷ p ∷ n ∷ (set_of 1 (members_in s) ++ set_of 1 (members_in j))
    words = rw (← word_made s hs, ← word_made j hj)
