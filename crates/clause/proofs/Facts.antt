-- Fact variables, and the facts that steps need, set and drop.
-- By the laws of the index and of sets.
use mathlib.Core.Path.{◌≡◌, refl, sym, ap, ◌∙◌}
use mathlib.Core.Bool.{Bool, true, false}
use mathlib.Core.List.{List, [], ◌∷◌, ◌++◌, append-nil}
use Prim.Native.Nat.{ℕ, suc, ◌+◌, ◌-◌, ◌*◌, ◌/◌, ◌≤◌, ◌<◌}
use native.Mathlib.Omega.{arith}
use lib.ListN.{length, get_or, length-append}
use lib.Seq.{get_or-append_seam}
use Rattle.lists.specs.List.{cons_if, filter, from, has}
use Rattle.lists.proofs.Bool.{and_off, and_on}
use Rattle.lists.proofs.Place.{filter_split}
use Rattle.bitset.specs.Set.{contains, members_below, members}
use Rattle.bitset.proofs.Promises.{promises}
use Rattle.planning.specs.Table.{Step}
use Rattle.planning.specs.Clause.{drops}

-- is f one of the facts in a set's words?
pub has_is : {r : Bool} {fs : List ℕ} (l : List ℕ) (f : ℕ) → members l ≡ fs → r ≡ contains l f → r ≡ has fs f
has_is l f e g = g ∙ promises.member l f ∙ ap (λ (k : List ℕ). has k f) e

-- what is set is not dropped; what is not is dropped where it is cleared
pub set_kept : {r : Bool} (s : Step) (f : ℕ) → r ≡ has s.sets f → r ≡ true → false ≡ drops s f
set_kept s f e t = rw (← e, t, and_off (has s.clears f))

pub clear_dropped : {r q : Bool} (s : Step) (f : ℕ) → r ≡ has s.sets f → r ≡ false → q ≡ has s.clears f → q ≡ drops s f
clear_dropped s f e t h = rw (h, ← e, t, and_on (has s.clears f))

-- Member i of a set, by halves: at most i members lie below lo, and more below hi --------------------------------------------------
pub record Between (l : List ℕ) (i lo hi : ℕ) : Type 0 where
  pub low : length (members_below l lo) ≤ i
  pub high : i < length (members_below l hi)
  pub order : lo < hi
  pub most : hi ≤ 64

-- one word has all its members below 64
pub one_word : {fs : List ℕ} (l : List ℕ) → length l ≡ 1 → members l ≡ fs → members_below l 64 ≡ fs
one_word l one e = ap (λ (m : ℕ). members_below l (64 * m)) (sym one) ∙ e

pub between_all : {fs : List ℕ} (l : List ℕ) {i : ℕ} → length l ≡ 1 → members l ≡ fs → i < length fs → Between l i 0 64
between_all l one e h = record { low = omega arith; high = omega (arith, ap length (one_word l one e)); order = omega arith; most = omega arith }

module _ {l : List ℕ} {i lo hi : ℕ} (u : Between l i lo hi) where
  pub middle_up : {m k : ℕ} → lo + 1 < hi → m ≡ (lo + hi) / 2 → k ≡ length (members_below l m) → k ≤ i → Between l i m hi
  middle_up h e q g = record { low = omega (arith, q); high = u.high; order = omega (arith, e); most = u.most }

  pub middle_down : {m k : ℕ} → lo + 1 < hi → m ≡ (lo + hi) / 2 → k ≡ length (members_below l m) → i < k → Between l i lo m
  middle_down h e q g = record { low = u.low; high = omega (arith, q); order = omega (arith, e); most = omega (arith, u.most, e) }

  -- no number lies between
  pub only_one : {fs : List ℕ} → hi ≤ lo + 1 → members_below l 64 ≡ fs → (lo ≡ get_or fs i 0) × (lo < 64)
  only_one {fs} h e = (go (contains l lo) refl, omega (arith, u.order, u.most))
    where
      before : List ℕ
      before = members_below l lo

      at_hi : members_below l hi ≡ before ++ cons_if (contains l lo) lo []
      at_hi = let z : hi ≡ lo + 1 = omega (arith, u.order) in rw z (filter_split (contains l) lo 1)

      all : fs ≡ before ++ filter (contains l) (from lo (64 - lo))
      all = let z : lo + (64 - lo) ≡ 64 = omega (arith, u.order, u.most) in sym e ∙ ap (members_below l) (sym z) ∙ filter_split (contains l) lo (64 - lo)

      rest : from lo (64 - lo) ≡ lo ∷ from (suc lo) (63 - lo)
      rest = let z : 64 - lo ≡ suc (63 - lo) = omega (arith, u.order, u.most) in ap (from lo) z

      go : (b : Bool) → contains l lo ≡ b → lo ≡ get_or fs i 0
      go false n =
          absurd (omega (arith, u.low, u.high, ap length at_hi, ap (λ (t : Bool). length (before ++ cons_if t lo [])) n, ap length (append-nil before)))
      go true y =
          let long : i ≡ length before =
          omega (arith, u.low, u.high, ap length at_hi, ap (λ (t : Bool). length (before ++ cons_if t lo [])) y, length-append before (lo ∷ [])) in
          let here : filter (contains l) (from lo (64 - lo)) ≡ lo ∷ filter (contains l) (from (suc lo) (63 - lo)) = ap (filter (contains l)) rest ∙ rw y in
          sym (rw (all, here, long) (get_or-append_seam before lo (filter (contains l) (from (suc lo) (63 - lo))) 0))
