-- How many members are less than a number: its place in a rising list, and in a set given by a test or by words.
-- By recursion on the list.
use mathlib.Core.Path.{◌≡◌, refl, sym, ap, ◌∙◌}
use mathlib.Core.Bool.{Bool, true, false, cond}
use mathlib.Core.List.{List, [], ◌∷◌, ◌++◌}
use mathlib.Core.Logic.{◌⊎◌, inl, inr}
use Prim.Native.Nat.{ℕ, suc, ◌+◌, ◌-◌, ◌*◌, ◌≤◌, ◌<◌, min}
use native.Mathlib.Omega.{arith}
use native.Mathlib.Decide.{ℕ_discrete}
use lib.ListN.{length}
use lib.Dec.{eqb, ltb}
use borrow.Author.Tests.{lt-ltb, le-ltb}
use Rattle.lists.specs.List.{filter, number, Every, from, up_to, has, Rising}
use Rattle.lists.proofs.Bool.{eqb_same, eqb_other}
use Rattle.lists.proofs.Member.{in_filter_out, has_not}
use Rattle.lists.proofs.Every.{every_of}
use Rattle.lists.proofs.Number.{from_range, up_to_range}
use Rattle.lists.proofs.Order.{le_or_lt, ne_lt}
use Rattle.lists.proofs.Rising.{rising_range}
use Rattle.lists.proofs.Place.{from_add, filter_append}
use Rattle.bitset.specs.Set.{contains, members_below, members}
use Rattle.bitset.proofs.Members.{below_end}
use Rattle.places.specs.Lookup.{rank}

module _ (s : ℕ) where
  rank_append : (xs ys : List ℕ) → rank (xs ++ ys) s ≡ rank xs s + rank ys s
  rank_append [] ys = omega arith
  rank_append (x ∷ xs) ys = omega (arith, rank_append xs ys)

  -- where all members are less, and where none is
  rank_all : (xs : List ℕ) → Every (λ (x : ℕ). x < s) xs → rank xs s ≡ length xs
  rank_all [] h = refl
  rank_all (x ∷ xs) h = rw (lt-ltb x s h.0) (omega (arith, rank_all xs h.1))

  rank_none : (xs : List ℕ) → Every (λ (x : ℕ). s ≤ x) xs → rank xs s ≡ 0
  rank_none [] h = refl
  rank_none (x ∷ xs) h = rw (le-ltb x s h.0) (omega (arith, rank_none xs h.1))

-- Rising lists -----------------------------------------------------------------------------------------------------------------
rank_low : (k n : ℕ) (xs : List ℕ) (s : ℕ) → Rising k n xs → s < k → rank xs s ≡ 0
rank_low k n xs s r h = rank_none s xs (every_of (λ (x : ℕ). s ≤ x) xs (λ x m. omega (arith, (rising_range k n xs r x m).0)))

has_low : (k n : ℕ) (xs : List ℕ) (s : ℕ) → Rising k n xs → s < k → has xs s ≡ false
has_low k n xs s r h = has_not xs s (λ m. omega (arith, (rising_range k n xs r s m).0))

abbrev pub one_if : Bool → (v s : ℕ) → List (ℕ × ℕ)
one_if true v s = (v, s) ∷ []
one_if false v s = []

-- a number among the numbered members: at most once, at its place
pub filter_number : (k n b : ℕ) (xs : List ℕ) (s : ℕ) → Rising k n xs → filter (λ (x : ℕ × ℕ). eqb s x.1) (number b xs) ≡ one_if (has xs s) (b + rank xs s) s
filter_number k n b [] s r = refl
filter_number k n b (x ∷ xs) s r = go (ℕ_discrete s x) (filter_number (suc x) n (suc b) xs s r.2)
  where
    other : (s ≡ x → ⊥) → (x ≤ s) ⊎ (s < x) → one_if (has xs s) (suc b + rank xs s) s ≡ one_if (has xs s) (b + (cond (ltb x s) 1 0 + rank xs s)) s
    other u (inl l) = let e : suc b + rank xs s ≡ b + (1 + rank xs s) = omega arith in rw (lt-ltb x s (ne_lt l (λ q. u (sym q))), e)
    other u (inr l) = rw (has_low (suc x) n xs s r.2 (omega arith))

    go : Dec (s ≡ x) → filter (λ (y : ℕ × ℕ). eqb s y.1) (number (suc b) xs) ≡ one_if (has xs s) (suc b + rank xs s) s
        → filter (λ (y : ℕ × ℕ). eqb s y.1) (number b (x ∷ xs)) ≡ one_if (has (x ∷ xs) s) (b + rank (x ∷ xs) s) s
    go (yes e) i =
        let z : b + (0 + 0) ≡ b = omega arith in
        rw (i, ← e, eqb_same s, has_low (suc x) n xs s r.2 (omega arith), le-ltb s s (omega arith), rank_low (suc x) n xs s r.2 (omega arith), z)
    go (no u) i = rw (i, eqb_other s x u) (other u (le_or_lt x s))

-- Sets given by a test ---------------------------------------------------------------------------------------------------------
module _ (p : ℕ → Bool) where
  -- the place of i in the set: how many come before it
  pub rank_keep : (k c i : ℕ) → k ≤ i → i ≤ k + c → rank (filter p (from k c)) i ≡ length (filter p (from k (i - k)))
  rank_keep k c i h l =
      let e : c ≡ i - k + (k + c - i) = omega arith in
      let z : k + (i - k) ≡ i = omega arith in
      let low = filter p (from k (i - k)) in
      let high = filter p (from i (k + c - i)) in
      let parts : filter p (from k c) ≡ low ++ high =
      ap (λ (d : ℕ). filter p (from k d)) e ∙ (ap (filter p) (from_add k (i - k) (k + c - i) ∙ ap (λ (d : ℕ). from k (i - k) ++ from d (k + c - i)) z)
      ∙ filter_append p (from k (i - k)) (from i (k + c - i))) in
      ap (λ (xs : List ℕ). rank xs i) parts
      ∙ (rank_append i low high
      ∙ omega (
        arith,
        rank_all i low (every_of (λ (x : ℕ). x < i) low (λ x m. omega (arith, (from_range x k (i - k) (in_filter_out p x (from k (i - k)) m).0).1))),
        rank_none i high (every_of (λ (x : ℕ). i ≤ x) high (λ x m. (from_range x i (k + c - i) (in_filter_out p x (from i (k + c - i)) m).0).0)),
      ))

-- Sets as words: the count that crate `bitset` gives is the place -----------------------------------------------------------------
pub members_rank : (ws : List ℕ) (i : ℕ) → rank (members ws) i ≡ length (members_below ws i)
members_rank ws i = go (le_or_lt i (64 * length ws))
  where
    go : (i ≤ 64 * length ws) ⊎ (64 * length ws < i) → rank (members ws) i ≡ length (members_below ws i)
    go (inl l) =
        let z : i - 0 ≡ i = omega arith in
        rank_keep (contains ws) 0 (64 * length ws) i (omega arith) (omega arith) ∙ ap (λ (n : ℕ). length (members_below ws n)) z
    go (inr l) =
        let e : 64 * length ws ≡ min i (64 * length ws) = omega arith in
        rank_all i (members ws) (every_of (λ (x : ℕ). x < i) (members ws)
        (λ x m. omega (arith, up_to_range x (64 * length ws) (in_filter_out (contains ws) x (up_to (64 * length ws)) m).0)))
        ∙ (ap (λ (n : ℕ). length (members_below ws n)) e ∙ ap length (below_end ws i))
