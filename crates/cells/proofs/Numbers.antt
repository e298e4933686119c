-- Reading a number: digits from left to right, the sign, what is no number.
-- One law for each way that the reading goes.
use mathlib.Core.Path.{◌≡◌, sym, ◌∙◌}
use mathlib.Core.Bool.{Bool, true, false}
use mathlib.Core.List.{List}
use Prim.Native.Nat.{ℕ, ◌+◌, ◌-◌, ◌*◌, ◌^◌, ◌≤◌, ◌<◌}
use native.Mathlib.Numerals.{add-one}
use native.Mathlib.Omega.{arith}
use lib.ListN.{length, get_or, drop}
use lib.Dec.{leb}
use lib.Seq.{drop-cons}
use borrow.Author.Tests.{le-leb, lt-leb}
use Rattle.lists.proofs.Bool.{and_l, and_r, leb_sound}
use Rattle.lines.specs.Bytes.{within, digit}
use Rattle.cells.specs.Number.{digits_from}

-- A digit ------------------------------------------------------------------------------------------------------------------------
pub digit_in : (b : ℕ) → 48 ≤ b → b < 58 → true ≡ digit b
unfolding digit within
digit_in b h k = rw (le-leb 48 b h, le-leb b 57 (omega arith))

pub digit_under : (b : ℕ) → b < 48 → false ≡ digit b
unfolding digit within
digit_under b h = rw (lt-leb 48 b h)

pub digit_over : (b : ℕ) → 58 ≤ b → false ≡ digit b
unfolding digit within
digit_over b h = rw (le-leb 48 b (omega arith), lt-leb b 57 (omega arith))

pub digit_range : (b : ℕ) → digit b ≡ true → (48 ≤ b) × (b ≤ 57)
unfolding digit within
digit_range b e = (leb_sound 48 b (and_l (leb 48 b) (leb b 57) e), leb_sound b 57 (and_r (leb 48 b) (leb b 57) e))

-- Digits -------------------------------------------------------------------------------------------------------------------------
-- v was read up to i, and with what is left it makes the whole
pub record Digits (ds : List ℕ) (sign : Bool) (v i : ℕ) : Type 0 where
  pub small : v < 10 ^ i
  pub same : digits_from sign v (drop i ds) ≡ digits_from sign 0 ds

module _ {ds : List ℕ} {sign : Bool} {v i : ℕ} (u : Digits ds sign v i) (l : i < length ds) where
  pub digits_more : digit (get_or ds i 0) ≡ true → Digits ds sign (v * 10 + (get_or ds i 0 - 48)) (i + 1)
  digits_more e =
      let q : digits_from sign v (drop i ds) ≡ digits_from sign (v * 10 + (get_or ds i 0 - 48)) (drop (i + 1) ds) = rw (drop-cons ds i 0 l, e, add-one i) in
      record {
        small = let g = digit_range (get_or ds i 0) e in let q : 10 ^ (i + 1) ≡ 10 ^ i * 10 = rw (add-one i) (omega arith) in omega (arith, u.small, g.1, q);
        same = sym q ∙ u.same;
      }
