-- The loops' invariants: how each starts, goes on and ends.
-- By the laws of literals and of writes.
use mathlib.Core.Path.{◌≡◌, refl, sym, ap, ◌∙◌}
use mathlib.Core.List.{List, [], ◌∷◌, ◌++◌}
use Prim.Native.Nat.{ℕ, suc, zero, ◌+◌, ◌*◌, ◌^◌, ◌≤◌, ◌<◌}
use native.Mathlib.Omega.{arith}
use lib.ListN.{length, get_or, take, length-append}
use lib.Seq.{take_all}
use Rattle.lists.specs.Written.{Wrote}
use Rattle.lists.proofs.Written.{wrote_none, wrote_append, wrote_same, wrote_length}
use Rattle.planning.specs.Text.{clause_line}
use Rattle.writer.specs.Literal.{clause_in}
use Rattle.writer.proofs.Literals.{literal, literal_most, literals, literals_more, literals_some}

length_line : (cs : List ℕ) → length (clause_line (clause_in cs)) ≡ length (literals cs) + 2
length_line cs = length-append (literals cs) (48 ∷ 10 ∷ [])

-- the first i of them, where that is all
all_of : (cs : List ℕ) (i : ℕ) → length cs ≤ i → literals (take i cs) ≡ literals cs
all_of cs i h = ap literals (take_all i cs h)

-- `clause_size`: n counts the bytes of the first i literals and of the line's end -----------------------------------------------
pub record Counted (cs : List ℕ) (n i : ℕ) : Type 0 where
  pub at : i ≤ length cs
  pub count : n ≡ length (literals (take i cs)) + 2
  pub small : n ≤ 22 * i + 2

pub counted_none : (cs : List ℕ) → Counted cs 2 0
counted_none cs = record { at = omega arith; count = refl; small = omega arith }

pub counted_more : {cs : List ℕ} {n i k : ℕ} → Counted cs n i → i < length cs → get_or cs i 0 < 2 ^ 64 → k ≡ length (literal (get_or cs i 0))
    → Counted cs (n + k) (i + 1)
counted_more {cs} {n} {i} {k} u h f e =
    record {
      at = omega arith;
      count = rw (literals_more cs i h) (omega (arith, u.count, e, length-append (literals (take i cs)) (literal (get_or cs i 0))));
      small = omega (arith, u.small, e, literal_most (get_or cs i 0) f);
    }

pub counted_all : {cs : List ℕ} {n i : ℕ} → Counted cs n i → length cs ≤ i → n ≡ length (clause_line (clause_in cs))
counted_all {cs} {n} {i} u h = omega (arith, u.count, ap length (all_of cs i h), length_line cs)

-- `clause_fits`: a line is never long
counted_to : (cs : List ℕ) → ((i : ℕ) → get_or cs i 0 < 2 ^ 64) → (i : ℕ) → i ≤ length cs → (n : ℕ) × Counted cs n i
counted_to cs f zero h = (2, counted_none cs)
counted_to cs f (suc i) h =
    let u = counted_to cs f i (omega arith) in
    let e : i + 1 ≡ suc i = omega arith in
    (u.0 + length (literal (get_or cs i 0)), rw e at (counted_more u.1 (omega arith) (f i) refl))

pub line_short : (cs : List ℕ) → ((i : ℕ) → get_or cs i 0 < 2 ^ 64) → length cs ≤ 136 → length (clause_line (clause_in cs)) ≤ 2994
line_short cs f h =
    let u = counted_to cs f (length cs) (omega arith) in
    omega (arith, u.1.small, counted_all u.1 (omega arith))

-- `put_clause`: the first i literals are written from place s on, and there is room for the line ---------------------------------
pub record Laid (cs o₀ : List ℕ) (s : ℕ) (o : List ℕ) (a i : ℕ) : Type 0 where
  pub at : i ≤ length cs
  pub room : s + length (clause_line (clause_in cs)) ≤ length o₀
  pub same : length o ≡ length o₀
  pub text : Wrote o₀ s (literals (take i cs)) o a

pub laid_none : (cs o : List ℕ) (s : ℕ) → s + length (clause_line (clause_in cs)) ≤ length o → Laid cs o s o s 0
laid_none cs o s h = record { at = omega arith; room = h; same = refl; text = wrote_none o s }

module _ {cs o₀ o : List ℕ} {s a i : ℕ} (u : Laid cs o₀ s o a i) where
  -- there is room for one more literal, and it is written
  pub laid_room : i < length cs → a + length (literal (get_or cs i 0)) ≤ length o
  laid_room h =
      let e = ap length (literals_more cs i h) ∙ length-append (literals (take i cs)) (literal (get_or cs i 0)) in
      omega (arith, u.text.end, u.same, u.room, length_line cs, literals_some cs (i + 1), e)

  pub laid_more : {o' : List ℕ} {r : ℕ} → i < length cs → Wrote o a (literal (get_or cs i 0)) o' r → Laid cs o₀ s o' r (i + 1)
  laid_more h w =
      record {
        at = omega arith;
        room = u.room;
        same = wrote_length w (laid_room h) ∙ u.same;
        text = wrote_same (sym (literals_more cs i h)) (wrote_append (omega (arith, u.room)) u.text w);
      }

  -- behind the last there is room for the line's end, and it is written
  pub laid_end : length cs ≤ i → a + 2 ≤ length o
  laid_end h = omega (arith, u.text.end, u.same, u.room, length_line cs, ap length (all_of cs i h))

  pub laid_all : {o₁ : List ℕ} {r₁ : ℕ} → length cs ≤ i → Wrote o a (48 ∷ 10 ∷ []) o₁ r₁ → Wrote o₀ s (clause_line (clause_in cs)) o₁ r₁
  laid_all h w =
      wrote_same (ap (λ (l : List ℕ). l ++ (48 ∷ 10 ∷ [])) (all_of cs i h)) (wrote_append (omega (arith, u.room)) u.text w)
