-- Records laid from words.
-- One record at a time.
use mathlib.Core.Path.{◌≡◌, refl, sym, ap, ◌∙◌}
use mathlib.Core.List.{List, [], ◌∷◌, map, ◌++◌, map-append}
use Prim.Native.Nat.{ℕ, zero, suc, ◌+◌, ◌*◌, ◌≤◌, ◌<◌}
use native.Mathlib.Numerals.{add-one}
use native.Mathlib.Nat.{zero-add}
use native.Mathlib.Omega.{arith}
use lib.ListN.{length, get_or, take, drop, set, length-append, length-drop, length-map}
use lib.Seq.{drop-cons, set_at, append_snoc, get_or-take, get_or-drop}
use Rattle.lists.specs.List.{from, up_to}
use Rattle.nodes.specs.declared.Node.{Node}
use Rattle.std.specs.Simd.{first_chunks}
use Rattle.nodes.specs.Nodes.{in_array, record_at, laid}
use Rattle.nodes.specs.Tree.{blank}

-- Laid -------------------------------------------------------------------------------------------------------------------------------
-- the record behind the first five words
word : (fs : List ℕ) (i k : ℕ) → get_or (drop 5 fs) (i * 5 + k) 0 ≡ get_or fs (suc i * 5 + k) 0
word fs i k = let e : suc i * 5 + k ≡ 5 + (i * 5 + k) = omega arith in rw e (get_or-drop 5 fs (i * 5 + k) 0)

pub later_record : (fs : List ℕ) (i : ℕ) → record_at (drop 5 fs) i ≡ record_at fs (suc i)
later_record fs i =
    let z : i * 5 + 0 ≡ i * 5 = omega arith in
    let y : suc i * 5 + 0 ≡ suc i * 5 = omega arith in
    let a : get_or (drop 5 fs) (i * 5) 0 ≡ get_or fs (suc i * 5) 0 = rw z at (rw y at (word fs i 0)) in
    rw (word fs i 1, word fs i 2, word fs i 3, word fs i 4, a)

-- the first
pub first_record : (fs : List ℕ) → in_array (take 5 fs) ≡ record_at fs 0
first_record fs = grind (arith, get_or-take)

-- a record read from the array that its five words are
pub in_chunk : (fs : List ℕ) (n i : ℕ) → i < n → in_array (get_or (first_chunks 5 n fs) i []) ≡ record_at fs i
in_chunk fs zero i h = absurd (omega arith)
in_chunk fs (suc n) zero h = first_record fs
in_chunk fs (suc n) (suc i) h = in_chunk (drop 5 fs) n i (omega arith) ∙ later_record fs i

pub length_from : (k n : ℕ) → length (from k n) ≡ n
length_from k zero = refl
length_from k (suc n) = omega (arith, length_from (suc k) n)

pub from_snoc : (k n : ℕ) → from k (suc n) ≡ from k n ++ ((k + n) ∷ [])
from_snoc k zero = let z : k + 0 ≡ k = omega arith in rw z
from_snoc k (suc n) = let z : suc k + n ≡ k + suc n = omega arith in ap (λ (l : List ℕ). k ∷ l) (from_snoc (suc k) n ∙ rw z)

module _ (fs : List ℕ) (ns : List Node) where
  length_front : (n : ℕ) → length (map (record_at fs) (up_to n)) ≡ n
  length_front n = length-map (up_to n) (record_at fs) ∙ length_from 0 n

  pub laid_none : laid fs ns 0 ≡ ns
  unfolding laid
  laid_none = refl

  pub laid_more : (i : ℕ) → i < length ns → set (laid fs ns i) i (record_at fs i) ≡ laid fs ns (i + 1)
  unfolding laid
  laid_more i h =
      let s : up_to (suc i) ≡ up_to i ++ (i ∷ []) = from_snoc 0 i ∙ ap (λ (k : ℕ). up_to i ++ (k ∷ [])) (zero-add i) in
      rw (add-one i, drop-cons ns i blank)
      (set_at (map (record_at fs) (up_to i)) _ (drop (suc i) ns) (record_at fs i) i (length_front i)
      ∙ sym (ap (λ (l : List ℕ). map (record_at fs) l ++ drop (suc i) ns) s ∙ ap (λ (l : List Node). l ++ drop (suc i) ns) (map-append (record_at fs) (up_to i) (i ∷ [])) ∙ append_snoc (map (record_at fs) (up_to i)) (record_at fs i) (drop (suc i) ns)))

  pub length_laid : (n : ℕ) → n ≤ length ns → length (laid fs ns n) ≡ length ns
  unfolding laid
  length_laid n h = length-append (map (record_at fs) (up_to n)) (drop n ns) ∙ omega (arith, length_front n, length-drop n ns)
