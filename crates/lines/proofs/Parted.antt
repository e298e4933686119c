-- What stands before the first byte c, and behind it.
-- From the laws of Cutting at the length of what stands before.
use mathlib.Core.Path.{◌≡◌, refl, sym, ap, ◌∙◌}
use mathlib.Core.Bool.{Bool, true, false, cond}
use mathlib.Core.List.{List, [], ◌∷◌}
use Prim.Native.Nat.{ℕ, suc, ◌+◌, ◌-◌, ◌≤◌, ◌<◌}
use native.Mathlib.Numerals.{add-one}
use native.Mathlib.Omega.{arith}
use lib.Dec.{eqb, ltb}
use lib.ListN.{length, take, drop, length-drop}
use lib.Seq.{take-length}
use Rattle.std.proofs.Common.{Option, None, Some}
use Rattle.std.proofs.lemmas.Bool.Decides.{nat_tests}
use Rattle.std.specs.List.{position_or_len, slice_split, onto_first}
use Rattle.std.proofs.lemmas.List.Recursion.{is_position_or_len}
use Rattle.lists.specs.List.{find_index}
use Rattle.lines.specs.Parts.{split, ended, push, put_byte}
use Rattle.lines.specs.Cut.{before}
use Rattle.lines.proofs.Cutting.{before_le, split_last, split_more}

-- `before` is the library's word for the place
pub before_is : (c : ℕ) (s : List ℕ) → before c s ≡ position_or_len (λ b. eqb b c) s
unfolding before
before_is c s = is_position_or_len (λ (l : List ℕ). find_index (λ b. eqb b c) l) (λ b. eqb b c) refl (λ x xs. ap (λ (n : ℕ). cond (eqb x c) 0 n) (omega arith)) s

-- what `position` finds, in the words of `before`
pub record Found (c : ℕ) (s : List ℕ) (e : ℕ) : Type 0 where
  pub place : e ≡ before c s
  pub inside : e < length s

abbrev pub found_in : ℕ → List ℕ → Option ℕ
found_in c s = cond (ltb (position_or_len (λ b. eqb b c) s) (length s)) (Some (position_or_len (λ b. eqb b c) s)) None

pub found : (c : ℕ) (s : List ℕ) (e : ℕ) → Some e ≡ found_in c s → Found c s e
found c s e p = go (position_or_len (λ b. eqb b c) s) (before_is c s) p
  where
    go : (k : ℕ) → before c s ≡ k → Some e ≡ cond (ltb k (length s)) (Some k) None → Found c s e
    go k q h = record { place = grind (arith, nat_tests); inside = grind (arith, nat_tests) }

abbrev none_found : Option ℕ
none_found = None

pub found_none : (c : ℕ) (s : List ℕ) → None ≡ found_in c s → before c s ≡ length s
found_none c s p = go (position_or_len (λ b. eqb b c) s) (before_is c s) p (before_le c s)
  where
    go : (k : ℕ) → before c s ≡ k → none_found ≡ cond (ltb k (length s)) (Some k) None → before c s ≤ length s → before c s ≡ length s
    go k q h l = grind (arith, nat_tests)

pub whole : (c : ℕ) (p : List ℕ) → None ≡ found_in c p → split c p ≡ p ∷ []
whole c p f = split_last c p (found_none c p f)

pub parted : (c : ℕ) (p : List ℕ) (e : ℕ) → Some e ≡ found_in c p → split c p ≡ take e p ∷ split c (take (length p - (e + 1)) (drop (e + 1) p))
parted c p e f =
    let k = found c p e f in
    let q : length p - (e + 1) ≡ length (drop (suc e) p) = omega (arith, length-drop (suc e) p) in
    let m : before c p < length p = omega (arith, k.place, k.inside) in
    let b : take (length p - (e + 1)) (drop (e + 1) p) ≡ drop (suc e) p = rw (q, add-one e) (take-length (drop (suc e) p)) in
    rw (b, k.place) (split_more c p m)

-- The lines are the parts but the last ---------------------------------------------------------------------------------------
unfoldable all_but_last : List (List ℕ) → List (List ℕ)
all_but_last [] = []
all_but_last (p ∷ []) = []
all_but_last (p ∷ q ∷ ps) = p ∷ all_but_last (q ∷ ps)

-- the first part, by the byte in front
first_part : (t : Bool) (b : ℕ) (ps : List (List ℕ)) → (q : List ℕ) × (qs : List (List ℕ)) × (ps ≡ q ∷ qs) → (q : List ℕ) × (qs : List (List ℕ)) × (put_byte t b ps ≡ q ∷ qs)
first_part true b ps (q, qs, e) = ([], ps, refl)
first_part false b ps (q, qs, e) = (b ∷ q, qs, ap (push b) e)

pub some_part : (c : ℕ) (s : List ℕ) → (q : List ℕ) × (qs : List (List ℕ)) × (split c s ≡ q ∷ qs)
unfolding split
some_part c [] = ([], [], refl)
some_part c (b ∷ s) = first_part (eqb b c) b (split c s) (some_part c s)

put_last : (t : Bool) (b : ℕ) (ps : List (List ℕ)) → (q : List ℕ) × (qs : List (List ℕ)) × (ps ≡ q ∷ qs) → put_byte t b (all_but_last ps) ≡ all_but_last (put_byte t b ps)
unfolding all_but_last
put_last true b ps (q, qs, e) = rw e
put_last false b ps (q, [], e) = rw e
put_last false b ps (q, r ∷ qs, e) = rw e

ended_is : (c : ℕ) (s : List ℕ) → ended c s ≡ all_but_last (split c s)
unfolding split ended all_but_last
ended_is c [] = refl
ended_is c (b ∷ s) = ap (put_byte (eqb b c) b) (ended_is c s) ∙ put_last (eqb b c) b (split c s) (some_part c s)

pub ended_none : (c : ℕ) (s p : List ℕ) → split c s ≡ p ∷ [] → ended c s ≡ []
unfolding all_but_last
ended_none c s p e = ended_is c s ∙ ap all_but_last e

pub ended_some : (c : ℕ) (s p t : List ℕ) → split c s ≡ p ∷ split c t → ended c s ≡ p ∷ ended c t
unfolding all_but_last
ended_some c s p t e =
    let k = some_part c t in
    let q : split c t ≡ k.0 ∷ k.1 = k.2 in
    ended_is c s ∙ ap all_but_last e ∙ rw q (ap (λ (l : List (List ℕ)). p ∷ l) (sym (ended_is c t ∙ ap all_but_last q)))

-- The library's words for the same ---------------------------------------------------------------------------------------------
put_first : (t : Bool) (b : ℕ) (ps : List (List ℕ)) → (q : List ℕ) × (qs : List (List ℕ)) × (ps ≡ q ∷ qs) → put_byte t b ps ≡ cond t ([] ∷ ps) (onto_first b ps)
put_first true b ps k = refl
put_first false b ps (q, qs, e) = rw e

pub split_is : (c : ℕ) (s : List ℕ) → split c s ≡ slice_split (λ b. eqb b c) s
unfolding split
split_is c [] = refl
split_is c (b ∷ s) = put_first (eqb b c) b (split c s) (some_part c s) ∙ rw (split_is c s)
