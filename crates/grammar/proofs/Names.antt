-- Names, lists and the depth.
-- By what the field begins with.
use mathlib.Core.Path.{◌≡◌, refl, ap, ◌∙◌}
use mathlib.Core.Bool.{Bool, true, false, ◌&&◌}
use mathlib.Core.List.{List, [], ◌∷◌}
use Prim.Native.Nat.{ℕ, ◌-◌, ◌≤◌, ◌<◌}
use native.Mathlib.Omega.{arith}
use lib.Dec.{leb, eqb}
use lib.ListN.{length, get_or, take, drop, length-drop}
use lib.Seq.{take-length}
use borrow.Author.Tests.{le-leb, lt-leb}
use Rattle.std.specs.List.{list_all, slice_split}
use Rattle.std.proofs.lemmas.List.Recursion.{same_from_clauses}
use Rattle.lists.specs.List.{all}
use Rattle.lists.proofs.Bool.{and_off, and_on}
use Rattle.lines.proofs.Parted.{split_is}
use Rattle.grammar.specs.Byte.{comma, lower, of_name}
use Rattle.grammar.specs.Name.{is_name, is_hyphen, is_list, names_in}
use Rattle.grammar.proofs.Bytes.{lower_is}

-- the library's word for it
pub all_is : {A : Type 0} (p : A → Bool) (xs : List A) → list_all p xs ≡ all p xs
all_is p xs = same_from_clauses (list_all p) (all p) (λ x b. p x && b) refl (λ x xs. refl) (λ x xs. refl) xs

-- Names ------------------------------------------------------------------------------------------------------------------
pub name_none : (f : List ℕ) → length f < 1 → false ≡ is_name f
unfolding is_name
name_none [] h = refl
name_none (b ∷ s) h = absurd (omega arith)

name_front : (f : List ℕ) → 1 ≤ length f → is_name f ≡ ((lower (get_or f 0 0) && all of_name (drop 1 f)) && leb (length f - 1) 11)
unfolding is_name
name_front [] h = absurd (omega arith)
name_front (b ∷ s) h = let q : length s ≡ length (b ∷ s) - 1 = omega arith in rw (← q) refl

rest_of : (f : List ℕ) → take (length f - 1) (drop 1 f) ≡ drop 1 f
rest_of [] = refl
rest_of (b ∷ s) = let q : length (b ∷ s) - 1 ≡ length s = omega arith in rw q (take-length s)

pub name_low : (f : List ℕ) → 1 ≤ length f → get_or f 0 0 < 97 → false ≡ is_name f
name_low f h l = rw (name_front f h, lower_is (get_or f 0 0), lt-leb 97 (get_or f 0 0) l)

pub name_high : (f : List ℕ) → 1 ≤ length f → 122 < get_or f 0 0 → false ≡ is_name f
name_high f h l = rw (name_front f h, lower_is (get_or f 0 0), lt-leb (get_or f 0 0) 122 l, and_off)

pub name_long : (f : List ℕ) → 1 ≤ length f → 11 < length (take (length f - 1) (drop 1 f)) → leb (length (take (length f - 1) (drop 1 f))) 11 ≡ is_name f
name_long f h n =
    let q : leb (length (take (length f - 1) (drop 1 f))) 11 ≡ false = lt-leb (length (take (length f - 1) (drop 1 f))) 11 n in
    let m : 11 < length f - 1 = omega (arith, ap length (rest_of f), length-drop 1 f) in
    rw (q, name_front f h, lt-leb (length f - 1) 11 m, and_off)

pub name_rest : (f : List ℕ) (r : Bool) → 1 ≤ length f → 97 ≤ get_or f 0 0 → get_or f 0 0 < 123 → length (take (length f - 1) (drop 1 f)) ≤ 11
    → r ≡ list_all of_name (take (length f - 1) (drop 1 f)) → r ≡ is_name f
name_rest f r h l m n e =
    let k : length f - 1 ≤ 11 = omega (arith, ap length (rest_of f), length-drop 1 f) in
    e ∙ rw (rest_of f, all_is of_name (drop 1 f), name_front f h, lower_is (get_or f 0 0), le-leb 97 (get_or f 0 0) l, le-leb (get_or f 0 0) 122 (omega arith), le-leb (length f - 1) 11 k, and_on)

-- Lists ------------------------------------------------------------------------------------------------------------------
pub list_none : (f : List ℕ) (r : Bool) → r ≡ is_hyphen f → r ≡ true → r ≡ is_list f
unfolding is_list
list_none f r e y = rw (← e, y)

pub list_names : (f : List ℕ) (h r : Bool) → h ≡ is_hyphen f → h ≡ false → r ≡ list_all is_name (slice_split (λ b. eqb b 44) f) → r ≡ is_list f
unfolding is_list
list_names f h r e n q = q ∙ all_is is_name (slice_split (λ b. eqb b 44) f) ∙ rw (← e, n, split_is comma f)

pub names_none : (f : List ℕ) (r : Bool) → r ≡ is_hyphen f → r ≡ true → 0 ≡ length (names_in f)
unfolding names_in
names_none f r e y = rw (← e, y)

pub names_some : (f : List ℕ) (r : Bool) (n : ℕ) → r ≡ is_hyphen f → r ≡ false → n ≡ length (slice_split (λ b. eqb b 44) f) → n ≡ length (names_in f)
unfolding names_in
names_some f r n e y q = q ∙ rw (← e, y, split_is comma f)
