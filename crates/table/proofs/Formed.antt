-- The names that formed lines declare are names.
-- The second field of an F, S or T line is one.
use mathlib.Core.Path.{◌≡◌, refl, ap}
use mathlib.Core.Bool.{Bool, true, false, cond, ◌&&◌, ◌||◌}
use mathlib.Core.List.{List, [], ◌∷◌}
use Prim.Native.Nat.{ℕ}
use lib.Dec.{eqb}
use lib.ListN.{length, get_or}
use borrow.Author.Tests.{eqb-true}
use Rattle.lists.specs.List.{any, all, Every}
use Rattle.lists.proofs.Bool.{and_l, and_r, or_off, clash}
use Rattle.lines.specs.Parts.{Piece, split}
use Rattle.grammar.specs.Byte.{tab}
use Rattle.grammar.specs.Name.{Name, is_name}
use Rattle.grammar.specs.Line.{Letter, F, S, T, byte_of, begins, letter_of, letter, Form, name, forms, has_form, formed, formed_as, is_line, field, name_in}
use Rattle.outline.specs.Sections.{leading}
use Rattle.outline.specs.Names.{names_of}

fields_named : (c : Letter) (ks : List Form) → forms c ≡ (name ∷ ks) ∷ [] → (fs : List (List ℕ)) → formed_as c fs ≡ true → is_name (get_or fs 1 []) ≡ true
unfolding formed_as formed has_form
fields_named c ks o [] e = clash e refl
fields_named c ks o (f ∷ []) e = clash (rw o at (and_r (eqb (length f) 1) (any (formed []) (forms c)) e)) refl
fields_named c ks o (f ∷ g ∷ gs) e =
    let a : ((is_name g && formed gs ks) || false) ≡ true = rw o at (and_r (eqb (length f) 1) (any (formed (g ∷ gs)) (forms c)) e) in
    and_l (is_name g) (formed gs ks) (rw (or_off (is_name g && formed gs ks)) at a)

pub begins_F : (l : List ℕ) → begins 70 l ≡ true → letter l ≡ F
unfolding begins letter letter_of
begins_F [] e = clash e refl
begins_F (b ∷ l) e = ap letter_of (eqb-true b 70 e)

pub begins_S : (l : List ℕ) → begins 83 l ≡ true → letter l ≡ S
unfolding begins letter letter_of
begins_S [] e = clash e refl
begins_S (b ∷ l) e = ap letter_of (eqb-true b 83 e)

pub begins_T : (l : List ℕ) → begins 84 l ≡ true → letter l ≡ T
unfolding begins letter letter_of
begins_T [] e = clash e refl
begins_T (b ∷ l) e = ap letter_of (eqb-true b 84 e)

-- the lines in front that begin with the letter c
pub names_formed : (c : Letter) (ks : List Form) → forms c ≡ (name ∷ ks) ∷ [] → ((l : List ℕ) → begins (byte_of c) l ≡ true → letter l ≡ c)
    → (ls : List Piece) → all (λ l. is_line l.bytes) ls ≡ true → Every (λ (n : Name). is_name n ≡ true) (names_of (leading (byte_of c) ls))
unfolding leading names_of is_line name_in field
names_formed c ks o h [] e = tt
names_formed c ks o h (l ∷ ls) e = go (begins (byte_of c) l.bytes) refl (names_formed c ks o h ls (and_r (is_line l.bytes) (all (λ m. is_line m.bytes) ls) e))
  where
    go : (t : Bool) → begins (byte_of c) l.bytes ≡ t → Every (λ (n : Name). is_name n ≡ true) (names_of (leading (byte_of c) ls))
        → Every (λ (n : Name). is_name n ≡ true) (names_of (cond t (l ∷ leading (byte_of c) ls) []))
    go true d r = (fields_named c ks o (split tab l.bytes) (rw (h l.bytes d) at (and_l (is_line l.bytes) (all (λ m. is_line m.bytes) ls) e)), r)
    go false d r = tt
