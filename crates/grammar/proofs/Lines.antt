-- Fields and lines.
-- By what the line is parted into.
use mathlib.Core.Path.{◌≡◌, refl, sym, ap, ◌∙◌}
use mathlib.Core.Bool.{Bool, true, false, not}
use mathlib.Core.List.{List, [], ◌∷◌, ◌++◌}
use Prim.Native.Nat.{ℕ, ◌+◌, ◌≤◌, ◌<◌}
use native.Mathlib.Numerals.{add-one}
use native.Mathlib.Omega.{arith}
use lib.ListN.{length, get_or, drop}
use lib.Seq.{drop-cons}
use lib.Dec.{eqb}
use denote.Ref.{Bor}
use Rattle.std.proofs.Common.{Option, None, Some}
use Rattle.std.specs.Option.{unwrap_or, option_map, MatchOption, is_some}
use Rattle.std.proofs.Common.{drop_of_length-le}
use borrow.Author.Tests.{eq-eqb, ne_eqb}
use Rattle.lists.specs.List.{any}
use Rattle.lists.proofs.Bool.{and_off, or_off}
use Rattle.std.specs.List.{slice_get, slice_split}
use Rattle.std.proofs.lemmas.Option.{unwrap_or-slice_get}
use Rattle.lines.specs.Parts.{split}
use Rattle.lines.proofs.Parted.{split_is, some_part}
use Rattle.grammar.specs.Byte.{tab}
use Rattle.grammar.specs.declared.Form.{Form as Asked}
use Rattle.grammar.specs.declared.Form.TheVariants.{Name}
use Rattle.grammar.specs.Line.{Letter, F, S, T, M, I, R, other, letter_of, letter, forms, Form, has_form, formed, formed_as, is_line, field}
use Rattle.grammar.specs.Field.{form_of, forms_of}

-- Field k of a line ------------------------------------------------------------------------------------------------------
now_or : (r : Option (Bor (List ℕ))) (d : Bor (List ℕ)) → (unwrap_or r d).now ≡ unwrap_or (option_map (λ (x : Bor (List ℕ)). x.now) r) d.now
now_or None d = refl
now_or (Some x) d = refl

pub field_is : (l : List ℕ) (k : ℕ) (u : Bor (List ℕ)) (r : Option (Bor (List ℕ))) (d : Bor (List ℕ)) → d.now ≡ [] → u ≡ unwrap_or r d
    → option_map (λ (x : Bor (List ℕ)). x.now) r ≡ slice_get (slice_split (λ b. eqb b 9) l) k → u.now ≡ field l k
unfolding field
field_is l k u r d e q h =
    ap (λ (x : Bor (List ℕ)). x.now) q ∙ now_or r d ∙ rw (h, e, split_is tab l) (unwrap_or-slice_get (slice_split (λ b. eqb b 9) l) k [])

-- Fields and their forms -------------------------------------------------------------------------------------------------
-- the fields that are left
abbrev pub left_parts : Option (Bor (List ℕ)) → List (List ℕ)
left_parts None = []
left_parts (Some f) = split tab f.now

pub parted_is : (s x : List ℕ) (r : Option (Bor (List ℕ)))
    → MatchOption r (split tab s ≡ x ∷ []) (λ (rest : Bor (List ℕ)). split tab s ≡ x ∷ split tab rest.now) → split tab s ≡ x ∷ left_parts r
parted_is s x None m = m
parted_is s x (Some rest) m = m

forms_next : (ks : List Asked) (j : ℕ) → j < length ks → forms_of (drop j ks) ≡ form_of (get_or ks j Name) ∷ forms_of (drop (j + 1) ks)
unfolding forms_of
forms_next ks j h = rw (add-one j, drop-cons ks j Name h)

forms_none : (ks : List Asked) (j : ℕ) → length ks ≤ j → forms_of (drop j ks) ≡ []
unfolding forms_of
forms_none ks j h = rw (drop_of_length-le ks {i = j} h)

module _ (o : Option (Bor (List ℕ))) (ks : List Asked) (j : ℕ) {t : Bool} (u : formed (left_parts o) (forms_of (drop j ks)) ≡ t) where
  pub fields_none : o ≡ None → j < length ks → false ≡ t
  unfolding formed
  fields_none e l = let q : formed (left_parts o) (forms_of (drop j ks)) ≡ false = rw (e, forms_next ks j l) in sym q ∙ u

  pub fields_done : (r : Bool) → length ks ≤ j → is_some o ≡ not r → r ≡ t
  unfolding formed
  fields_done r h e = go o r (sym u ∙ ap (formed (left_parts o)) (forms_none ks j h)) e
    where
      go : (p : Option (Bor (List ℕ))) (b : Bool) → t ≡ formed (left_parts p) [] → is_some p ≡ not b → b ≡ t
      go None true v w = sym v
      go None false v w = cc
      go (Some f) true v w = cc
      go (Some f) false v w = let k = some_part tab f.now in sym (v ∙ rw k.2)

  module _ (f : Bor (List ℕ)) (x : List ℕ) (r : Option (Bor (List ℕ))) {h : Bool} (e : o ≡ Some f)
      (m : MatchOption r (split tab f.now ≡ x ∷ []) (λ (rest : Bor (List ℕ)). split tab f.now ≡ x ∷ split tab rest.now)) (l : j < length ks)
      (k : h ≡ has_form (form_of (get_or ks j Name)) x) where
    here : formed (left_parts o) (forms_of (drop j ks)) ≡ formed (x ∷ left_parts r) (form_of (get_or ks j Name) ∷ forms_of (drop (j + 1) ks))
    here = rw (e, parted_is f.now x r m, forms_next ks j l)

    pub fields_out : h ≡ false → false ≡ t
    unfolding formed
    fields_out n = let q : formed (x ∷ left_parts r) (form_of (get_or ks j Name) ∷ forms_of (drop (j + 1) ks)) ≡ false = rw (← k, n) in sym q ∙ sym here ∙ u

    pub fields_more : h ≡ true → formed (left_parts r) (forms_of (drop (j + 1) ks)) ≡ t
    unfolding formed
    fields_more y =
        let q : formed (x ∷ left_parts r) (form_of (get_or ks j Name) ∷ forms_of (drop (j + 1) ks)) ≡ formed (left_parts r) (forms_of (drop (j + 1) ks)) = rw (← k, y) in
        sym q ∙ sym here ∙ u

-- Lines ------------------------------------------------------------------------------------------------------------------
any_none : (c : Letter) → any (formed []) (forms c) ≡ false
unfolding formed
any_none F = refl
any_none S = refl
any_none T = refl
any_none M = refl
any_none I = refl
any_none R = refl
any_none other = refl

-- the line's first byte is that of its first field, where that has one
first_byte : (l x : List ℕ) (r : Option (Bor (List ℕ))) → MatchOption r (x ≡ l) (λ (rest : Bor (List ℕ)). l ≡ x ++ 9 ∷ rest.now) → length x ≡ 1 → get_or l 0 0 ≡ get_or x 0 0
first_byte l x None m e = rw m
first_byte l [] (Some rest) m e = absurd (omega arith)
first_byte l (b ∷ x) (Some rest) m e = rw m

module _ (l x : List ℕ) (r : Option (Bor (List ℕ))) (m : MatchOption r (split tab l ≡ x ∷ []) (λ (rest : Bor (List ℕ)). split tab l ≡ x ∷ split tab rest.now)) where
  pub line_wide : (length x ≡ 1 → ⊥) → false ≡ is_line l
  unfolding is_line formed_as
  line_wide n = rw (parted_is l x r m, ne_eqb (length x) 1 n)

  pub line_bare : r ≡ None → false ≡ is_line l
  unfolding is_line formed_as
  line_bare e = rw (parted_is l x r m, e, any_none, and_off)

  module _ (f : Bor (List ℕ)) (s : r ≡ Some f) (q : length x ≡ 1) (b : MatchOption r (x ≡ l) (λ (rest : Bor (List ℕ)). l ≡ x ++ 9 ∷ rest.now)) where
    any_form : is_line l ≡ any (formed (split tab f.now)) (forms (letter_of (get_or x 0 0)))
    unfolding is_line formed_as letter
    any_form = rw (parted_is l x r m, s, eq-eqb (length x) 1 q, first_byte l x r b q)

    -- a line of letter c, which has one form
    pub line_of : (c : Letter) (ks : List Form) → letter_of (get_or x 0 0) ≡ c → forms c ≡ ks ∷ [] → formed (split tab f.now) ks ≡ is_line l
    line_of c ks p o = rw (any_form, p, o, or_off)

    -- a line of no known letter
    pub line_other : letter_of (get_or x 0 0) ≡ other → false ≡ is_line l
    line_other p = rw (any_form, p)

pub letter_other : (b : ℕ) → (b ≡ 70 → ⊥) → (b ≡ 83 → ⊥) → (b ≡ 84 → ⊥) → (b ≡ 77 → ⊥) → (b ≡ 73 → ⊥) → (b ≡ 82 → ⊥) → letter_of b ≡ other
unfolding letter_of
letter_other b f s t m i r = rw (ne_eqb b 70 f, ne_eqb b 83 s, ne_eqb b 84 t, ne_eqb b 77 m, ne_eqb b 73 i, ne_eqb b 82 r)
