-- The number of a name among those that spans show, and whether all of them are new.
use mathlib.Core.Path.{◌≡◌, refl, sym, subst, ap, ap₂, ◌∙◌}
use mathlib.Core.Bool.{Bool, true, false, cond, not, ◌||◌, ◌&&◌}
use mathlib.Core.Logic.{⊎_elim}
use mathlib.Core.List.{List, [], ◌∷◌, map}
use Prim.Native.Nat.{ℕ, suc, ◌-◌, ◌+◌, ◌≤◌, ◌<◌}
use native.Mathlib.Omega.{arith}
use lib.Dec.{eqb, ltb}
use lib.ListN.{length, length-map, length-drop, drop}
use lib.Seq.{length-take-le}
use borrow.Author.Tests.{lt-ltb, le-ltb, ltb-true, eqb-true, eq-eqb}
use denote.Ref.{Bor}
use Rattle.std.specs.Prelude.{Option, Some, None, is_some}
use Rattle.std.specs.Option.{option_copied, option_eq}
use Rattle.std.specs.List.{position_or_len, slice_get}
use Rattle.std.proofs.lemmas.List.Recursion.{is_position_or_len}
use Rattle.lists.proofs.Bool.{and_l, and_r, clash, eqb_other, false_of}
use Rattle.lists.proofs.Order.{le_or_lt}
use Rattle.lists.specs.List.{any, find_index}
use Rattle.lines.specs.Bytes.{same_bytes}
use Rattle.grammar.specs.Name.{Name}
use Rattle.outline.specs.Index.{number_in, Within, shown, all_shown}
use Rattle.outline.specs.Names.{all_new, among, number_of}
use Rattle.outline.specs.declared.Span.{Span}

-- parts whose last bytes differ are not the same
same_lists : (a b : List ℕ) → same_bytes a b ≡ true → a ≡ b
unfolding same_bytes
same_lists [] [] e = refl
same_lists [] (y ∷ b) e = absurd (cc)
same_lists (x ∷ a) [] e = absurd (cc)
same_lists (x ∷ a) (y ∷ b) e =
    ap₂ (λ (z : ℕ) (l : List ℕ). z ∷ l) (eqb-true x y (and_l (eqb x y) (same_bytes a b) e)) (same_lists a b (and_r (eqb x y) (same_bytes a b) e))

-- a span of another size shows another name
pub size_differs : (s n : List ℕ) (p : Span) → p.start + p.size ≤ length s → (p.size ≡ length n → ⊥) → eqb p.size (length n) ≡ same_bytes n (shown s p)
size_differs s n p h d =
    let z : length (shown s p) ≡ p.size = length-take-le p.size (drop p.start s) (omega (arith, length-drop p.start s)) in
    eqb_other p.size (length n) d ∙ sym (false_of (same_bytes n (shown s p)) (λ e. d (sym (ap length (same_lists n (shown s p) e) ∙ z))))

last_same : (r q : Option (Bor ℕ)) → option_copied r ≡ option_copied q → option_eq (λ x y. eqb x.now y.now) r q ≡ true
last_same None None e = refl
last_same None (Some y) e = absurd (cc)
last_same (Some x) None e = absurd (cc)
last_same (Some x) (Some y) e = eq-eqb x.now y.now (cc)

pub last_differs : (a b : List ℕ) (r q : Option (Bor ℕ)) → option_copied r ≡ slice_get a (length a - 1) → option_copied q ≡ slice_get b (length b - 1)
    → option_eq (λ x y. eqb x.now y.now) r q ≡ false → false ≡ same_bytes a b
last_differs a b r q e f n = go (same_bytes a b) refl
  where
    go : (t : Bool) → t ≡ same_bytes a b → false ≡ t
    go false h = refl
    go true h =
        let s : a ≡ b = same_lists a b (sym h) in
        absurd (clash (last_same r q (e ∙ ap (λ (l : List ℕ). slice_get l (length l - 1)) s ∙ sym f)) n)

-- a name is one of some if its number is below their count
pub among_in : (ms : List Name) (m : Name) → number_of ms m < length ms → among ms m ≡ true
unfolding among number_of
among_in [] m h = absurd (omega arith)
among_in (x ∷ ms) m h = go (same_bytes m x) h (among_in ms m)
  where
    go : (t : Bool) → cond t 0 (suc (number_of ms m)) < suc (length ms) → (number_of ms m < length ms → among ms m ≡ true) → (t || among ms m) ≡ true
    go true h ih = refl
    go false h ih = ih (omega arith)

pub among_out : (ms : List Name) (m : Name) → length ms ≤ number_of ms m → among ms m ≡ false
unfolding among number_of
among_out [] m h = refl
among_out (x ∷ ms) m h = go (same_bytes m x) h (among_out ms m)
  where
    go : (t : Bool) → suc (length ms) ≤ cond t 0 (suc (number_of ms m)) → (length ms ≤ number_of ms m → among ms m ≡ false) → (t || among ms m) ≡ false
    go true h ih = absurd (omega arith)
    go false h ih = ih (omega arith)

among_is : (ms : List Name) (m : Name) → among ms m ≡ ltb (number_of ms m) (length ms)
among_is ms m = ⊎_elim
    (λ h. among_out ms m h ∙ sym (le-ltb (number_of ms m) (length ms) h))
    (λ h. among_in ms m h ∙ sym (lt-ltb (number_of ms m) (length ms) h))
    (le_or_lt (length ms) (number_of ms m))

pub number_small : (ms : List Name) (m : Name) → among ms m ≡ true → number_of ms m < length ms
number_small ms m e = ltb-true (number_of ms m) (length ms) (sym (among_is ms m) ∙ e)

-- what the library's search for a span gives
module _ (s : List ℕ) (n : Name) where
  abbrev shows : Span → Bool
  shows p = same_bytes n (shown s p)

  number_is : (ps : List Span) → number_of (all_shown s ps) n ≡ position_or_len shows ps
  unfolding number_of
  number_is ps = is_position_or_len (λ (l : List Span). find_index (same_bytes n) (map (shown s) l)) shows refl
      (λ x xs. let o : suc (find_index (same_bytes n) (map (shown s) xs)) ≡ 1 + find_index (same_bytes n) (map (shown s) xs) = omega arith in rw o) ps

  pub number_found : (ps : List Span) (r : Option ℕ) → r ≡ cond (ltb (position_or_len shows ps) (length ps)) (Some (position_or_len shows ps)) None
      → r ≡ number_in (all_shown s ps) n
  unfolding number_in
  number_found ps r e = e ∙ sym (rw (among_is (all_shown s ps) n, number_is ps, length-map ps (shown s)))

-- the first of some spans, and the others
new_first : (s : List ℕ) (p : Span) (ps : List Span)
    → all_new (all_shown s (p ∷ ps)) ≡ (not (is_some (number_in (all_shown s ps) (shown s p))) && all_new (all_shown s ps))
unfolding all_new number_in among
new_first s p ps = go (any (same_bytes (shown s p)) (all_shown s ps))
  where
    go : (t : Bool) → (not t && all_new (all_shown s ps)) ≡
        (not (is_some (cond t (Some (number_of (all_shown s ps) (shown s p))) None)) && all_new (all_shown s ps))
    go true = refl
    go false = refl

module _ (s : List ℕ) (qs ps : List Span) (p : Span) {m : Name} {r : Option ℕ} {t : Bool} (e : qs ≡ p ∷ ps) (a : m ≡ shown s p)
    (b : r ≡ number_in (all_shown s ps) m) (d : t ≡ is_some r) where
  told : all_new (all_shown s qs) ≡ (not t && all_new (all_shown s ps))
  told = rw (e, new_first s p ps, ← a, ← b, ← d)

  pub new_out : t ≡ true → all_new (all_shown s qs) ≡ false
  new_out f = told ∙ rw f

  pub new_more : t ≡ false → all_new (all_shown s qs) ≡ all_new (all_shown s ps)
  new_more f = told ∙ rw f

pub new_none : (s : List ℕ) (ps : List Span) → length ps ≡ 0 → all_new (all_shown s ps) ≡ true
unfolding all_new
new_none s [] e = refl
new_none s (p ∷ ps) e = absurd (omega arith)

pub within_rest : (s : List ℕ) (p : Span) (qs ps : List Span) → qs ≡ p ∷ ps → Within s qs → Within s ps
within_rest s p qs ps e u = λ k d l. (subst (λ (x : List Span). Within s x) e u) (suc k) d (omega arith)
