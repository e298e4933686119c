-- Where the names of a file stand, line by line.
-- By recursion on a line, and on how many lines are done.
use mathlib.Core.Path.{◌≡◌, refl, sym, ap, subst, ◌∙◌}
use mathlib.Core.Bool.{Bool, true, false}
use mathlib.Core.List.{List, [], ◌∷◌, ◌++◌}
use mathlib.Core.Logic.{◌⊎◌, inl, inr}
use Prim.Native.Nat.{ℕ, suc, ◌+◌, ◌-◌, ◌≤◌, ◌<◌}
use native.Mathlib.Numerals.{add-one}
use native.Mathlib.Omega.{arith}
use lib.Dec.{eqb}
use lib.ListN.{length, get_or, take, drop, set, length-append, length-drop}
use lib.Seq.{drop-cons, get_or-set_same, get_or-set_other, drop-append-add}
use Rattle.std.proofs.lemmas.List.{drop-drop}
use Rattle.grammar.specs.Byte.{tab}
use Rattle.grammar.specs.Line.{field, name_in}
use Rattle.lines.specs.Bytes.{LF}
use Rattle.lines.specs.Part.{Part}
use Rattle.lines.specs.Parts.{Piece, no_line, ended, placed, lines_of, split, put_byte}
use Rattle.lists.proofs.Order.{le_or_lt}
use Rattle.outline.specs.Index.{Entry, Held, no_span, part_in}
use Rattle.outline.specs.Part.{part_of}
use Rattle.outline.specs.declared.Span.{Span}

-- The name in a line ----------------------------------------------------------------------------------------------------------
-- the first field stands in front
first_stands : (l t : List ℕ) → (length (field l 0) ≤ length l) × (take (length (field l 0)) (l ++ t) ≡ field l 0)
unfolding field split
first_stands [] t = (omega arith, refl)
first_stands (b ∷ s) t = go (eqb b tab) (split tab s) (first_stands s t)
  where
    go : (u : Bool) (ps : List (List ℕ)) → (length (get_or ps 0 []) ≤ length s) × (take (length (get_or ps 0 [])) (s ++ t) ≡ get_or ps 0 [])
        → (length (get_or (put_byte u b ps) 0 []) ≤ suc (length s))
        × (take (length (get_or (put_byte u b ps) 0 [])) (b ∷ (s ++ t)) ≡ get_or (put_byte u b ps) 0 [])
    go true ps h = (omega arith, refl)
    go false [] h = (omega arith, refl)
    go false (p ∷ ps) h = (omega (arith, h.0), ap (λ (l : List ℕ). b ∷ l) h.1)

-- the second one byte behind it
name_stands : (l t : List ℕ) → (length (field l 0) + length (name_in l) ≤ length l)
    × (take (length (name_in l)) (drop (length (field l 0) + 1) (l ++ t)) ≡ name_in l)
unfolding name_in field split
name_stands [] t = (omega arith, refl)
name_stands (b ∷ s) t = go (eqb b tab) (split tab s) (first_stands s t) (name_stands s t)
  where
    go : (u : Bool) (ps : List (List ℕ)) → (length (get_or ps 0 []) ≤ length s) × (take (length (get_or ps 0 [])) (s ++ t) ≡ get_or ps 0 [])
        → (length (get_or ps 0 []) + length (get_or ps 1 []) ≤ length s)
        × (take (length (get_or ps 1 [])) (drop (length (get_or ps 0 []) + 1) (s ++ t)) ≡ get_or ps 1 [])
        → (length (get_or (put_byte u b ps) 0 []) + length (get_or (put_byte u b ps) 1 []) ≤ suc (length s))
        × (take (length (get_or (put_byte u b ps) 1 [])) (drop (length (get_or (put_byte u b ps) 0 []) + 1) (b ∷ (s ++ t))) ≡ get_or (put_byte u b ps) 1 [])
    go true ps f h = (omega (arith, f.0), f.1)
    go false [] f h = (omega arith, refl)
    go false (p ∷ ps) f h = (omega (arith, h.0), let e : suc (length p) + 1 ≡ suc (length p + 1) = omega arith in rw e h.1)

-- so the span is that of the line's name
pub entry : (s line behind : List ℕ) {at : ℕ} {p : Span} → drop at s ≡ line ++ LF ∷ behind → part_in p ≡ part_of (record { start = at; bytes = line })
    → Entry s (record { start = at; bytes = line }) p
unfolding part_of
entry s line behind {at} {p} d e =
    let k : p.start ≡ at + (length (field line 0) + 1) = omega (arith, ap (λ (q : Part). q.start) e) in
    let z : p.size ≡ length (name_in line) = ap (λ (q : Part). q.size) e in
    let n = name_stands line (LF ∷ behind) in
    record {
      start = ap (λ (q : Part). q.start) e;
      size = z;
      high = omega (arith, k, z, n.0, ap length d, length-drop at s, length-append line (LF ∷ behind));
      shown = rw (z, k, ← drop-drop (length (field line 0) + 1) at s, d) n.1;
    }

-- The walk over the lines ---------------------------------------------------------------------------------------------------------
-- i lines are done, and the next begins at `at`
pub record Filled (s : List ℕ) (ps : List Span) (i at : ℕ) (rest : List ℕ) : Type 0 where
  pub high : at ≤ length s
  pub here : rest ≡ drop at s
  pub lines : placed at (ended LF rest) ≡ drop i (lines_of s)
  pub held : Held s ps i

pub filled_first : (s : List ℕ) (ps : List Span) → Filled s ps 0 0 s
unfolding lines_of
filled_first s ps = record { high = omega arith; here = refl; lines = refl; held = record { at = λ i l. absurd (omega arith) } }

module _ {s : List ℕ} {ps : List Span} {i at : ℕ} {rest : List ℕ} (u : Filled s ps i at rest) (l : i < length (lines_of s)) where
  -- there is a line left
  pub filled_line : ended LF rest ≡ [] → ⊥
  unfolding placed
  filled_line e =
      let z : ◌≡◌ {A = ℕ} 0 (length (lines_of s) - i) = ap (λ (x : List (List ℕ)). length (placed at x)) (sym e) ∙ ap length u.lines
      ∙ length-drop i (lines_of s) in
      omega arith

  module _ (line behind : List ℕ) (d : rest ≡ line ++ LF ∷ behind) (e : ended LF rest ≡ line ∷ ended LF behind) where
    pub filled_room : at + length line + 1 ≤ length s
    filled_room = omega (arith, ap length d, ap length u.here, length-drop at s, u.high, length-append line (LF ∷ behind))

    pub filled_more : {p : Span} → i < length ps → part_in p ≡ part_of (record { start = at; bytes = line })
        → Filled s (set ps i p) (i + 1) (at + (length line + 1)) behind
    unfolding placed
    filled_more {p} w q =
        let ls = lines_of s in
        let f : drop at s ≡ line ++ LF ∷ behind = sym u.here ∙ d in
        let h : at + (length line + 1) ≡ at + length line + 1 = omega arith in
        let c : record { start = at; bytes = line } ∷ placed (at + length line + 1) (ended LF behind) ≡ get_or ls i no_line ∷ drop (suc i) ls
        = ap (placed at) (sym e) ∙ u.lines ∙ drop-cons ls i no_line l in
        let x : ◌≡◌ {A = Piece} (record { start = at; bytes = line }) (get_or ls i no_line) = cc in
        record {
          high = omega (arith, filled_room);
          here = sym (sym (drop-drop (length line + 1) at s) ∙ ap (drop (length line + 1)) f ∙ drop-append-add line (LF ∷ behind) 1);
          lines = rw h (let r : placed (at + length line + 1) (ended LF behind) ≡ drop (suc i) ls = cc in r ∙ ap (λ (n : ℕ). drop n ls) (sym (add-one i)));
          held = record { at = λ k m. filled (u.held) w (subst (λ (y : Piece). Entry s y p) x (entry s line behind f q)) k m (le_or_lt i k) };
        }
      where
        filled : Held s ps i → i < length ps → Entry s (get_or (lines_of s) i no_line) p → (k : ℕ) → k < i + 1 → (i ≤ k) ⊎ (k < i)
            → Entry s (get_or (lines_of s) k no_line) (get_or (set ps i p) k no_span)
        filled v w e k m (inl g) = let z : k ≡ i = omega arith in rw (z, get_or-set_same ps i p no_span w) e
        filled v w e k m (inr g) = rw (get_or-set_other ps i k p no_span (λ z. omega arith)) (v.at k g)
