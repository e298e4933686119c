-- "Each name shown is the part of the table file where it was declared": each line's name stands where its part says.
-- Line by line, from one LF to the next.
use mathlib.Core.Path.{◌≡◌, refl, sym, ap, ap₂, ◌∙◌}
use mathlib.Core.Bool.{Bool, true, false, cond}
use mathlib.Core.List.{List, [], ◌∷◌, ◌++◌, map}
use mathlib.Core.Logic.{⊎_elim}
use Prim.Native.Nat.{ℕ, zero, suc, ◌+◌, ◌≤◌, ◌<◌}
use native.Mathlib.Omega.{arith}
use lib.Dec.{eqb}
use lib.ListN.{length, get_or, take, drop, length-take, length-drop}
use lib.Seq.{drop-cons}
use Rattle.std.specs.List.{position_or_len}
use Rattle.std.proofs.lemmas.List.{drop-drop, take-append-drop}
use Rattle.std.proofs.lemmas.List.Sums.{passes_at_first}
use Rattle.lists.proofs.Bool.{eqb_sound}
use Rattle.lists.specs.List.{Every}
use Rattle.lists.proofs.Order.{le_or_lt}
use Rattle.lines.specs.Bytes.{LF}
use Rattle.lines.specs.Cut.{before}
use Rattle.lines.specs.Part.{bytes_at}
use Rattle.lines.specs.Parts.{Piece, ended, placed, lines_of}
use Rattle.lines.proofs.Cutting.{before_le, ended_last, ended_more}
use Rattle.lines.proofs.Parted.{before_is}
use Rattle.grammar.specs.Line.{begins, name_in}
use Rattle.outline.specs.Names.{names_of}
use Rattle.outline.specs.Part.{part_of}
use Rattle.outline.specs.Sections.{leading, past}
use Rattle.outline.proofs.Spans.{entry}

-- the line's name stands where its part says
abbrev pub Stands : List ℕ → Piece → Type 0
Stands s l = bytes_at s (part_of l) ≡ name_in l.bytes

stands_line : (s line behind : List ℕ) (at : ℕ) → drop at s ≡ line ++ LF ∷ behind → Stands s (record { start = at; bytes = line })
stands_line s line behind at d =
    let q = part_of (record { start = at; bytes = line }) in
    (entry s line behind {p = record { start = q.start; size = q.size }} d refl).shown

-- the first line, its LF and what stands behind
around : (s : List ℕ) → before LF s < length s → s ≡ take (before LF s) s ++ LF ∷ drop (suc (before LF s)) s
around s g =
    let h : position_or_len (λ b. eqb b LF) s < length s = omega (arith, g, before_is LF s) in
    let f : get_or s (before LF s) 0 ≡ LF = rw (before_is LF s) (eqb_sound _ LF (passes_at_first (λ b. eqb b LF) s 0 h)) in
    let d : drop (before LF s) s ≡ LF ∷ drop (suc (before LF s)) s = drop-cons s (before LF s) 0 g ∙ ap (λ (b : ℕ). b ∷ drop (suc (before LF s)) s) f in
    sym (take-append-drop (before LF s) s) ∙ ap (λ (l : List ℕ). take (before LF s) s ++ l) d

-- the lines of what is left of s from the place at on
stands_from : (s : List ℕ) (fuel at : ℕ) (rest : List ℕ) → rest ≡ drop at s → length rest ≤ fuel → Every (Stands s) (placed at (ended LF rest))
unfolding placed
stands_from s zero at rest d h = rw (ended_last LF rest (omega (arith, before_le LF rest))) tt
stands_from s (suc n) at rest d h = ⊎_elim
    (λ g. rw (ended_last LF rest (omega (arith, before_le LF rest))) tt)
    (λ g.
    let e = before LF rest in
    let line = take e rest in
    let behind = drop (suc e) rest in
    let a : rest ≡ line ++ LF ∷ behind = around rest g in
    let z : at + length line + 1 ≡ at + suc e = omega (arith, length-take e rest) in
    let w : length behind ≤ n = omega (arith, length-drop (suc e) rest) in
    let q : behind ≡ drop (at + suc e) s = ap (drop (suc e)) d ∙ drop-drop (suc e) at s in
    let r : Every (Stands s) (placed (at + suc e) (ended LF behind)) = stands_from s n (at + suc e) behind q w in
    rw (ended_more LF rest g) (
      stands_line s line behind at (sym d ∙ a),
      rw z r,
    ))
    (le_or_lt (length rest) (before LF rest))

pub stands_leading : (s : List ℕ) (c : ℕ) (ls : List Piece) → Every (Stands s) ls → Every (Stands s) (leading c ls)
unfolding leading
stands_leading s c [] h = tt
stands_leading s c (l ∷ ls) h = go (begins c l.bytes) (stands_leading s c ls h.1)
  where
    go : (t : Bool) → Every (Stands s) (leading c ls) → Every (Stands s) (cond t (l ∷ leading c ls) [])
    go true r = (h.0, r)
    go false r = tt

pub stands_past : (s : List ℕ) (c : ℕ) (ls : List Piece) → Every (Stands s) ls → Every (Stands s) (past c ls)
unfolding past
stands_past s c [] h = tt
stands_past s c (l ∷ ls) h = go (begins c l.bytes) (stands_past s c ls h.1)
  where
    go : (t : Bool) → Every (Stands s) (past c ls) → Every (Stands s) (cond t (past c ls) (l ∷ ls))
    go true r = r
    go false r = h

pub stands_all : (s : List ℕ) (ls : List Piece) → Every (Stands s) ls → map (bytes_at s) (map part_of ls) ≡ names_of ls
unfolding names_of
stands_all s [] h = refl
stands_all s (l ∷ ls) h = ap₂ (λ (x : List ℕ) (xs : List (List ℕ)). x ∷ xs) h.0 (stands_all s ls h.1)

pub stands_lines : (s : List ℕ) → Every (Stands s) (lines_of s)
unfolding lines_of
stands_lines s = stands_from s (length s) 0 s refl (omega arith)
