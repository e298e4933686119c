-- The depth of a table whose lines are formed and in order lies from 1 to 8.
-- The last line is the R line, whose third field is a digit 1 to 8.
use mathlib.Core.Path.{◌≡◌, refl, ap}
use mathlib.Core.Bool.{Bool, true, false, cond, ◌&&◌, ◌||◌}
use mathlib.Core.List.{List, [], ◌∷◌}
use Prim.Native.Nat.{ℕ, ◌-◌, ◌≤◌}
use native.Mathlib.Omega.{arith}
use lib.Dec.{leb, eqb}
use lib.ListN.{length, get_or}
use borrow.Author.Tests.{leb-true, eqb-true}
use Rattle.grammar.specs.Byte.{of_depth, tab}
use Rattle.grammar.specs.File.{met3}
use Rattle.grammar.specs.Line.{F, I, M, R, S, T, begins, byte_of, depth_in, field, formed, formed_as, has_form, is_depth, is_line, letter, letter_of, name}
use Rattle.lines.specs.Bytes.{within}
use Rattle.lines.specs.Parts.{Piece, no_line, split}
use Rattle.lists.proofs.Bool.{and_l, and_r}
use Rattle.lists.specs.List.{all}
use Rattle.outline.specs.Questions.{met4}
use Rattle.outline.specs.Sections.{is_end, past, root_line, sections}

pub all_past : (p : Piece → Bool) (c : ℕ) (ls : List Piece) → all p ls ≡ true → all p (past c ls) ≡ true
unfolding past
all_past p c [] e = e
all_past p c (l ∷ ls) e = go (begins c l.bytes) (all_past p c ls (and_r (p l) (all p ls) e))
  where
    go : (b : Bool) → all p (past c ls) ≡ true → all p (cond b (past c ls) (l ∷ ls)) ≡ true
    go true r = r
    go false r = e

end_root : (p : Piece → Bool) (ls : List Piece) → is_end ls ≡ true → all p ls ≡ true → (begins (byte_of R) (get_or ls 1 no_line).bytes ≡ true) × (p (get_or ls 1 no_line) ≡ true)
unfolding is_end
end_root p [] e h = (cc, cc)
end_root p (l ∷ []) e h = (cc, cc)
end_root p (l ∷ m ∷ []) e h = (and_r (begins (byte_of I) l.bytes) (begins (byte_of R) m.bytes) e, and_l (p m) true (and_r (p l) (p m && true) h))
end_root p (l ∷ m ∷ n ∷ ls) e h = (cc, cc)

Deep : ℕ → Type 0
Deep b = (1 ≤ b - 48) × (b - 48 ≤ 8)

deep : (f : List ℕ) → is_depth f ≡ true → Deep (get_or f 0 0)
unfolding is_depth of_depth within Deep
deep f e =
    let b = get_or f 0 0 in
    let w = and_r (eqb (length f) 1) (of_depth b) e in
    let lo : 49 ≤ b = leb-true 49 b (and_l (leb 49 b) (leb b 56) w) in
    let hi : b ≤ 56 = leb-true b 56 (and_r (leb 49 b) (leb b 56) w) in
    (omega arith, omega arith)

or_off_true : (b : Bool) → (b || false) ≡ true → b ≡ true
or_off_true true e = refl
or_off_true false e = e

deep_fields : (fs : List (List ℕ)) → formed_as R fs ≡ true → Deep (get_or (get_or fs 2 []) 0 0)
unfolding formed_as formed has_form
deep_fields [] e = let z : ◌≡◌ {A = ℕ} 0 1 = cc in absurd (omega arith)
deep_fields (f ∷ []) e = let z : ◌≡◌ {A = ℕ} 0 1 = cc (and_r (eqb (length f) 1) false e) in absurd (omega arith)
deep_fields (f ∷ g ∷ []) e = let z : ◌≡◌ {A = ℕ} 0 1 = cc (and_r (has_form name g) false (or_off_true (has_form name g && false) (and_r (eqb (length f) 1) ((has_form name g && false) || false) e))) in absurd (omega arith)
deep_fields (f ∷ g ∷ h ∷ []) e = deep h (and_l (is_depth h) true (and_r (has_form name g) (is_depth h && true) (or_off_true (has_form name g && (is_depth h && true)) (and_r (eqb (length f) 1) ((has_form name g && (is_depth h && true)) || false) e))))
deep_fields (f ∷ g ∷ h ∷ k ∷ fs) e = let z : ◌≡◌ {A = ℕ} 0 1 = cc (and_r (is_depth h) false (and_r (has_form name g) (is_depth h && false) (or_off_true (has_form name g && (is_depth h && false)) (and_r (eqb (length f) 1) ((has_form name g && (is_depth h && false)) || false) e)))) in absurd (omega arith)

letter_R : (l : List ℕ) → begins (byte_of R) l ≡ true → letter l ≡ R
unfolding begins letter letter_of
letter_R [] e = let z : ◌≡◌ {A = ℕ} 0 1 = cc in absurd (omega arith)
letter_R (b ∷ l) e = ap letter_of (eqb-true b 82 e)

deep_line : (l : List ℕ) → begins (byte_of R) l ≡ true → is_line l ≡ true → Deep (get_or (field l 2) 0 0)
unfolding is_line field
deep_line l b e = deep_fields (split tab l) (rw (letter_R l b) at e)

pub deep_root : (ls : List Piece) → met3 ls ≡ true → met4 (sections ls) ≡ true → (1 ≤ depth_in (root_line (sections ls))) × (depth_in (root_line (sections ls)) ≤ 8)
unfolding met3 met4 sections depth_in Deep
deep_root ls e3 e4 =
    let p : Piece → Bool = λ l. is_line l.bytes in
    let ends = past (byte_of M) (past (byte_of T) (past (byte_of S) (past (byte_of F) ls))) in
    let r = end_root p ends e4 (all_past p (byte_of M) (past (byte_of T) (past (byte_of S) (past (byte_of F) ls))) (all_past p (byte_of T) (past (byte_of S) (past (byte_of F) ls)) (all_past p (byte_of S) (past (byte_of F) ls) (all_past p (byte_of F) ls e3)))) in
    deep_line (get_or ends 1 no_line).bytes r.0 r.1
