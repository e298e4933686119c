-- Where the sections of a file stand: each text behind those before it, and the lines from there on.
-- By what stands in front.
use mathlib.Core.Path.{◌≡◌, refl, sym, ap, ◌∙◌}
use mathlib.Core.Bool.{Bool, true, false, cond}
use mathlib.Core.List.{List, [], ◌∷◌, ◌++◌, append_assoc}
use Prim.Native.Nat.{ℕ, ◌+◌}
use native.Mathlib.Omega.{arith}
use lib.ListN.{length, take, drop, length-append}
use lib.Seq.{take-append_seam, drop-append_seam}
use Rattle.std.proofs.lemmas.List.{append_cancel_left}
use Rattle.grammar.specs.Line.{F, M, S, T, begins, byte_of}
use Rattle.lines.specs.Bytes.{LF}
use Rattle.lines.specs.Parts.{Piece, ended, placed, lines_of}
use Rattle.lists.specs.List.{take_while}
use Rattle.outline.proofs.Sections.{lead_past}
use Rattle.outline.proofs.Questions.{Parted}
use Rattle.outline.specs.Index.{Runs, SectionsStand, lines_from}
use Rattle.outline.specs.Sections.{leading, past, sections}

leading_placed : (c k : ℕ) (xs : List (List ℕ)) → leading c (placed k xs) ≡ placed k (take_while (begins c) xs)
unfolding leading placed
leading_placed c k [] = refl
leading_placed c k (x ∷ xs) = go (begins c x) (leading_placed c (k + length x + 1) xs)
  where
    one : Piece
    one = record { start = k; bytes = x }

    go : (t : Bool) → leading c (placed (k + length x + 1) xs) ≡ placed (k + length x + 1) (take_while (begins c) xs)
        → cond t (one ∷ leading c (placed (k + length x + 1) xs)) [] ≡ placed k (cond t (x ∷ take_while (begins c) xs) [])
    go true e = ap (λ (l : List Piece). one ∷ l) e
    go false e = refl

module _ {c : ℕ} {t f b : List ℕ} (u : Runs c t f b) (k : ℕ) (ls : List Piece) (e : ls ≡ placed k (ended LF t)) where
  led_at : leading c ls ≡ placed k (ended LF f)
  led_at = ap (leading c) e ∙ leading_placed c k (ended LF t) ∙ ap (placed k) (sym u.front)

  left_at : past c ls ≡ placed (k + length f) (ended LF b)
  left_at =
      append_cancel_left (placed k (ended LF f)) (past c ls) (placed (k + length f) (ended LF b))
      (ap (λ (l : List Piece). l ++ past c ls) (sym led_at) ∙ lead_past c ls ∙ e ∙ u.lines k)

-- what stands behind f, which ends at the place n
behind : (s f b : List ℕ) (n : ℕ) → s ≡ f ++ b → n ≡ length f → lines_from s n ≡ placed n (ended LF b)
unfolding lines_from
behind s f b n a z =
    let d : drop n s ≡ b = rw (z, a) (drop-append_seam f b) in
    ap (λ (t : List ℕ). placed n (ended LF t)) d

pub sections_stand : {s f b st d j g m e : List ℕ} → Runs (byte_of F) s f b → Runs (byte_of S) b st d → Runs (byte_of T) d j g → Runs (byte_of M) g m e
    → Parted s f st j m e → SectionsStand s f st j m
unfolding sections lines_of
sections_stand {s} {f} {b} {st} {d} {j} {g} {m} {e} x y z w u =
    let z0 : 0 + length f ≡ length f = omega arith in
    let l1 : past (byte_of F) (lines_of s) ≡ placed (length f) (ended LF b) = rw z0 at (left_at x 0 (lines_of s) refl) in
    let l2 = left_at y (length f) _ l1 in
    let l3 = left_at z (length f + length st) _ l2 in
    let l4 = left_at w (length f + length st + length j) _ l3 in
    let a2 : s ≡ (f ++ st) ++ d = x.whole ∙ ap (λ (l : List ℕ). f ++ l) y.whole ∙ sym (append_assoc f st d) in
    let a3 : s ≡ ((f ++ st) ++ j) ++ g = a2 ∙ ap (λ (l : List ℕ). (f ++ st) ++ l) z.whole ∙ sym (append_assoc (f ++ st) j g) in
    let a4 : s ≡ (((f ++ st) ++ j) ++ m) ++ e = a3 ∙ ap (λ (l : List ℕ). ((f ++ st) ++ j) ++ l) w.whole ∙ sym (append_assoc ((f ++ st) ++ j) m e) in
    let n2 : length f + length st ≡ length (f ++ st) = sym (length-append f st) in
    let n3 : length f + length st + length j ≡ length ((f ++ st) ++ j) = omega (arith, n2, length-append (f ++ st) j) in
    let n4 : length f + length st + length j + length m ≡ length (((f ++ st) ++ j) ++ m) = omega (arith, n3, length-append ((f ++ st) ++ j) m) in
    record {
      texts = rw n4 (ap (take (length (((f ++ st) ++ j) ++ m))) a4 ∙ take-append_seam (((f ++ st) ++ j) ++ m) e ∙ simp append_assoc);
      fact_lines = u.facts;
      job_lines = u.jobs;
      steps = behind s f b (length f) x.whole refl ∙ sym l1;
      jobs = behind s (f ++ st) d (length f + length st) a2 n2 ∙ sym l2;
      methods = behind s ((f ++ st) ++ j) g (length f + length st + length j) a3 n3 ∙ sym l3;
      ends = behind s (((f ++ st) ++ j) ++ m) e (length f + length st + length j + length m) a4 n4 ∙ sym l4;
    }
