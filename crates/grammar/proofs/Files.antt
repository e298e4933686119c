-- Questions 2 and 3, and the first byte of a line.
-- By what the text begins or ends with.
use mathlib.Core.Path.{◌≡◌, refl, sym, ap, ◌∙◌}
use mathlib.Core.Bool.{Bool, ◌&&◌}
use mathlib.Core.List.{List, [], ◌∷◌}
use Prim.Native.Nat.{ℕ, ◌+◌, ◌-◌, ◌<◌}
use native.Mathlib.Omega.{arith}
use lib.Dec.{eqb, leb}
use lib.ListN.{length, get_or}
use lib.Seq.{drop-cons, drop-length}
use Rattle.std.proofs.lemmas.Bool.Decides.{nat_tests}
use Rattle.std.specs.List.{starts_with, ends_with}
use Rattle.lists.specs.List.{all}
use Rattle.lists.proofs.Bool.{and_on}
use Rattle.lines.specs.Bytes.{LF}
use Rattle.lines.specs.Parts.{ended, placed, Piece, lines_of}
use Rattle.grammar.specs.Line.{is_line, begins}
use Rattle.grammar.specs.File.{met2, met3}

placed_all : (k : ℕ) (ps : List (List ℕ)) → all (λ (l : Piece). is_line l.bytes) (placed k ps) ≡ all is_line ps
unfolding placed
placed_all k [] = refl
placed_all k (p ∷ ps) = ap (λ (t : Bool). is_line p && t) (placed_all (k + length p + 1) ps)

-- question 3 of the lines that end
pub met3_is : (s : List ℕ) → all is_line (ended LF s) ≡ met3 (lines_of s)
unfolding met3 lines_of
met3_is s = sym (placed_all 0 (ended LF s))

-- question 2
same_tests : (a b : ℕ) → eqb a b ≡ eqb b a
same_tests a b = grind (arith, nat_tests)

ends_is : (s : List ℕ) → ends_with eqb s (10 ∷ []) ≡ eqb (get_or s (length s - 1) 0) 10
ends_is [] = refl
ends_is (b ∷ s) =
    let h : length s < length (b ∷ s) = omega arith in
    let q : length (b ∷ s) - 1 ≡ length s = omega arith in
    rw (q, drop-cons (b ∷ s) (length s) 0 h, drop-length (b ∷ s), and_on) (same_tests 10 (get_or (b ∷ s) (length s) 0))

pub met2_is : (s : List ℕ) → met2 s ≡ (leb (length s) 65536 && ends_with eqb s (10 ∷ []))
unfolding met2
met2_is s = rw (ends_is s)

pub begins_is : (c : ℕ) (l : List ℕ) → starts_with eqb l (c ∷ []) ≡ begins c l
unfolding begins
begins_is c [] = refl
begins_is c (b ∷ l) = and_on (eqb c b) ∙ same_tests c b
