-- The lines behind the `s` line, read part by part, are their numbers, read one after the other.
-- By recursion on the numbers and on the lines; a line by its first byte.
use mathlib.Core.Path.{◌≡◌, refl, sym, ap, ◌∙◌}
use mathlib.Core.Bool.{Bool, true, false, cond}
use mathlib.Core.List.{List, [], ◌∷◌, ◌++◌, map}
use mathlib.Core.Option.{Option, none, some}
use Prim.Native.Nat.{ℕ}
use lib.Dec.{eqb}
use Rattle.lists.proofs.Bool.{eqb_sound}
use Rattle.planning.specs.Clause.{Lit}
use Rattle.lines.specs.Bytes.{same_bytes}
use Rattle.lines.specs.Parts.{split}
use Rattle.solver.specs.Number.{number_of, one_more, numbers_of}
use Rattle.solver.specs.Line.{Word, satisfiable, unsatisfiable, unknown, Line, comment, says, sets, unformed, SATISFIABLE, UNSATISFIABLE, UNKNOWN, word_line, numbers_line, after_letter, line_of}
use Rattle.solver.specs.File.{and_then, numbers_in}
use Rattle.solver.specs.Scan.{Reading, read_number, and_on, read_part, read_parts, behind_letter, read_line, read_lines}

-- Step by step ---------------------------------------------------------------------------------------------------------------
on_same : (o : Option Reading) (f g : Reading → Option Reading) → ((r : Reading) → f r ≡ g r) → and_on o f ≡ and_on o g
on_same none f g h = refl
on_same (some r) f g h = h r

on_none : (o : Option Reading) → and_on o (λ r. none) ≡ none
on_none none = refl
on_none (some r) = refl

on_on : (o : Option Reading) (f g : Reading → Option Reading) → and_on (and_on o f) g ≡ and_on o (λ r. and_on (f r) g)
on_on none f g = refl
on_on (some r) f g = refl

abbrev pub read_numbers : Word → Reading → List Lit → Option Reading
read_numbers w r [] = some r
read_numbers w r (l ∷ ls) = and_on (read_number w r l) (λ s. read_numbers w s ls)

abbrev pub numbers_on : Word → Reading → Option (List Lit) → Option Reading
numbers_on w r none = none
numbers_on w r (some ks) = read_numbers w r ks

module _ (w : Word) where
  numbers_append : (ks ms : List Lit) (r : Reading) → and_on (read_numbers w r ks) (λ s. read_numbers w s ms) ≡ read_numbers w r (ks ++ ms)
  numbers_append [] ms r = refl
  numbers_append (k ∷ ks) ms r =
      on_on (read_number w r k) (λ s. read_numbers w s ks) (λ s. read_numbers w s ms)
      ∙ on_same (read_number w r k) (λ s. and_on (read_numbers w s ks) (λ t. read_numbers w t ms)) (λ s. read_numbers w s (ks ++ ms)) (λ s. numbers_append ks ms s)

  parts_are : (ps : List (List ℕ)) (r : Reading) → read_parts w r ps ≡ numbers_on w r (numbers_of ps)
  parts_are [] r = refl
  parts_are (p ∷ ps) r = go (number_of p) (λ s. parts_are ps s)
    where
      more : (l : Lit) (o : Option (List Lit)) → and_on (read_number w r l) (λ s. numbers_on w s o) ≡ numbers_on w r (one_more (some l) o)
      more l none = on_none (read_number w r l)
      more l (some ks) = refl

      go : (o : Option Lit) → ((s : Reading) → read_parts w s ps ≡ numbers_on w s (numbers_of ps))
          → and_on (read_part w r o) (λ s. read_parts w s ps) ≡ numbers_on w r (one_more o (numbers_of ps))
      go none h = refl
      go (some l) h = on_same (read_number w r l) (λ s. read_parts w s ps) (λ s. numbers_on w s (numbers_of ps)) h ∙ more l (numbers_of ps)

-- Lines ----------------------------------------------------------------------------------------------------------------------
-- a line behind the `s` line, once it is known what it is
abbrev line_on : Word → Reading → Line → Option Reading
line_on w r comment = some r
line_on w r (says x) = none
line_on w r (sets ks) = read_numbers w r ks
line_on w r unformed = none

module _ (w : Word) (r : Reading) where
  letter_is : (alone : Line) (more : List ℕ → Line) (one : Option Reading) (others : List ℕ → Option Reading) → one ≡ line_on w r alone
      → ((ds : List ℕ) → others ds ≡ line_on w r (more ds)) → (bs : List ℕ) → behind_letter one others bs ≡ line_on w r (after_letter alone more bs)
  letter_is alone more one others a m [] = a
  letter_is alone more one others a m (d ∷ ds) = go (eqb d 32) (m ds)
    where
      go : (c : Bool) → others ds ≡ line_on w r (more ds) → cond c (others ds) none ≡ line_on w r (cond c (more ds) unformed)
      go true h = h
      go false h = refl

  -- an `s` line stands no second time
  word_none : (ds : List ℕ) → none ≡ line_on w r (word_line ds)
  word_none ds = go (same_bytes ds SATISFIABLE) (same_bytes ds UNSATISFIABLE) (same_bytes ds UNKNOWN)
    where
      go : (a b c : Bool) → none ≡ line_on w r (cond a (says satisfiable) (cond b (says unsatisfiable) (cond c (says unknown) unformed)))
      go true b c = refl
      go false true c = refl
      go false false true = refl
      go false false false = refl

  letter_none : (bs : List ℕ) → behind_letter none (λ ds. none) bs ≡ none
  letter_none [] = refl
  letter_none (d ∷ ds) = go (eqb d 32)
    where
      go : (c : Bool) → ◌≡◌ {A = Option Reading} (cond c none none) none
      go true = refl
      go false = refl

  numbers_are : (ds : List ℕ) → read_parts w r (split 32 ds) ≡ line_on w r (numbers_line (numbers_of (split 32 ds)))
  numbers_are ds = parts_are w (split 32 ds) r ∙ go (numbers_of (split 32 ds))
    where
      go : (o : Option (List Lit)) → numbers_on w r o ≡ line_on w r (numbers_line o)
      go none = refl
      go (some ks) = refl

  line_is : (l : List ℕ) → read_line w r l ≡ line_on w r (line_of l)
  line_is [] = refl
  line_is (b ∷ bs) = go (eqb b 99) refl (eqb b 115) refl (eqb b 118) refl
    where
      word : eqb b 115 ≡ true → eqb b 118 ≡ false
      word e = rw (eqb_sound b 115 e)

      go : (c : Bool) → eqb b 99 ≡ c → (s : Bool) → eqb b 115 ≡ s → (v : Bool) → eqb b 118 ≡ v → read_line w r (b ∷ bs) ≡ line_on w r (line_of (b ∷ bs))
      go true p s q v z = rw p (letter_is comment (λ more. comment) (some r) (λ more. some r) refl (λ ds. refl) bs)
      go false p true q v z = rw (p, q, word q) (sym (letter_none bs) ∙ letter_is unformed word_line none (λ more. none) refl word_none bs)
      go false p false q true z =
          rw (p, q, z) (letter_is unformed (λ more. numbers_line (numbers_of (split 32 more))) none (λ more. read_parts w r (split 32 more)) refl numbers_are bs)
      go false p false q false z = rw (p, q, z)

-- the numbers of all lines, read in one go
pub lines_are : (w : Word) (ls : List (List ℕ)) (r : Reading) → read_lines w r ls ≡ numbers_on w r (numbers_in (map line_of ls))
lines_are w [] r = refl
lines_are w (l ∷ ls) r =
    ap (λ (o : Option Reading). and_on o (λ s. read_lines w s ls)) (line_is w r l)
    ∙ (on_same (line_on w r (line_of l)) (λ s. read_lines w s ls) (λ s. numbers_on w s (numbers_in (map line_of ls))) (λ s. lines_are w ls s) ∙ go (line_of l))
  where
    then : (ks : List Lit) (o : Option (List Lit)) → and_on (read_numbers w r ks) (λ s. numbers_on w s o) ≡ numbers_on w r (and_then ks o)
    then ks none = on_none (read_numbers w r ks)
    then ks (some ms) = numbers_append w ks ms r

    go : (k : Line) → and_on (line_on w r k) (λ s. numbers_on w s (numbers_in (map line_of ls))) ≡ numbers_on w r (numbers_in (k ∷ map line_of ls))
    go comment = refl
    go (says x) = refl
    go (sets ks) = then ks (numbers_in (map line_of ls))
    go unformed = refl
