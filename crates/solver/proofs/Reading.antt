-- An answer read from left to right, with a cell for each variable, is heard as the three questions have it.
-- Up to the 0, then the cells, then question by question.
use mathlib.Core.Path.{◌≡◌, refl, sym, ap, ◌∙◌}
use mathlib.Core.Bool.{Bool, true, false, ◌&&◌, cond}
use mathlib.Core.List.{List, [], ◌∷◌, map}
use mathlib.Core.Option.{Option, none, some}
use Prim.Native.Nat.{ℕ}
use native.Mathlib.Omega.{arith}
use lib.ListN.{length, take}
use lib.Dec.{leb}
use Rattle.lists.specs.Question.{first_unmet}
use Rattle.planning.specs.Clause.{Lit}
use Rattle.lines.specs.Bytes.{LF}
use Rattle.lines.specs.Parts.{ended}
use Rattle.solver.specs.Number.{one_more}
use Rattle.solver.specs.Line.{Word, satisfiable, unsatisfiable, unknown, Line, comment, says, sets, unformed, line_of}
use Rattle.solver.specs.File.{Answer, numbers_in, is_zero, last_or_more, before_zero, answer, fitted, answer_in, all_ended, answer_of}
use Rattle.solver.specs.Questions.{is_some, says_satisfiable, numbers_said, once_each, truths}
use Rattle.solver.specs.Scan.{Heard, Reading, begin, put, end, number_if, and_on, placed, decide, from_line, read_from, heard}
use Rattle.planning.specs.Model.{bits}
use Rattle.solver.proofs.Placed.{put_all, placed_once, placed_values}
use Rattle.solver.proofs.Lines.{read_numbers, numbers_on, lines_are}

-- The 0 ----------------------------------------------------------------------------------------------------------------------
abbrev if_placed : Reading → ℕ × List ℕ
if_placed r = cond (placed r) (0, r.cells) (14, [])

abbrev zeroed : Reading → Option (List Lit) → ℕ × List ℕ
zeroed r none = (12, [])
zeroed r (some ls) = if_placed (put_all r ls)

after_zero : (r : Reading) (l : Lit) (ks : List Lit) (o : Option (List Lit)) → decide satisfiable (read_numbers satisfiable (end r) ks) ≡ zeroed r (last_or_more true l ks o)
after_zero r l [] o = refl
after_zero r l (k ∷ ks) o = refl

one_more_lem : (r : Reading) (l : Lit) (o : Option (List Lit)) → zeroed (put r l) o ≡ zeroed r (one_more (some l) o)
one_more_lem r l none = refl
one_more_lem r l (some ls) = refl

to_zero : (ks : List Lit) (r : Reading) → r.ended ≡ false → decide satisfiable (read_numbers satisfiable r ks) ≡ zeroed r (before_zero ks)
to_zero [] r e = rw e
to_zero (l ∷ ks) r e =
    ap (λ (c : Bool). decide satisfiable (and_on (number_if c (is_zero l) r l) (λ s. read_numbers satisfiable s ks))) e ∙ go (is_zero l) (to_zero ks (put r l) e)
  where
    go : (c : Bool) → decide satisfiable (read_numbers satisfiable (put r l) ks) ≡ zeroed (put r l) (before_zero ks)
        → decide satisfiable (and_on (number_if false c r l) (λ s. read_numbers satisfiable s ks)) ≡ zeroed r (last_or_more c l ks (before_zero ks))
    go true f = after_zero r l ks (before_zero ks)
    go false f = f ∙ one_more_lem r l (before_zero ks)

-- The questions ---------------------------------------------------------------------------------------------------------------
module _ (n : ℕ) where
  abbrev if_once : List Lit → ℕ × List ℕ
  if_once ls = cond (once_each n ls) (0, bits (truths n ls)) (14, [])

  abbrev if_word : Word → List Lit → ℕ × List ℕ
  if_word satisfiable ls = if_once ls
  if_word unsatisfiable ls = (13, [])
  if_word unknown ls = (13, [])

  abbrev told : Option Answer → ℕ × List ℕ
  told none = (12, [])
  told (some a) = if_word a.word a.numbers

  placed_is : (ls : List Lit) → if_placed (put_all (begin n) ls) ≡ if_once ls
  placed_is ls = go (placed (put_all (begin n) ls)) refl
    where
      go : (c : Bool) → placed (put_all (begin n) ls) ≡ c → if_placed (put_all (begin n) ls) ≡ if_once ls
      go true p = rw (p, sym (placed_once n ls) ∙ p) (ap (λ (cs : List ℕ). (0, cs)) (placed_values n ls p))
      go false p = rw (p, sym (placed_once n ls) ∙ p)

  zeroed_is : (o : Option (List Lit)) → zeroed (begin n) o ≡ told (answer satisfiable o)
  zeroed_is none = refl
  zeroed_is (some ls) = placed_is ls

  word_is : (w : Word) (o : Option (List Lit)) → decide w (numbers_on w (begin n) o) ≡ told (fitted w o)
  word_is satisfiable none = refl
  word_is satisfiable (some ks) = to_zero ks (begin n) refl ∙ zeroed_is (before_zero ks)
  word_is unsatisfiable none = refl
  word_is unsatisfiable (some []) = refl
  word_is unsatisfiable (some (k ∷ ks)) = refl
  word_is unknown none = refl
  word_is unknown (some []) = refl
  word_is unknown (some (k ∷ ks)) = refl

  from_is : (ls : List (List ℕ)) → read_from n ls ≡ told (answer_in (map line_of ls))
  from_is [] = refl
  from_is (l ∷ ls) = go (line_of l) (from_is ls)
    where
      go : (k : Line) → read_from n ls ≡ told (answer_in (map line_of ls)) → from_line n k (read_from n ls) ls ≡ told (answer_in (k ∷ map line_of ls))
      go comment h = h
      go (says w) h = ap (decide w) (lines_are w ls (begin n)) ∙ word_is w (numbers_in (map line_of ls))
      go (sets ks) h = refl
      go unformed h = refl

  -- what is heard, as what the file says
  told_is : (bs : List ℕ) → heard n bs ≡ cond (leb (length bs) 65536) (told (answer_of bs)) (12, [])
  unfolding heard answer_of
  told_is bs = go (leb (length bs) 65536) (all_ended bs)
    where
      go : (c d : Bool) → cond (c && d) (read_from n (ended LF bs)) (12, []) ≡ cond c (told (cond d (answer_in (map line_of (ended LF bs))) none)) (12, [])
      go false d = refl
      go true true = from_is (ended LF bs)
      go true false = refl

  put_to : (c : Bool) (o : Option Answer) → (cond c (told o) (12, [])).0 ≡ first_unmet ((12, c && is_some o) ∷ (13, says_satisfiable o) ∷ (14, once_each n (numbers_said o)) ∷ [])
  put_to false o = refl
  put_to true none = refl
  put_to true (some a) = go a.word a.numbers
    where
      go : (w : Word) (ls : List Lit)
          → (if_word w ls).0 ≡ first_unmet ((13, says_satisfiable (some (record { word = w; numbers = ls }))) ∷ (14, once_each n ls) ∷ [])
      go satisfiable ls = pick (once_each n ls)
        where
          pick : (c : Bool) → (cond {A = ℕ × List ℕ} c (0, bits (truths n ls)) (14, [])).0 ≡ cond c 0 14
          pick true = refl
          pick false = refl
      go unsatisfiable ls = refl
      go unknown ls = refl

  values_told : (c : Bool) (o : Option Answer) → 0 ≡ (cond c (told o) (12, [])).0 → (cond c (told o) (12, [])).1 ≡ bits (truths n (numbers_said o))
  values_told false o e = absurd (omega arith)
  values_told true none e = absurd (omega arith)
  values_told true (some a) e = go a.word a.numbers e
    where
      go : (w : Word) (ls : List Lit) → 0 ≡ (if_word w ls).0 → (if_word w ls).1 ≡ bits (truths n ls)
      go satisfiable ls e = pick (once_each n ls) e
        where
          pick : (c : Bool) → 0 ≡ (cond {A = ℕ × List ℕ} c (0, bits (truths n ls)) (14, [])).0 → (cond {A = ℕ × List ℕ} c (0, bits (truths n ls)) (14, [])).1 ≡ bits (truths n ls)
          pick true e = refl
          pick false e = absurd (omega arith)
      go unsatisfiable ls e = absurd (omega arith)
      go unknown ls e = absurd (omega arith)

-- the left-to-right reading is the meaning
pub heard_is : (n : ℕ) (bs cells : List ℕ) (r : ℕ) → r ≡ (heard n bs).0 → (r ≡ 0 → take n cells ≡ (heard n bs).1) → Heard n bs cells r
heard_is n bs cells r e v =
    let t = told_is n bs in
    let c = leb (length bs) 65536 in
    record {
      question = e ∙ (ap (λ (p : ℕ × List ℕ). p.0) t ∙ put_to n c (answer_of bs));
      values = λ z. v z ∙ (ap (λ (p : ℕ × List ℕ). p.1) t ∙ values_told n c (answer_of bs) (sym z ∙ (e ∙ ap (λ (p : ℕ × List ℕ). p.0) t)));
    }
