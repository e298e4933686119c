-- The whole answer: from its first line that is no comment to what comes back.
-- The definitions of crate `solver` go by `line_of`; here they go by the kind of line and the word, as the code does.
use mathlib.Core.Path.{◌≡◌, refl, sym, ap, ◌∙◌}
use mathlib.Core.Bool.{Bool, true, false, ◌&&◌, cond}
use mathlib.Core.List.{List, [], ◌∷◌}
use mathlib.Core.Logic.{⊎_elim}
use mathlib.Core.Option.{Option as Parsed, none, some}
use Prim.Native.Nat.{ℕ}
use native.Mathlib.Omega.{arith}
use lib.ListN.{length}
use lib.Dec.{eqb, leb}
use Rattle.std.specs.Prelude.{Option, Some, None}
use Rattle.lists.specs.List.{all, drop_while}
use Rattle.lists.proofs.Bool.{bool_cases, clash}
use Rattle.lines.specs.Bytes.{LF, same_bytes}
use Rattle.lines.specs.Parts.{split, put_byte, ended}
use Rattle.planning.specs.Clause.{Lit}
use Rattle.solver.specs.Number.{number_of, numbers_of}
use Rattle.solver.specs.Line.{Word as SaidWord, satisfiable, unsatisfiable, unknown, says, unformed, numbers_line, word_line, SATISFIABLE, UNSATISFIABLE, UNKNOWN}
use Rattle.solver.specs.File.{all_ended}
use Rattle.solver.specs.Scan.{Reading, begin, and_on, read_part, read_line, read_lines, decide, from_line, read_from, heard}
use Rattle.cells.specs.declared.kind.Kind.{Kind}
use Rattle.cells.specs.declared.kind.Kind.TheVariants.{Comment, Word as WordKind, Values, Other as OtherKind}
use Rattle.cells.specs.declared.kind.Word.{Word}
use Rattle.cells.specs.declared.kind.Word.TheVariants.{Satisfiable, Other}
use Rattle.cells.specs.Kind.{kind, behind_space, line_from, comment_kind, is_comment, word_in, word_by, word_of}
use Rattle.cells.specs.Read.{Told, only_comments}
use Rattle.cells.proofs.Letters.{line_kind}
use Rattle.cells.proofs.Reading.{line_by, line_is}

-- After the other two words --------------------------------------------------------------------------------------------------------
all_dropped : (ls : List (List ℕ)) → drop_while is_comment ls ≡ [] → all is_comment ls ≡ true
all_dropped [] e = refl
all_dropped (l ∷ ls) e = go (is_comment l) e (all_dropped ls)
  where
    go : (t : Bool) → cond t (drop_while is_comment ls) (l ∷ ls) ≡ [] → (drop_while is_comment ls ≡ [] → all is_comment ls ≡ true) → (t && all is_comment ls) ≡ true
    go true e ih = ih e
    go false e ih = absurd (omega (arith, ap length e))

not_dropped : (ls : List (List ℕ)) (m : List ℕ) (ms : List (List ℕ)) → drop_while is_comment ls ≡ m ∷ ms → all is_comment ls ≡ false
not_dropped [] m ms e = absurd (omega (arith, ap length e))
not_dropped (l ∷ ls) m ms e = go (is_comment l) e (not_dropped ls m ms)
  where
    go : (t : Bool) → cond t (drop_while is_comment ls) (l ∷ ls) ≡ m ∷ ms → (drop_while is_comment ls ≡ m ∷ ms → all is_comment ls ≡ false) → (t && all is_comment ls) ≡ false
    go true e ih = ih e
    go false e ih = refl

module _ (ls : List (List ℕ)) {ms : List (List ℕ)} (p : ms ≡ drop_while is_comment ls) where
  pub others_only : ms ≡ [] → 13 ≡ only_comments ls
  others_only q = rw (all_dropped ls (sym p ∙ q))

  pub others_more : {m : List ℕ} {more : List (List ℕ)} → ms ≡ m ∷ more → 12 ≡ only_comments ls
  others_more {m} {more} q = rw (not_dropped ls m more (sym p ∙ q))

-- with another word than SATISFIABLE no number is taken, so that a line is a comment or none
some_part : (c : ℕ) (bs : List ℕ) → (p : List ℕ) × (ps : List (List ℕ)) × (split c bs ≡ p ∷ ps)
unfolding split
some_part c [] = ([], [], refl)
some_part c (b ∷ bs) = go (eqb b c) (some_part c bs)
  where
    go : (t : Bool) → ((p : List ℕ) × (ps : List (List ℕ)) × (split c bs ≡ p ∷ ps)) → (p : List ℕ) × (ps : List (List ℕ)) × (put_byte t b (split c bs) ≡ p ∷ ps)
    go true x = ([], split c bs, refl)
    go false x = (b ∷ x.0, x.1, rw x.2)

module _ (w : SaidWord) (no : (r : Reading) (o : Parsed Lit) → read_part w r o ≡ none) where
  other_line : (r : Reading) (l : List ℕ) → read_line w r l ≡ cond (is_comment l) (some r) none
  other_line r l = line_is w r l ∙ go (kind l) (behind_space l)
    where
      go : (k : Kind) (more : List ℕ) → line_by k w r more ≡ cond (comment_kind k) (some r) none
      go Comment more = refl
      go WordKind more = refl
      go Values more = let x = some_part 32 more in rw (x.2, no r (number_of x.0))
      go OtherKind more = refl

  other_lines : (r : Reading) (ls : List (List ℕ)) → read_lines w r ls ≡ cond (all is_comment ls) (some r) none
  other_lines r [] = refl
  other_lines r (l ∷ ls) = rw (other_line r l) (go (is_comment l) (other_lines r ls))
    where
      go : (t : Bool) → read_lines w r ls ≡ cond (all is_comment ls) (some r) none
          → and_on (cond t (some r) none) (λ s. read_lines w s ls) ≡ cond (t && all is_comment ls) (some r) none
      go true e = e
      go false e = refl

unsatisfiable_is : (r : Reading) (ls : List (List ℕ)) → decide unsatisfiable (read_lines unsatisfiable r ls) ≡ (only_comments ls, [])
unsatisfiable_is r ls = rw (other_lines unsatisfiable no r ls) (go (all is_comment ls))
  where
    go : (t : Bool) → decide unsatisfiable (cond t (some r) none) ≡ (cond t 13 12, [])
    go true = refl
    go false = refl

    no : (r : Reading) (o : Parsed Lit) → read_part unsatisfiable r o ≡ none
    no r none = refl
    no r (some l) = refl

unknown_is : (r : Reading) (ls : List (List ℕ)) → decide unknown (read_lines unknown r ls) ≡ (only_comments ls, [])
unknown_is r ls = rw (other_lines unknown no r ls) (go (all is_comment ls))
  where
    go : (t : Bool) → decide unknown (cond t (some r) none) ≡ (cond t 13 12, [])
    go true = refl
    go false = refl

    no : (r : Reading) (o : Parsed Lit) → read_part unknown r o ≡ none
    no r none = refl
    no r (some l) = refl

-- From the first line on -----------------------------------------------------------------------------------------------------------
-- what the word and the lines behind it say
abbrev pub from_word : ℕ → Option Word → List (List ℕ) → ℕ × List ℕ
from_word n (Some Satisfiable) ls = decide satisfiable (read_lines satisfiable (begin n) ls)
from_word n (Some Other) ls = (only_comments ls, [])
from_word n None ls = (12, [])

module _ (n : ℕ) (l : List ℕ) (ls : List (List ℕ)) where
  from_comment : is_comment l ≡ true → read_from n (l ∷ ls) ≡ read_from n ls
  from_comment e = rw (line_kind l) (go (kind l) (behind_space l) e)
    where
      go : (k : Kind) (more : List ℕ) → comment_kind k ≡ true → from_line n (line_from k more) (read_from n ls) ls ≡ read_from n ls
      go Comment more e = refl
      go WordKind more e = clash e refl
      go Values more e = clash e refl
      go OtherKind more e = clash e refl

  from_word_lem : (more : List ℕ) → from_line n (word_line more) (read_from n ls) ls ≡ from_word n (word_in more) ls
  from_word_lem more = go (same_bytes more SATISFIABLE) (same_bytes more UNSATISFIABLE) (same_bytes more UNKNOWN)
    where
      go : (a b c : Bool)
          → from_line n (cond a (says satisfiable) (cond b (says unsatisfiable) (cond c (says unknown) unformed))) (read_from n ls) ls ≡ from_word n (cond a (Some Satisfiable) (cond b (Some Other) (cond c (Some Other) None))) ls
      go true b c = refl
      go false true c = unsatisfiable_is (begin n) ls
      go false false true = unknown_is (begin n) ls
      go false false false = refl

  from_other : is_comment l ≡ false → read_from n (l ∷ ls) ≡ from_word n (word_of l) ls
  from_other e = rw (line_kind l) (go (kind l) (behind_space l) e)
    where
      numbers : (o : Parsed (List Lit)) → from_line n (numbers_line o) (read_from n ls) ls ≡ (12, [])
      numbers none = refl
      numbers (some ks) = refl

      go : (k : Kind) (more : List ℕ) → comment_kind k ≡ false → from_line n (line_from k more) (read_from n ls) ls ≡ from_word n (word_by k more) ls
      go Comment more e = clash refl e
      go WordKind more e = from_word_lem more
      go Values more e = numbers (numbers_of (split 32 more))
      go OtherKind more e = refl

passed : (n : ℕ) (ls : List (List ℕ)) → read_from n ls ≡ read_from n (drop_while is_comment ls)
passed n [] = refl
passed n (l ∷ ls) = ⊎_elim (λ e. from_comment n l ls e ∙ passed n ls ∙ rw e) (λ e. rw e) (bool_cases (is_comment l))

first_kept : (ls : List (List ℕ)) (m : List ℕ) (ms : List (List ℕ)) → drop_while is_comment ls ≡ m ∷ ms → is_comment m ≡ false
first_kept [] m ms e = absurd (omega (arith, ap length e))
first_kept (l ∷ ls) m ms e = ⊎_elim (λ y. first_kept ls m ms (rw y at e)) (λ y. let q : l ∷ ls ≡ m ∷ ms = rw y at e in let h : l ≡ m = cc in rw h at y) (bool_cases (is_comment l))

-- The answer -----------------------------------------------------------------------------------------------------------------------
pub told_no : {o : ℕ × List ℕ} {n : ℕ} {cs : List ℕ} (r : ℕ) → r ≡ o.0 → (r ≡ 0 → ⊥) → Told o n cs r
told_no r e m = record { question = e; values = λ z. absurd (m z) }

pub read_unfit : (s : List ℕ) (n : ℕ) {cs : List ℕ} {t : Bool} → t ≡ (leb (length s) 65536 && all_ended s) → t ≡ false → Told (heard n s) n cs 12
unfolding heard
read_unfit s n e f = told_no 12 (rw (← e, f)) (λ z. absurd (omega (arith, z)))

module _ (s : List ℕ) (n : ℕ) {t : Bool} (f : t ≡ (leb (length s) 65536 && all_ended s)) (y : t ≡ true) (rest : List ℕ) (p : ended LF rest ≡ drop_while is_comment (ended LF s)) where
  from_first : heard n s ≡ read_from n (ended LF rest)
  unfolding heard
  from_first =
      let q : read_from n (ended LF s) ≡ read_from n (ended LF rest) = passed n (ended LF s) ∙ ap (read_from n) (sym p) in
      rw (← f, y) q

  pub read_nothing : {cs : List ℕ} → ended LF rest ≡ [] → Told (heard n s) n cs 12
  read_nothing e =
      let q : heard n s ≡ (12, []) = from_first ∙ ap (read_from n) e in
      told_no 12 (rw q) (λ z. absurd (omega (arith, z)))

  module _ (line behind : List ℕ) (h : ended LF rest ≡ line ∷ ended LF behind) where
    from_line_lem : heard n s ≡ from_word n (word_of line) (ended LF behind)
    from_line_lem =
        let c = first_kept (ended LF s) line (ended LF behind) (sym p ∙ h) in
        from_first ∙ ap (read_from n) h ∙ from_other n line (ended LF behind) c

    pub read_satisfiable : {cs : List ℕ} {r : ℕ} → word_of line ≡ Some Satisfiable → Told (decide satisfiable (read_lines satisfiable (begin n) (ended LF behind))) n cs r → Told (heard n s) n cs r
    read_satisfiable e t = let q = from_line_lem in rw (q, e) t

    pub read_other : {cs : List ℕ} {r : ℕ} → word_of line ≡ Some Other → r ≡ only_comments (ended LF behind) → Told (heard n s) n cs r
    read_other {cs} {r} e t =
        let q = from_line_lem in
        told_no r (rw (q, e) t) (λ z. not_zero (all is_comment (ended LF behind)) (sym t ∙ z))
      where
        not_zero : (x : Bool) → ◌≡◌ {A = ℕ} (cond x 13 12) 0 → ⊥
        not_zero true z = omega (arith, z)
        not_zero false z = omega (arith, z)

    pub read_wordless : {cs : List ℕ} → word_of line ≡ None → Told (heard n s) n cs 12
    read_wordless e = let q = from_line_lem in told_no 12 (rw (q, e)) (λ z. absurd (omega (arith, z)))
