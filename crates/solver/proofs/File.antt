-- Every list of values is that of a formed answer: `s SATISFIABLE` and one `v` line.
-- The file is put together, cut apart again, and its numbers put to the questions.
use mathlib.Core.Path.{◌≡◌, refl, sym, ap, ◌∙◌, subst}
use mathlib.Core.Bool.{Bool, true, false, cond}
use mathlib.Core.List.{List, [], ◌∷◌, ◌++◌, map, append-nil}
use mathlib.Core.Option.{none, some}
use Prim.Native.Nat.{ℕ, zero, suc, ◌+◌, ◌≤◌, ◌<◌}
use native.Mathlib.Omega.{arith}
use native.Mathlib.Decide.{ℕ_discrete}
use lib.ListN.{length, get_or, length-append}
use lib.Seq.{ext_get_or}
use lib.Dec.{eqb}
use Rattle.lists.specs.List.{any, Every}
use Rattle.lists.proofs.Bool.{or_off, eqb_same, eqb_other}
use Rattle.lists.proofs.Every.{every_imp, every_out, every_append, every_concat_map, length_concat_map_le}
use Rattle.lists.proofs.Place.{get_d_map_from}
use Rattle.planning.specs.Clause.{Lit, pos, neg, variable_of, literal}
use Rattle.planning.specs.Text.{lit_text}
use Rattle.planning.proofs.Text.Numeral.{decimal_length}
use Rattle.lines.specs.Bytes.{LF}
use Rattle.lines.specs.Parts.{ended}
use Rattle.solver.specs.Number.{one_more}
use Rattle.solver.specs.Line.{satisfiable, Line, says, sets, line_of}
use Rattle.solver.specs.Exact.{spelled, FiveDigits}
use Rattle.solver.specs.File.{is_zero, last_or_more, before_zero, answer, fitted, answer_in, answer_of}
use Rattle.solver.specs.Questions.{numbers_said, makes_true, times, once_each, truths, values_of, met14}
use Rattle.solver.proofs.Once.{InRange, once_in, truths_length}
use Rattle.solver.proofs.Values.{true_other}
use Rattle.solver.proofs.Parts.{Without, without_of, joined, lines_exact}
use Rattle.solver.proofs.Number.{texts, text_without}
use Rattle.solver.proofs.Line.{word_line_lem, numbers_line_lem}

-- these values as numbers, the first of variable n
abbrev pub literals : ℕ → List Bool → List Lit
literals n [] = []
literals n (b ∷ bs) = literal b n ∷ literals (suc n) bs

abbrev s_line : List ℕ
s_line = 115 ∷ 32 ∷ spelled satisfiable

-- the numbers, and a 0
abbrev v_line : List Lit → List ℕ
v_line ls = 118 ∷ texts (ls ++ (pos 0 ∷ []))

abbrev pub answer_file : List Bool → List ℕ
answer_file vs = joined (s_line ∷ v_line (literals 1 vs) ∷ [])

-- What the file says -----------------------------------------------------------------------------------------------------------
texts_without : (ks : List Lit) → Without LF (texts ks)
texts_without ks = every_concat_map (λ (b : ℕ). eqb b LF ≡ false) (λ k. 32 ∷ lit_text k) ks (λ k m. (refl, text_without LF k (omega arith)))

written_in : (l : Lit) → InRange 99999 l → FiveDigits l
written_in (pos n) h = h.1
written_in (neg n) h = h

v_line_lem : (ls : List Lit) → Every (InRange 99999) ls → line_of (v_line ls) ≡ sets (ls ++ (pos 0 ∷ []))
v_line_lem ls h = numbers_line_lem (v_line ls) (ls ++ (pos 0 ∷ [])) (record {
  some_number = omega (arith, length-append ls (pos 0 ∷ []));
  bytes = refl;
  written = every_append FiveDigits ls (pos 0 ∷ []) (every_imp (InRange 99999) FiveDigits written_in ls h) (omega arith, tt);
})

zero_no : (l : Lit) → 1 ≤ variable_of l → is_zero l ≡ false
zero_no (pos n) h = eqb_other n 0 (λ e. omega arith)
zero_no (neg n) h = eqb_other n 0 (λ e. omega arith)

before_zero_lem : (ls : List Lit) → Every (InRange 99999) ls → before_zero (ls ++ (pos 0 ∷ [])) ≡ some ls
before_zero_lem [] h = refl
before_zero_lem (l ∷ ls) h =
    ap (λ (c : Bool). last_or_more c l (ls ++ (pos 0 ∷ [])) (before_zero (ls ++ (pos 0 ∷ [])))) (zero_no l h.0.0)
    ∙ ap (one_more (some l)) (before_zero_lem ls h.1)

numbers_say : (ls : List Lit) → Every (InRange 99999) ls → answer_of (joined (s_line ∷ v_line ls ∷ [])) ≡ some (record { word = satisfiable; numbers = ls })
unfolding answer_of
numbers_say ls h =
    let bs = joined (s_line ∷ v_line ls ∷ []) in
    let x = (lines_exact bs (s_line ∷ v_line ls ∷ [])).1 (refl, omega arith, (without_of LF s_line refl, ((refl, texts_without (ls ++ (pos 0 ∷ []))), tt))) in
    ap (λ (c : Bool). cond c (answer_in (map line_of (ended LF bs))) none) x.0
    ∙ (ap (λ (ks : List (List ℕ)). answer_in (map line_of ks)) x.1
    ∙ (ap (λ (k : Line). answer_in (k ∷ line_of (v_line ls) ∷ [])) (word_line_lem satisfiable)
    ∙ (ap (λ (k : Line). answer_in (says satisfiable ∷ k ∷ [])) (v_line_lem ls h)
    ∙ (ap (λ (ks : List Lit). fitted satisfiable (some ks)) (append-nil (ls ++ (pos 0 ∷ [])))
    ∙ ap (answer satisfiable) (before_zero_lem ls h)))))

-- Each variable once -----------------------------------------------------------------------------------------------------------
variable_literal : (b : Bool) (n : ℕ) → variable_of (literal b n) ≡ n
variable_literal true n = refl
variable_literal false n = refl

literals_range : (n m : ℕ) (vs : List Bool) → 1 ≤ n → n + length vs ≤ suc m → Every (InRange m) (literals n vs)
literals_range n m [] p q = tt
literals_range n m (b ∷ bs) p q = ((omega (arith, variable_literal b n), omega (arith, variable_literal b n)), literals_range (suc n) m bs (omega arith) (omega arith))

-- below the first of them none stands
times_none : (k n : ℕ) (vs : List Bool) → k < n → times k (literals n vs) ≡ 0
times_none k n [] h = refl
times_none k n (b ∷ bs) h = rw (variable_literal b n, eqb_other k n (λ e. omega arith)) (times_none k (suc n) bs (omega arith))

times_one : (k n : ℕ) (vs : List Bool) → n ≤ k → k < n + length vs → times k (literals n vs) ≡ 1
times_one k n [] p q = absurd (omega arith)
times_one k n (b ∷ bs) p q = go (ℕ_discrete k n) (λ h. times_one k (suc n) bs h (omega arith))
  where
    go : Dec (k ≡ n) → (suc n ≤ k → times k (literals (suc n) bs) ≡ 1) → times k (literal b n ∷ literals (suc n) bs) ≡ 1
    go (yes e) f =
        subst (λ (j : ℕ). times j (literal b n ∷ literals (suc n) bs) ≡ 1) (sym e)
        (rw (variable_literal b n, eqb_same n) (ap suc (times_none n (suc n) bs (omega arith))))
    go (no u) f = rw (variable_literal b n, eqb_other k n u) (f (omega arith))

-- and each has its own value
own_value : (b : Bool) (n : ℕ) → makes_true n (literal b n) ≡ b
own_value true n = eqb_same n
own_value false n = refl

any_none : (k n : ℕ) (vs : List Bool) → k < n → any (makes_true k) (literals n vs) ≡ false
any_none k n [] h = refl
any_none k n (b ∷ bs) h = rw (true_other k (literal b n) (λ e. omega (arith, variable_literal b n))) (any_none k (suc n) bs (omega arith))

literals_true : (n i : ℕ) (vs : List Bool) → any (makes_true (n + i)) (literals n vs) ≡ get_or vs i false
literals_true n i [] = refl
literals_true n zero (b ∷ bs) =
    let z : n ≡ n + 0 = omega arith in
    subst (λ (k : ℕ). any (makes_true k) (literals n (b ∷ bs)) ≡ b) z (rw (own_value b n, any_none n (suc n) bs (omega arith)) (or_off b))
literals_true n (suc i) (b ∷ bs) =
    let z : suc n + i ≡ n + suc i = omega arith in
    rw (true_other (n + suc i) (literal b n) (λ e. omega (arith, variable_literal b n)))
    (subst (λ (k : ℕ). any (makes_true k) (literals (suc n) bs) ≡ get_or bs i false) z (literals_true (suc n) i bs))

truths_literals : (vs : List Bool) → truths (length vs) (literals 1 vs) ≡ vs
truths_literals vs = ext_get_or false (truths (length vs) (literals 1 vs)) vs (truths_length (length vs) (literals 1 vs)) (λ i h.
    get_d_map_from (λ k. any (makes_true k) (literals 1 vs)) 1 (length vs) i false (omega (arith, truths_length (length vs) (literals 1 vs))) ∙ literals_true 1 i vs)

-- How long it is -----------------------------------------------------------------------------------------------------------------
text_length : (l : Lit) → variable_of l ≤ 9999 → length (32 ∷ lit_text l) ≤ 6
text_length (pos n) h = omega (arith, decimal_length n 3 (omega arith))
text_length (neg n) h = omega (arith, decimal_length n 3 (omega arith))

literals_length : (n : ℕ) (vs : List Bool) → length (literals n vs) ≡ length vs
literals_length n [] = refl
literals_length n (b ∷ bs) = ap suc (literals_length (suc n) bs)

-- The file is formed, and met ------------------------------------------------------------------------------------------------------
module _ (vs : List Bool) (h : length vs ≤ 9999) where
  abbrev ls : List Lit
  ls = literals 1 vs

  -- at most 6 bytes for each variable, and 22 more
  pub file_length : length (answer_file vs) ≤ 65536
  file_length =
      let small : Every (λ (l : Lit). variable_of l ≤ 9999) (ls ++ (pos 0 ∷ []))
      = every_append (λ (l : Lit). variable_of l ≤ 9999) ls (pos 0 ∷ [])
      (every_imp (InRange 9999) (λ (l : Lit). variable_of l ≤ 9999) (λ l r. r.1) ls (literals_range 1 9999 vs (omega arith) (omega arith))) (omega arith, tt) in
      omega (
        arith,
        length-append (texts (ls ++ (pos 0 ∷ []))) (LF ∷ []),
        length-append (texts (ls ++ (pos 0 ∷ [])) ++ (LF ∷ [])) [],
        length-append ls (pos 0 ∷ []),
        literals_length 1 vs,
        length_concat_map_le (λ k. 32 ∷ lit_text k) (ls ++ (pos 0 ∷ [])) 6 (λ l m. text_length l (every_out (λ (l : Lit). variable_of l ≤ 9999) (ls ++ (pos 0 ∷ [])) small l m)),
      )

  pub file_says : answer_of (answer_file vs) ≡ some (record { word = satisfiable; numbers = literals 1 vs })
  file_says = numbers_say ls (literals_range 1 99999 vs (omega arith) (omega arith))

  pub file_met14 : met14 (length vs) (answer_file vs) ≡ true
  file_met14 =
      ap (λ o. once_each (length vs) (numbers_said o)) file_says
      ∙ once_in (length vs) ls (λ k p q. times_one k 1 vs p (omega arith)) (literals_range 1 (length vs) vs (omega arith) (omega arith))

  pub file_values : values_of (length vs) (answer_file vs) ≡ vs
  file_values = ap (λ o. truths (length vs) (numbers_said o)) file_says ∙ truths_literals vs
