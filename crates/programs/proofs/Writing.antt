-- What the functions that write leave: a refusal's line, a part of some lines, the whole of a procedure's text.
-- By the outcome of the call below, and by which lines fit.
use mathlib.Core.Path.{◌≡◌, refl, sym, ap, ◌∙◌, subst}
use mathlib.Core.Bool.{Bool, true, false}
use mathlib.Core.List.{List, [], ◌∷◌, ◌++◌, append-nil}
use mathlib.Core.Logic.{◌⊎◌, inl, inr}
use Prim.Native.Nat.{ℕ, suc, ◌+◌, ◌-◌, ◌≤◌, ◌<◌}
use native.Mathlib.Omega.{arith}
use lib.Dec.{leb, ltb}
use lib.ListN.{length, get_or, take, drop, length-append, length-drop, drop_of_length-le}
use lib.Seq.{take-add, take-append_seam}
use Rattle.std.proofs.lemmas.List.{take_all}
use Rattle.lists.specs.List.{Every, concat}
use Rattle.lists.specs.Question.{first_unmet}
use Rattle.lists.specs.Text.{bytes}
use Rattle.lists.specs.Written.{Wrote}
use Rattle.lists.proofs.Bool.{leb_sound, leb_in, leb_no, clash}
use Rattle.lists.proofs.Every.{every_imp, concat_append}
use Rattle.lists.proofs.Order.{le_or_lt}
use Rattle.lists.proofs.Written.{wrote_append, wrote_length, wrote_whole}
use Rattle.planning.specs.Table.{Table}
use Rattle.planning.specs.Place.{root_place, nodes}
use Rattle.planning.specs.Variable.{variables}
use Rattle.planning.specs.Clause.{formula}
use Rattle.planning.specs.Text.{decimal, lines, fitting, written, bytes_used, next_line}
use Rattle.planning.proofs.Text.Call.{fitting_first, fitting_most, lines_count}
use Rattle.questions.specs.Questions.{by_number, asked, turned_down, taken}
use Rattle.questions.proofs.Asked.{asked_refused, Handed, asked_handed, asked_accepted}
use Rattle.encoding.specs.Calls.{checking, questions_of_line, writing_formula, formula_after}
use Rattle.answer.specs.Calls.{enough_listing, questions_of_answer, shown_answer, showing_answer, answer_listing_after}
use Rattle.programs.specs.Output.{refused_line, formula_lines, procedure_text}
use Rattle.programs.specs.Parts.{PartOf}
use Rattle.programs.specs.declared.Part.{Part}
use Rattle.programs.proofs.Lines.{lines_accepted, lines_short}
use Rattle.programs.proofs.GettingOn.{gets_on}

-- A refusal's line ----------------------------------------------------------------------------------------------------------------
-- its three parts, one behind the other
module _ (n : ℕ) {t t₁ : List ℕ} {a : ℕ} (room : 32 ≤ length t) (few : length (decimal n) ≤ 20) (w₁ : Wrote t 0 (bytes "refused\t") t₁ a) where
  pub digits_room : a + length (decimal n) ≤ length t₁
  digits_room = omega (arith, w₁.end, wrote_length w₁ (omega arith))

  module _ {t₂ : List ℕ} {b : ℕ} (w₂ : Wrote t₁ a (decimal n) t₂ b) where
    pub end_room : b < length t₂
    end_room = omega (arith, w₁.end, w₂.end, wrote_length w₁ (omega arith), wrote_length w₂ digits_room)

    pub refused_wrote : {t₃ : List ℕ} {r : ℕ} → Wrote t₂ b (10 ∷ []) t₃ r → Wrote t 0 (refused_line n) t₃ r
    refused_wrote w₃ = wrote_append (omega arith) w₁ (wrote_append (omega (arith, digits_room)) w₂ w₃)

-- Parts ----------------------------------------------------------------------------------------------------------------------------
module _ (ls : List (List ℕ)) (j : ℕ) (o : List ℕ) where
  abbrev fits : List (List ℕ)
  fits = fitting (length o) (drop j ls)

  -- no line is left
  pub part_past : length ls ≤ j → PartOf ls j o o (record { used = 0; next = j; last = true })
  part_past h =
      let z : fits ≡ [] = ap (fitting (length o)) (drop_of_length-le ls h) in
      record {
        used = sym (ap (λ (l : List (List ℕ)). length (concat l)) z);
        left = sym (ap (λ (l : List (List ℕ)). concat l ++ drop (length (concat l)) o) z);
        next = omega (arith, ap length z);
        last = sym (leb_in (length ls) j h);
      }

  part_few : length (concat fits) ≤ length o
  part_few = omega (arith, (fitting_most (length o) (drop j ls)).fit, ap (λ (l : List (List ℕ)). length (concat l)) (fitting_first (length o) (drop j ls)))

  module _ {o' : List ℕ} {r : Part} (p : PartOf ls j o o' r) where
    pub part_length : length o' ≡ length o
    part_length = ap length p.left ∙ (length-append (concat fits) (drop (length (concat fits)) o) ∙ omega (arith, part_few, length-drop (length (concat fits)) o))

    pub part_room : r.used ≤ length o'
    part_room = omega (arith, p.used, part_few, part_length)

    -- so many bytes of the text are the part's lines
    pub part_text : take r.used o' ≡ concat fits
    part_text = ap (λ (i : ℕ). take i o') p.used ∙ (ap (take (length (concat fits))) p.left ∙ take-append_seam (concat fits) (drop (length (concat fits)) o))

    -- and they continue the lines before
    pub part_continues : concat (take r.next ls) ≡ concat (take j ls) ++ take r.used o'
    part_continues =
        ap (λ (i : ℕ). concat (take i ls)) p.next
        ∙ (ap concat (take-add j (length fits) ls)
        ∙ (concat_append (take j ls) (take (length fits) (drop j ls))
        ∙ ap (λ (xs : List ℕ). concat (take j ls) ++ xs) (ap concat (sym (fitting_first (length o) (drop j ls))) ∙ sym part_text)))

    -- it is the last, so they are all
    pub part_ends : r.last ≡ true → concat ls ≡ concat (take j ls) ++ take r.used o'
    part_ends e = ap concat (sym (take_all r.next ls (leb_sound (length ls) r.next (sym p.last ∙ e)))) ∙ part_continues

    -- it is not the last, so lines are left, and it has one
    pub part_on : Every (λ (l : List ℕ). length l ≤ length o) ls → r.last ≡ false → (j < r.next) × (r.next ≤ length ls)
    part_on short e = go (le_or_lt (length ls) r.next)
      where
        go : (length ls ≤ r.next) ⊎ (r.next < length ls) → (j < r.next) × (r.next ≤ length ls)
        go (inl h) = clash (p.last ∙ leb_in (length ls) r.next h) e
        go (inr h) = let k = gets_on (length o) ls short j (omega (arith, p.next)) in (omega (arith, p.next), omega arith)

-- one line
pub part_one : {l o o' : List ℕ} {r : ℕ} → length l ≤ length o → Wrote o 0 l o' r → PartOf (l ∷ []) 0 o o' (record { used = r; next = 1; last = true })
part_one {l} {o} {o'} {r} h w =
    let z : fitting (length o) (l ∷ []) ≡ l ∷ [] = rw (leb_in (length l) (length o) h) in
    let y : concat (fitting (length o) (l ∷ [])) ≡ l = ap concat z ∙ append-nil l in
    record {
      used = omega (arith, w.end, ap length y);
      left = wrote_whole w ∙ sym (ap (λ (x : List ℕ). x ++ drop (length x) o) y);
      next = omega (arith, ap length z);
      last = refl;
    }

-- The formula's lines ----------------------------------------------------------------------------------------------------------------
never : {A : Type 0} {n : ℕ} {ns : List ℕ} → turned_down n ≡ taken ns → A
never e = let z : ◌≡◌ {A = ℕ} 0 1 = cc in absurd (omega arith)

values_same : {ms ns : List ℕ} → taken ms ≡ taken ns → ms ≡ ns
values_same e = cc

-- how many nodes, variables and clauses there are
abbrev counts : Table → List ℕ
counts T = nodes (root_place T) ∷ variables T ∷ length (formula T) ∷ []

module _ (file : List ℕ) (line : ℕ) (o : List ℕ) (room : 1024 ≤ length o) {n v m : ℕ} (checked : taken (n ∷ v ∷ m ∷ []) ≡ checking file) where
  handed : Handed file (λ T. []) counts true (n ∷ v ∷ m ∷ [])
  handed = asked_handed file (λ T. []) counts true checked

  abbrev T : Table
  T = handed.table

  count : m ≡ length (formula T)
  count = ap (λ (l : List ℕ). get_or l 2 0) handed.values

  all_lines : formula_lines file ≡ lines T
  all_lines = lines_accepted file handed.accepts

  asks : writing_formula file line o ≡ by_number (first_unmet (questions_of_line line T)) turned_down (taken (bytes_used T line (length o) ∷ next_line T line (length o) ∷ []))
  asks =
      asked_accepted file (questions_of_line line) turned_down (λ T. taken (bytes_used T line (length o) ∷ next_line T line (length o) ∷ [])) handed.accepts
      (leb_in 1024 (length o) room)

  leaves : formula_after file line o ≡ by_number (first_unmet (questions_of_line line T)) (λ n. o) (written T line (length o) ++ drop (bytes_used T line (length o)) o)
  leaves =
      asked_accepted file (questions_of_line line) (λ n. o) (λ T. written T line (length o) ++ drop (bytes_used T line (length o)) o) handed.accepts
      (leb_in 1024 (length o) room)

  -- the line is there, or it is not
  here : line ≤ length (formula T) → first_unmet (questions_of_line line T) ≡ 0
  here h = rw (leb_in line (length (formula T)) h)

  gone : length (formula T) < line → first_unmet (questions_of_line line T) ≡ 11
  gone h = rw (leb_no line (length (formula T)) h)

  pub lines_none : {q : ℕ} {o' : List ℕ} → turned_down q ≡ writing_formula file line o → o' ≡ formula_after file line o
      → PartOf (formula_lines file) line o o' (record { used = 0; next = line; last = true })
  lines_none {q} {o'} e d = go (le_or_lt line (length (formula T)))
    where
      go : (line ≤ length (formula T)) ⊎ (length (formula T) < line) → PartOf (formula_lines file) line o o' (record { used = 0; next = line; last = true })
      go (inl h) = never {ns = bytes_used T line (length o) ∷ next_line T line (length o) ∷ []} (e ∙ asks ∙ rw (here h))
      go (inr h) =
          let z : o' ≡ o = d ∙ leaves ∙ rw (gone h) in
          rw z (part_past (formula_lines file) line o (omega (arith, ap length all_lines, lines_count T)))

  pub lines_some : {k j : ℕ} {o' : List ℕ} → taken (k ∷ j ∷ []) ≡ writing_formula file line o → o' ≡ formula_after file line o
      → PartOf (formula_lines file) line o o' (record { used = k; next = j; last = ltb m j })
  lines_some {k} {j} {o'} e d = go (le_or_lt line (length (formula T)))
    where
      go : (line ≤ length (formula T)) ⊎ (length (formula T) < line) → PartOf (formula_lines file) line o o' (record { used = k; next = j; last = ltb m j })
      go (inr h) = never {n = 11} (sym (e ∙ asks ∙ rw (gone h)))
      go (inl h) =
          let y : ◌≡◌ {A = List ℕ} (k ∷ j ∷ []) (bytes_used T line (length o) ∷ next_line T line (length o) ∷ []) = values_same (e ∙ asks ∙ rw (here h)) in
          let z : length (formula_lines file) ≡ suc m = omega (arith, ap length all_lines, lines_count T, count) in
          subst (λ (ls : List (List ℕ)). length ls ≡ suc m → PartOf ls line o o' (record { used = k; next = j; last = ltb m j })) (sym all_lines)
          (λ w. record {
            used = ap (λ (l : List ℕ). get_or l 0 0) y;
            left = d ∙ leaves ∙ rw (here h);
            next = ap (λ (l : List ℕ). get_or l 1 0) y;
            last = sym (ap (λ (i : ℕ). leb i j) w);
          }) z

-- fewer lines are left behind a part that is not the last
pub formula_on : (file : List ℕ) (j : ℕ) {o o' : List ℕ} {r : Part} → 1024 ≤ length o → PartOf (formula_lines file) j o o' r → r.last ≡ false
    → length (formula_lines file) - r.next < length (formula_lines file) - j
formula_on file j {o} {o'} {r} h p e =
    let s = every_imp (λ (l : List ℕ). length l ≤ 1024) (λ (l : List ℕ). length l ≤ length o) (λ l k. omega arith) (formula_lines file) (lines_short file) in
    let k = part_on (formula_lines file) j o p s e in
    omega (arith, k.0, k.1)

-- a table that is turned down
pub lines_refused : (file : List ℕ) {q j : ℕ} {o o' : List ℕ} {r : Part} → turned_down q ≡ checking file → PartOf (refused_line q ∷ []) j o o' r → PartOf (formula_lines file) j o o' r
lines_refused file {q} {j} {o} {o'} {r} e p =
    subst (λ (ls : List (List ℕ)). PartOf ls j o o' r) (sym (asked_refused file (λ T. []) counts true (λ n. refused_line n ∷ []) lines e)) p

-- A procedure's text -------------------------------------------------------------------------------------------------------------------
module _ (file answer o : List ℕ) (room : 24576 ≤ length o) where
  abbrev length_of : Table → List ℕ
  length_of T = length (shown_answer file answer T) ∷ []

  asked_all : procedure_text file answer ≡ asked (enough_listing o) file (questions_of_answer answer) refused_line (shown_answer file answer)
  asked_all = ap (λ (b : Bool). asked b file (questions_of_answer answer) refused_line (shown_answer file answer)) (sym (leb_in 24576 (length o) room))

  pub procedure_refused : {q r : ℕ} {o' o'' : List ℕ} → turned_down q ≡ showing_answer file answer o → o' ≡ answer_listing_after file answer o
      → Wrote o' 0 (refused_line q) o'' r → Wrote o 0 (procedure_text file answer) o'' r
  procedure_refused {q} {r} {o'} {o''} e d w =
      let t = asked_all ∙ asked_refused file (questions_of_answer answer) length_of (enough_listing o) refused_line (shown_answer file answer) e in
      let z : o' ≡ o = d ∙ asked_refused file (questions_of_answer answer) length_of (enough_listing o) (λ n. o) (λ T. shown_answer file answer T ++ drop (length (shown_answer file answer T)) o) e in
      rw (t, ← z) w

  pub procedure_listed : {k : ℕ} {o' : List ℕ} → taken (k ∷ []) ≡ showing_answer file answer o → o' ≡ answer_listing_after file answer o
      → Wrote o 0 (procedure_text file answer) o' k
  procedure_listed {k} {o'} e d =
      let h = asked_handed file (questions_of_answer answer) length_of (enough_listing o) e in
      let T = h.table in
      let l = shown_answer file answer T in
      let t : procedure_text file answer ≡ l =
      asked_all ∙ asked_accepted file (questions_of_answer answer) refused_line (shown_answer file answer) h.accepts h.enough ∙ rw h.met in
      let z : o' ≡ l ++ drop (length l) o =
      d ∙ asked_accepted file (questions_of_answer answer) (λ n. o) (λ T. shown_answer file answer T ++ drop (length (shown_answer file answer T)) o) h.accepts h.enough ∙ rw h.met in
      let y : k ≡ length l = ap (λ (l : List ℕ). get_or l 0 0) h.values in
      let x : 0 + length l ≡ length l = omega arith in
      rw t (record { end = y ∙ sym x; text = z ∙ ap (λ (i : ℕ). l ++ drop i o) (sym x) })
