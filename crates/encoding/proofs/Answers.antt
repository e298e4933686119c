-- Question 11, the lines of a text call, and what comes of the questions in front of 11.
-- By how many clauses there are; by the definition of `asked`.
use mathlib.Core.Path.{◌≡◌, sym, ap₂, ◌∙◌}
use mathlib.Core.List.{List, [], ◌∷◌, ◌++◌}
use Prim.Native.Nat.{ℕ, ◌≤◌, ◌<◌}
use native.Mathlib.Omega.{arith}
use lib.ListN.{length, drop}
use Rattle.std.specs.Prelude.{Result, Ok, Err}
use Rattle.unmet.specs.declared.Unmet.{Unmet}
use Rattle.unmet.specs.declared.Unmet.TheVariants.{Room, Line}
use Rattle.unmet.specs.Number.{number_of}
use Rattle.lists.specs.Question.{first_unmet}
use Rattle.lists.proofs.Bool.{leb_in, leb_no}
use Rattle.lists.proofs.Written.{wrote_whole}
use Rattle.planning.specs.Table.{Table}
use Rattle.planning.specs.Clause.{formula}
use Rattle.planning.specs.Text.{written, bytes_used, next_line}
use Rattle.text.specs.Lines.{PutText}
use Rattle.text.specs.declared.Lines.{Lines}
use Rattle.questions.specs.Questions.{unmet, accepting, taken}
use Rattle.questions.proofs.Asked.{came_short, came_unmet}
use Rattle.encoding.specs.Calls.{enough_text, text_from, questions_of_line, writing_formula, formula_after}
use Rattle.encoding.specs.Parts.{Lined}

module _ (T : Table) (line : ℕ) {o : List ℕ} where
  pub past_last_line : {k : ℕ} → k ≡ length (formula T) → k < line → Lined T line o o (Err Line)
  past_last_line {k} q h =
      let f : first_unmet (questions_of_line line T) ≡ 11 = rw (leb_no line (length (formula T)) (omega (arith, q))) in
      record { answer = sym (rw f); left = sym (rw f) }

  pub lined : {k : ℕ} {o' : List ℕ} {l : Lines} → k ≡ length (formula T) → line ≤ k → PutText T line o o' l → Lined T line o o' (Ok l)
  lined {k} {o'} {l} q h p =
      let f : first_unmet (questions_of_line line T) ≡ 0 = rw (leb_in line (length (formula T)) (omega (arith, q))) in
      let u : l.used ≡ bytes_used T line (length o) = omega (arith, p.text.end) in
      record {
        answer = ap₂ (λ (a b : ℕ). taken (a ∷ b ∷ [])) u p.next ∙ sym (rw f);
        left = wrote_whole p.text ∙ sym (rw f);
      }

-- With no tree lent: what a short buffer hands back and leaves, and one of 2 to 9 that is not met -------------------------------
module _ (file : List ℕ) (line : ℕ) (text : List ℕ) where
  abbrev OutcomeAlone : Result Lines Unmet → List ℕ → Type 0
  OutcomeAlone r text' = (text_from r ≡ writing_formula file line text) × (text' ≡ formula_after file line text)

  abbrev answers : Table → List ℕ
  answers T = bytes_used T line (length text) ∷ next_line T line (length text) ∷ []

  abbrev left : Table → List ℕ
  left T = written T line (length text) ++ drop (bytes_used T line (length text)) text

  pub formula_short : length text < 1024 → OutcomeAlone (Err Room) text
  formula_short h = came_short (enough_text text) file (questions_of_line line) answers text left (leb_no 1024 (length text) h)

  pub formula_unmet : 1024 ≤ length text → (q : Unmet) → accepting file ≡ unmet (number_of q) → OutcomeAlone (Err q) text
  formula_unmet k q a = came_unmet (enough_text text) file (questions_of_line line) answers text left (leb_in 1024 (length text) k) a
