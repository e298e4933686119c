-- Questions 12 to 14, put to an answer that was read into cells, and the values then.
-- By what the reading of the answer says.
use mathlib.Core.Path.{◌≡◌, sym, ap, ◌∙◌, subst}
use mathlib.Core.Bool.{true}
use mathlib.Core.List.{List, [], ◌∷◌}
use Prim.Native.Nat.{ℕ, ◌≤◌}
use native.Mathlib.Omega.{arith}
use lib.ListN.{length, take}
use lib.Seq.{take-length, length-take-le}
use Rattle.lists.specs.Question.{first_unmet}
use Rattle.unmet.specs.declared.Unmet.{Unmet}
use Rattle.unmet.specs.Number.{number_of}
use Rattle.planning.specs.Table.{Table}
use Rattle.planning.specs.Variable.{variables}
use Rattle.planning.specs.Model.{Model, bits}
use Rattle.table.specs.Layout.{table_in}
use Rattle.tree.specs.declared.Count.{Count}
use Rattle.solver.specs.File.{answer_of}
use Rattle.solver.specs.Questions.{met12, met13, met14, numbers_said}
use Rattle.solver.specs.Scan.{Heard}
use Rattle.solver.proofs.Once.{truths_length}
use Rattle.solver.proofs.Reading.{heard_is}
use Rattle.cells.specs.Read.{Read}
use Rattle.questions.specs.Own.{Owned}
use Rattle.questions.proofs.Indexing.{acceptance}
use Rattle.answer.specs.Calls.{met15, answered, questions_of_answer}
use Rattle.answer.specs.Parts.{questions_heard}
use Rattle.answer.proofs.Bits.{bits_length}
use Rattle.answer.proofs.Questions.{unmet_three, met_three}

pub answered_length : (T : Table) (answer : List ℕ) → length (answered T answer) ≡ variables T
answered_length T answer = truths_length (variables T) (numbers_said (answer_of answer))

pub answered_model : (T : Table) (answer : List ℕ) → met15 T (answered T answer) ≡ true → Model T (answered T answer)
answered_model T answer e = record { whole = answered_length T answer; true_clauses = e }

-- What was read into as many cells as the table has variables
module _ {file table tree : List ℕ} {c : Count} {v : ℕ} (o : Owned file table tree c v) (answer cells : List ℕ) (l : length cells ≡ 8191) where
  abbrev T : Table
  T = table_in table

  count : length (take v cells) ≡ v
  count = length-take-le v cells (omega (arith, l, o.variables, (acceptance o).few_variables))

  module _ {cells' : List ℕ} {q : ℕ} (r : Read (length (take v cells)) answer cells' q) where
    heard : Heard (variables (table_in table)) answer cells' q
    heard = subst (λ (k : ℕ). Heard k answer cells' q) (count ∙ o.variables) (heard_is (length (take v cells)) answer cells' q r.question r.values)

    pub question : q ≡ first_unmet (questions_heard answer (table_in table))
    question = heard.question

    pub values : q ≡ 0 → length cells' ≡ length (take v cells) → cells' ≡ bits (answered (table_in table) answer)
    values z k = sym (take-length cells') ∙ ap (λ (n : ℕ). take n cells') (k ∙ count ∙ o.variables) ∙ heard.values z

-- no question has the number 0
pub not_0 : (q : Unmet) → number_of q ≡ 0 → ⊥
not_0 q e = grind arith

-- Which of 12 to 15 is the first that is not met
module _ (T : Table) (answer : List ℕ) where
  pub one_unmet : {q : ℕ} → q ≡ first_unmet (questions_heard answer T) → (q ≡ 0 → ⊥) → first_unmet (questions_of_answer answer T) ≡ q
  one_unmet e u = unmet_three (met12 answer) (met13 answer) (met14 (variables T) answer) (met15 T (answered T answer)) e u

  -- 15 is left
  pub three_met : 0 ≡ first_unmet (questions_heard answer T) → first_unmet (questions_of_answer answer T) ≡ first_unmet ((15, met15 T (answered T answer)) ∷ [])
  three_met e = met_three (met12 answer) (met13 answer) (met14 (variables T) answer) (met15 T (answered T answer)) e

  -- the values are as many as the table has variables
  pub values_length : {xs : List ℕ} → xs ≡ bits (answered T answer) → length xs ≡ variables T
  values_length e = ap length e ∙ bits_length (answered T answer) ∙ answered_length T answer
