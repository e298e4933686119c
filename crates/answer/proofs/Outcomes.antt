-- What the calls answer and leave, once 1 to 10 are met.
-- By the first question that is not met.
use mathlib.Core.Path.{◌≡◌, sym, ap, ◌∙◌, subst}
use mathlib.Core.Bool.{Bool, true, false, ◌&&◌}
use mathlib.Core.List.{List, [], ◌∷◌, ◌++◌}
use Prim.Native.Nat.{ℕ, ◌≤◌}
use native.Mathlib.Omega.{arith}
use lib.ListN.{length, drop}
use Rattle.std.specs.Prelude.{Result}
use Rattle.unmet.specs.declared.Unmet.{Unmet}
use Rattle.lists.specs.Question.{first_unmet}
use Rattle.lists.proofs.Bool.{leb_in}
use Rattle.planning.specs.Table.{Table}
use Rattle.planning.specs.Model.{bits, truths_in}
use Rattle.nodes.specs.Tree.{enough_tree, met10}
use Rattle.nodes.specs.declared.Node.{Node}
use Rattle.questions.specs.Questions.{accepted, accepting, HandedBack, turned_down, taken}
use Rattle.questions.proofs.Asked.{front_met, front_unmet, came_by, came_refused, came_met}
use Rattle.answer.specs.Calls.{enough_values, enough_listing, met15, answered, questions_of_answer, taking, values_after, listed_from}
use Rattle.answer.specs.Calls.{showing_answer, answer_listing_after}
use Rattle.answer.specs.Parts.{questions_heard, Showed}
use Rattle.answer.proofs.Answered.{three_met, values_length}
use Rattle.answer.proofs.Bits.{bits_back}

-- the values that were read are those of the answer
truths : (T : Table) (answer : List ℕ) {xs : List ℕ} → xs ≡ bits (answered T answer) → truths_in xs ≡ answered T answer
truths T answer e = ap truths_in e ∙ bits_back (answered T answer)

-- Taking an answer ---------------------------------------------------------------------------------------------------------------
module _ (file : List ℕ) {T : Table} (a : accepting file ≡ accepted T) (tree : List Node) (h : 1024 ≤ length tree) (t : met10 T tree ≡ true) (values : List ℕ)
    (k : 8191 ≤ length values) (answer : List ℕ) where
  enough : (enough_tree tree && enough_values values) ≡ true
  enough = rw (leb_in 1024 (length tree) h, leb_in 8191 (length values) k)

  abbrev Took : HandedBack → List ℕ → Type 0
  Took back values' = (back ≡ taking file tree answer values) × (values' ≡ values_after file tree answer values)

  pub take_refused : {q : ℕ} → first_unmet (questions_of_answer answer T) ≡ q → (q ≡ 0 → ⊥) → Took (turned_down q) values
  take_refused u n = came_refused _ _ _ _ _ _ enough a (front_met 10 (questions_of_answer answer T) t ∙ u) n

  -- the answer was read, and 15 was put to its values
  module _ (m : 0 ≡ first_unmet (questions_heard answer T)) {xs : List ℕ} (e : xs ≡ bits (answered T answer)) where
    said : met15 T (truths_in xs) ≡ met15 T (answered T answer)
    said = ap (λ (vs : List Bool). met15 T vs) (truths T answer e)

    pub take_unsatisfied : met15 T (truths_in xs) ≡ false → Took (turned_down 15) values
    take_unsatisfied f = take_refused (three_met T answer m ∙ front_unmet 15 [] (sym said ∙ f)) (λ z. omega arith)

    pub take_met : met15 T (truths_in xs) ≡ true → {ys : List ℕ} → ys ≡ xs → Took (taken (length xs ∷ [])) (ys ++ drop (length xs) values)
    take_met f y =
        let u : first_unmet (questions_of_answer answer T) ≡ 0 = three_met T answer m ∙ front_met 15 [] (sym said ∙ f) in
        rw (y, values_length T answer e, e) (came_met _ _ _ _ _ _ enough a (front_met 10 (questions_of_answer answer T) t ∙ u))

-- Listing an answer's procedure --------------------------------------------------------------------------------------------------
module _ (file : List ℕ) {T : Table} (a : accepting file ≡ accepted T) (answer text : List ℕ) (l : 24576 ≤ length text) where
  abbrev Listed : HandedBack → List ℕ → Type 0
  Listed back text' = (back ≡ showing_answer file answer text) × (text' ≡ answer_listing_after file answer text)

  pub show_refused : {q : ℕ} → first_unmet (questions_of_answer answer T) ≡ q → (q ≡ 0 → ⊥) → Listed (turned_down q) text
  show_refused u n = came_refused _ _ _ _ _ _ (leb_in 24576 (length text) l) a u n

  pub show_met : 0 ≡ first_unmet (questions_heard answer T) → {xs : List ℕ} → xs ≡ bits (answered T answer) → {r : Result ℕ Unmet} {text' : List ℕ}
      → Showed file T (truths_in xs) text text' r → Listed (listed_from r) text'
  show_met m {xs} e {r} {text'} s =
      let w : Showed file T (answered T answer) text text' r = subst (λ (v : List Bool). Showed file T v text text' r) (truths T answer e) s in
      came_by _ _ _ _ _ _ (leb_in 24576 (length text) l) a (rw (three_met T answer m) w.handed_back) (rw (three_met T answer m) w.left)
