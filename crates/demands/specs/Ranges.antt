-- Which numbers the C functions may return, as include/curdfuture.h has them. The statement alone; proofs/Ranges proves it.
-- Assumes nothing.
use Rattle.std.specs.Prelude.{◌≡◌, List, ◌↔◌, ◌⊎◌, ℕ, ◌≤◌}
use Rattle.nodes.specs.declared.Node.{Node}
use Rattle.questions.specs.Questions.{HandedBack, turned_down, taken}
use Rattle.encoding.specs.Calls.{checking, building, writing, writing_formula}
use Rattle.answer.specs.Calls.{taking, showing, showing_answer}
use Rattle.curdfuture.specs.Numbers.{question_of}

-- from a to b
abbrev pub Within : (a b n : ℕ) → Type 0
Within a b n = (a ≤ n) × (n ≤ b)

-- a call turns down by these numbers alone, none of which is 0: so 0 is returned exactly if it handed back values
pub record Turns (h : HandedBack) (By : ℕ → Type 0) : Type 0 where
  pub numbers : (n : ℕ) → h ≡ turned_down n → By n
  pub zero : (question_of h ≡ 0) ↔ ((ns : List ℕ) × (h ≡ taken ns))

pub record Ranges : Type 0 where
  pub check : (file : List ℕ) → Turns (checking file) (Within 2 9)
  pub build : (file : List ℕ) (tree : List Node) → Turns (building file tree) (Within 1 9)
  pub write_text : (file : List ℕ) (tree : List Node) (line : ℕ) (text : List ℕ) → Turns (writing file tree line text) (Within 1 11)
  pub write_formula : (file : List ℕ) (line : ℕ) (text : List ℕ) → Turns (writing_formula file line text) (λ n. Within 1 9 n ⊎ (n ≡ 11))
  pub take_answer : (file : List ℕ) (tree : List Node) (answer values : List ℕ)
      → Turns (taking file tree answer values) (λ n. Within 1 10 n ⊎ Within 12 15 n)
  pub list_procedure : (file : List ℕ) (tree : List Node) (values text : List ℕ)
      → Turns (showing file tree values text) (λ n. Within 1 10 n ⊎ Within 14 15 n)
  pub list_answer : (file answer text : List ℕ) → Turns (showing_answer file answer text) (λ n. Within 1 9 n ⊎ Within 12 15 n)
