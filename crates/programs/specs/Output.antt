-- What programs `formula` and `procedure` write: document 01, "One file through both programs".
-- Assumes nothing.
use Rattle.std.specs.Prelude.{true, List, [], ◌∷◌, ◌++◌, ℕ}
use Rattle.lists.specs.List.{concat}
use Rattle.lists.specs.Text.{bytes}
use Rattle.planning.specs.Text.{decimal, lines}
use Rattle.questions.specs.Questions.{asked}
use Rattle.answer.specs.Calls.{questions_of_answer, shown_answer}

-- "When turned down, either program writes only `refused`, a tab, the number and LF."
abbrev pub refused_line : ℕ → List ℕ
refused_line n = bytes "refused\t" ++ (decimal n ++ (10 ∷ []))

-- "Program `formula` reads this table from standard input .. and writes": the formula's lines, or that one
abbrev pub formula_lines : (file : List ℕ) → List (List ℕ)
formula_lines file = asked true file (λ T. []) (λ n. refused_line n ∷ []) lines

abbrev pub formula_text : (file : List ℕ) → List ℕ
formula_text file = concat (formula_lines file)

-- "With that as `table.tab` and `answer.txt` of .., program `procedure` writes": the listing, or that line
abbrev pub procedure_text : (file answer : List ℕ) → List ℕ
procedure_text file answer = asked true file (questions_of_answer answer) refused_line (shown_answer file answer)
