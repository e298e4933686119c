-- The calls of the formula part: what each hands back and leaves in what it was lent, for every file, every buffer and every line.
-- Assumes nothing.
use Rattle.std.specs.Prelude.{Bool, true, ◌&&◌, List, [], ◌∷◌, ◌++◌, ℕ, leb, length, drop, Result}
use Rattle.unmet.specs.declared.Unmet.{Unmet}
use Rattle.planning.specs.Table.{Table}
use Rattle.planning.specs.Place.{root_place, nodes}
use Rattle.planning.specs.Variable.{variables}
use Rattle.planning.specs.Clause.{formula}
use Rattle.planning.specs.Text.{written, bytes_used, next_line}
use Rattle.nodes.specs.Tree.{tree_of, enough_tree, met10}
use Rattle.nodes.specs.declared.Node.{Node}
use Rattle.text.specs.declared.Lines.{Lines}
use Rattle.questions.specs.Questions.{asked, HandedBack, turned_down, taken, handed}
use Rattle.encoding.specs.declared.Counts.{Counts}

-- 11. "Is the line asked for at most the clause count?" (8 and 9 stand in crate `questions`, 2 to 7 in `table`, 1 of the tree and 10 in `nodes`,
-- beside the form of the records.)
abbrev pub met11 : Table → ℕ → Bool
met11 T line = leb line (length (formula T))

-- 1. "Are lent buffers long enough: .. 1,024 bytes for text ..?"
abbrev pub enough_text : List ℕ → Bool
enough_text text = leb 1024 (length text)

-- Checking a table: 2 to 9; how many nodes, variables and clauses there are
abbrev pub checked_from : Result Counts Unmet → HandedBack
checked_from r = handed (λ c. c.nodes ∷ c.variables ∷ c.clauses ∷ []) r

abbrev pub checking : (file : List ℕ) → HandedBack
checking file = asked true file (λ T. []) turned_down (λ T. taken (nodes (root_place T) ∷ variables T ∷ length (formula T) ∷ []))

-- Building the tree: 1, 2 to 9; how many nodes there are. The first records are the table's, the others keep their contents
abbrev pub built_from : Result ℕ Unmet → HandedBack
built_from r = handed (λ n. n ∷ []) r

abbrev pub building : (file : List ℕ) (tree : List Node) → HandedBack
building file tree = asked (enough_tree tree) file (λ T. []) turned_down (λ T. taken (nodes (root_place T) ∷ []))

abbrev pub tree_after : (file : List ℕ) (tree : List Node) → List Node
tree_after file tree =
    asked (enough_tree tree) file (λ T. []) (λ n. tree) (λ T. tree_of T ++ drop (length (tree_of T)) tree)

-- Writing text: 1, 2 to 9, 10, 11; "it returns the bytes used and the next line. Later bytes of the buffer keep their contents"
abbrev pub text_from : Result Lines Unmet → HandedBack
text_from r = handed (λ l. l.used ∷ l.next ∷ []) r

abbrev pub questions_of_line : (line : ℕ) → Table → List (ℕ × Bool)
questions_of_line line T = (11, met11 T line) ∷ []

abbrev pub questions_writing : (tree : List Node) (line : ℕ) → Table → List (ℕ × Bool)
questions_writing tree line T = (10, met10 T tree) ∷ questions_of_line line T

abbrev pub writing : (file : List ℕ) (tree : List Node) (line : ℕ) (text : List ℕ) → HandedBack
writing file tree line text =
    asked (enough_tree tree && enough_text text) file (questions_writing tree line) turned_down
    (λ T. taken (bytes_used T line (length text) ∷ next_line T line (length text) ∷ []))

abbrev pub text_after : (file : List ℕ) (tree : List Node) (line : ℕ) (text : List ℕ) → List ℕ
text_after file tree line text =
    asked (enough_tree tree && enough_text text) file (questions_writing tree line) (λ n. text)
    (λ T. written T line (length text) ++ drop (bytes_used T line (length text)) text)

-- The same with no tree lent, so that 10 is not put: 1 of the text, 2 to 9, 11
abbrev pub writing_formula : (file : List ℕ) (line : ℕ) (text : List ℕ) → HandedBack
writing_formula file line text =
    asked (enough_text text) file (questions_of_line line) turned_down
    (λ T. taken (bytes_used T line (length text) ∷ next_line T line (length text) ∷ []))

abbrev pub formula_after : (file : List ℕ) (line : ℕ) (text : List ℕ) → List ℕ
formula_after file line text =
    asked (enough_text text) file (questions_of_line line) (λ n. text)
    (λ T. written T line (length text) ++ drop (bytes_used T line (length text)) text)
