-- The calls that take an answer and list a procedure: what each hands back and leaves in what it was lent, for every file, every tree,
-- every answer and every buffer. Assumes nothing.
use Rattle.std.specs.Prelude.{Bool, ◌&&◌, List, [], ◌∷◌, ◌++◌, ℕ, leb, length, take, drop, Result}
use Rattle.std.proofs.Math.Option.{Option, none, some}
use Rattle.lists.specs.List.{all}
use Rattle.unmet.specs.declared.Unmet.{Unmet}
use Rattle.planning.specs.Table.{Table}
use Rattle.planning.specs.Tree.{Tree}
use Rattle.planning.specs.Variable.{variables}
use Rattle.planning.specs.Clause.{formula}
use Rattle.planning.specs.Model.{value, satisfies, given, bits, truths_in}
use Rattle.nodes.specs.Tree.{enough_tree, met10}
use Rattle.nodes.specs.declared.Node.{Node}
use Rattle.solver.specs.Questions.{met12, met13, met14, values_of}
use Rattle.listing.specs.Listing.{Names, shown_names, listing}
use Rattle.questions.specs.Questions.{names_of, asked, HandedBack, turned_down, taken, handed}

-- 1. "Are lent buffers long enough: .. 8,191 for values, 24,576 for a listing?"
abbrev pub enough_values : List ℕ → Bool
enough_values values = leb 8191 (length values)

abbrev pub enough_listing : List ℕ → Bool
enough_listing text = leb 24576 (length text)

-- 15. "Is every clause satisfied?" (8 and 9 stand in crate `questions`, 2 to 7 in `table`, 1 of the tree and 10 in `nodes`, 12 to 14 of an answer
-- file in `solver`.)
abbrev pub met15 : Table → List Bool → Bool
met15 T vs = satisfies (value vs) (formula T)

-- Taking an answer: 1, 2 to 9, 10, 12 to 15 ----------------------------------------------------------------------------------------
abbrev pub taken_from : Result ℕ Unmet → HandedBack
taken_from r = handed (λ n. n ∷ []) r

-- the values that an answer gives a table's variables
abbrev pub answered : Table → List ℕ → List Bool
answered T answer = values_of (variables T) answer

abbrev pub questions_of_answer : (answer : List ℕ) → Table → List (ℕ × Bool)
questions_of_answer answer T = (12, met12 answer) ∷ (13, met13 answer) ∷ (14, met14 (variables T) answer) ∷ (15, met15 T (answered T answer)) ∷ []

abbrev pub questions_taking : (tree : List Node) (answer : List ℕ) → Table → List (ℕ × Bool)
questions_taking tree answer T = (10, met10 T tree) ∷ questions_of_answer answer T

-- it hands back how many values there are
abbrev pub taking : (file : List ℕ) (tree : List Node) (answer values : List ℕ) → HandedBack
taking file tree answer values =
    asked (enough_tree tree && enough_values values) file (questions_taking tree answer) turned_down (λ T. taken (variables T ∷ []))

-- "An answer taken leaves variable j's value at place j of the values, counted from 1: 1 if true, 0 if false"; the others keep their
-- contents
abbrev pub values_after : (file : List ℕ) (tree : List Node) (answer values : List ℕ) → List ℕ
values_after file tree answer values =
    asked (enough_tree tree && enough_values values) file (questions_taking tree answer) (λ n. values)
    (λ T. bits (answered T answer) ++ drop (variables T) values)

-- Listing a procedure: 1, 2 to 9, 10, 14, 15 ---------------------------------------------------------------------------------------
abbrev pub listed_from : Result ℕ Unmet → HandedBack
listed_from r = handed (λ n. n ∷ []) r

-- "Where values are lent in place of an answer file": only the table's own variables are looked at
abbrev pub own : Table → List ℕ → List ℕ
own T values = take (variables T) values

-- 14. ".. is each variable's value 0 or 1?"
abbrev pub lent14 : Table → List ℕ → Bool
lent14 T values = all (λ v. leb v 1) (own T values)

abbrev pub lent : Table → List ℕ → List Bool
lent T values = truths_in (own T values)

abbrev pub questions_listing : (tree : List Node) (values : List ℕ) → Table → List (ℕ × Bool)
questions_listing tree values T = (10, met10 T tree) ∷ (14, lent14 T values) ∷ (15, met15 T (lent T values)) ∷ []

-- the listing of the tree that values give; values that meet 14 and 15 give one
abbrev pub listing_of : Names → Option Tree → List ℕ
listing_of N none = []
listing_of N (some t) = listing N t

abbrev pub listing_for : (file : List ℕ) → Table → List Bool → List ℕ
listing_for file T vs = listing_of (shown_names file (names_of file)) (given T vs)

abbrev pub shown : (file values : List ℕ) → Table → List ℕ
shown file values T = listing_for file T (lent T values)

-- it hands back how many bytes are used
abbrev pub showing : (file : List ℕ) (tree : List Node) (values text : List ℕ) → HandedBack
showing file tree values text =
    asked (enough_tree tree && (enough_values values && enough_listing text)) file (questions_listing tree values) turned_down
    (λ T. taken (length (shown file values T) ∷ []))

-- later bytes keep their contents
abbrev pub listing_after : (file : List ℕ) (tree : List Node) (values text : List ℕ) → List ℕ
listing_after file tree values text =
    asked (enough_tree tree && (enough_values values && enough_listing text)) file (questions_listing tree values) (λ n. text)
    (λ T. shown file values T ++ drop (length (shown file values T)) text)

-- Listing the procedure of an answer, with no tree and no values lent, so that 10 is not put: 1 of the listing, 2 to 9, 12 to 15 -------
abbrev pub shown_answer : (file answer : List ℕ) → Table → List ℕ
shown_answer file answer T = listing_for file T (answered T answer)

abbrev pub showing_answer : (file answer text : List ℕ) → HandedBack
showing_answer file answer text =
    asked (enough_listing text) file (questions_of_answer answer) turned_down (λ T. taken (length (shown_answer file answer T) ∷ []))

abbrev pub answer_listing_after : (file answer text : List ℕ) → List ℕ
answer_listing_after file answer text =
    asked (enough_listing text) file (questions_of_answer answer) (λ n. text)
    (λ T. shown_answer file answer T ++ drop (length (shown_answer file answer T)) text)
