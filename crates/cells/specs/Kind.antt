-- Inside the reader of an answer, nothing to believe: the lines of an answer file by their kind. `line_of` of crate `solver` is the meaning.
-- 99, 115 and 118 are c, s and v; 32 is a space. Assumes nothing.
use Rattle.std.specs.Prelude.{◌≡◌, Bool, true, false, cond, List, [], ◌∷◌, ◌⊎◌, ℕ, eqb, Option, Some, None}
use Rattle.lines.specs.Bytes.{same_bytes}
use Rattle.lines.specs.Parts.{split}
use Rattle.solver.specs.Number.{numbers_of}
use Rattle.solver.specs.Line.{Word as SolverWord, satisfiable, unsatisfiable, unknown, Line, comment, says, unformed, word_line, numbers_line, line_of}
use Rattle.solver.specs.Line.{SATISFIABLE, UNSATISFIABLE, UNKNOWN}
use Rattle.cells.specs.declared.kind.Kind.{Kind}
use Rattle.cells.specs.declared.kind.Kind.TheVariants.{Comment, Word as WordKind, Values, Other as OtherKind}
use Rattle.cells.specs.declared.kind.Word.{Word}
use Rattle.cells.specs.declared.kind.Word.TheVariants.{Satisfiable, Other}

-- by the letter, where a space stands behind it
abbrev pub lettered : ℕ → Kind
lettered b = cond (eqb b 99) Comment (cond (eqb b 115) WordKind (cond (eqb b 118) Values OtherKind))

-- `c` alone; or a letter, a space and more
abbrev pub kind : List ℕ → Kind
kind [] = OtherKind
kind (b ∷ []) = cond (eqb b 99) Comment OtherKind
kind (b ∷ d ∷ more) = cond (eqb d 32) (lettered b) OtherKind

-- what stands behind the letter and the space
abbrev pub behind_space : List ℕ → List ℕ
behind_space [] = []
behind_space (b ∷ []) = []
behind_space (b ∷ d ∷ more) = more

-- the meaning of each kind: the line that it is, with what stands behind the letter and the space
abbrev pub line_from : Kind → (more : List ℕ) → Line
line_from Comment more = comment
line_from WordKind more = word_line more
line_from Values more = numbers_line (numbers_of (split 32 more))
line_from OtherKind more = unformed

pub record IsKind (l : List ℕ) (r : Kind) : Type 0 where
  pub is : r ≡ kind l
  pub means : line_from r (behind_space l) ≡ line_of l

abbrev pub comment_kind : Kind → Bool
comment_kind Comment = true
comment_kind WordKind = false
comment_kind Values = false
comment_kind OtherKind = false

abbrev pub is_comment : List ℕ → Bool
is_comment l = comment_kind (kind l)

-- the meaning of each word: what a line says
abbrev pub Says : Option Word → Line → Type 0
Says (Some Satisfiable) l = l ≡ says satisfiable
Says (Some Other) l = (l ≡ says unsatisfiable) ⊎ (l ≡ says unknown)
Says None l = (w : SolverWord) → l ≡ says w → ⊥

-- the word in these bytes
abbrev pub word_in : List ℕ → Option Word
word_in bs =
    cond (same_bytes bs SATISFIABLE) (Some Satisfiable) (cond (same_bytes bs UNSATISFIABLE) (Some Other) (cond (same_bytes bs UNKNOWN) (Some Other) None))

abbrev pub word_by : Kind → List ℕ → Option Word
word_by Comment bs = None
word_by WordKind bs = word_in bs
word_by Values bs = None
word_by OtherKind bs = None

-- the word of an `s` line
abbrev pub word_of : List ℕ → Option Word
word_of l = word_by (kind l) (behind_space l)

pub record IsWordIn (bs : List ℕ) (r : Option Word) : Type 0 where
  pub is : r ≡ word_in bs
  pub means : Says r (word_line bs)

pub record IsWord (l : List ℕ) (r : Option Word) : Type 0 where
  pub is : r ≡ word_of l
  pub means : Says r (line_of l)
