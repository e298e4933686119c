-- Inside the reader, nothing to believe: what the answers of its functions mean. Contracts cite it; it follows from the definitions.
-- Assumes nothing.
use Rattle.std.specs.Prelude.{◌≡◌, Bool, true, false, List, [], ℕ, ◌+◌, ◌*◌, ◌<◌, length, get_or, Result, Ok, Err}
use Rattle.unmet.specs.declared.Unmet.{Unmet}
use Rattle.unmet.specs.declared.Unmet.TheVariants.{Declared}
use Rattle.bitset.specs.Set.{members}
use Rattle.lines.specs.Parts.{lines_of}
use Rattle.grammar.specs.Name.{Name}
use Rattle.grammar.specs.Line.{name_in, body_in, start_in, depth_in}
use Rattle.outline.specs.Sections.{Sections, sections, start_line, root_line}
use Rattle.outline.specs.Names.{number_of, fact, job, declared}
use Rattle.outline.specs.declared.Outline.{Outline}
use Rattle.rows.specs.Uses.{are_facts, uses_facts, facts_of}
use Rattle.rows.specs.Row.{read_step}
use Rattle.rows.specs.Words.{fact_words, step_words, method_words, step_at}
use Rattle.rows.specs.declared.Ends.{Ends}

-- the sections of the file outlined
abbrev pub sections_of : Outline → Sections
sections_of o = sections (lines_of o.shape.file.now)

-- Question 7, put to what is read: where it is met, what P says of the value; where not, the answer is that question
abbrev pub Asked : {A : Type 0} → (met : Bool) → (P : A → Type 0) → Result A Unmet → Type 0
Asked met P (Ok x) = (met ≡ true) × P x
Asked met P (Err q) = (met ≡ false) × (q ≡ Declared)

-- a list of facts as a set, in n words
pub record FactsMean (n : ℕ) (facts ns : List Name) (ws : List ℕ) : Type 0 where
  pub set : members ws ≡ facts_of facts ns
  pub wide : length ws ≡ n

-- the step of an S line, in the words from place k on; the steps of some S lines, one after the other.
-- Left free: the words of a line that does not meet question 7, and all behind the last line's
pub record StepStands (facts : List Name) (line : List ℕ) (k : ℕ) (o : List ℕ) : Type 0 where
  pub step : step_at o k ≡ read_step facts line

pub record StepsStand (facts : List Name) (lines : List (List ℕ)) (o : List ℕ) : Type 0 where
  pub stands : (i : ℕ) → i < length lines → uses_facts facts (get_or lines i []) ≡ true → StepStands facts (get_or lines i []) (step_words * i) o

-- a list of tasks by their numbers. Left free: the places behind the last task
pub record BodyStands (tasks ns : List Name) (o : List ℕ) : Type 0 where
  pub task : (j : ℕ) → j < length ns → get_or o j 0 ≡ number_of tasks (get_or ns j [])

-- an M line in the words from place k on: its job, the size of its body and its tasks, by their numbers
pub record MethodStands (jobs tasks : List Name) (line : List ℕ) (k : ℕ) (o : List ℕ) : Type 0 where
  pub job : get_or o k 0 ≡ number_of jobs (name_in line)
  pub size : get_or o (k + 1) 0 ≡ length (body_in line)
  pub task : (j : ℕ) → j < length (body_in line) → get_or o (k + 2 + j) 0 ≡ number_of tasks (get_or (body_in line) j [])

-- the methods of some M lines, one after the other. Left free: the places behind a body's last task, and all behind the last line's
pub record MethodsStand (jobs tasks : List Name) (lines : List (List ℕ)) (o : List ℕ) : Type 0 where
  pub stands : (i : ℕ) → i < length lines → MethodStands jobs tasks (get_or lines i []) (method_words * i) o

-- the I line and the R line, where they meet question 7
pub record EndsMean (p : Sections) (e : Ends) : Type 0 where
  pub start : FactsMean fact_words (declared p fact) (start_in (start_line p)) e.start
  pub root : e.root ≡ number_of (declared p job) (name_in (root_line p))
  pub depth : e.depth ≡ depth_in (root_line p)

-- and whether or not they do. Left free: the words of the start, where its list does not meet question 7
pub record EndsStand (p : Sections) (e : Ends) : Type 0 where
  pub set : are_facts (declared p fact) (start_in (start_line p)) ≡ true → members e.start ≡ facts_of (declared p fact) (start_in (start_line p))
  pub wide : length e.start ≡ fact_words
  pub root : e.root ≡ number_of (declared p job) (name_in (root_line p))
  pub depth : e.depth ≡ depth_in (root_line p)
