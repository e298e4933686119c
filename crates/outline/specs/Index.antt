-- Inside the reader, nothing to believe: what the code keeps of a file, which is the texts of sections and the parts where names stand.
-- Contracts cite it; it follows from the definitions. Assumes nothing.
use Rattle.std.specs.Prelude.{◌≡◌, true, cond, List, ◌++◌, ℕ, map, ◌+◌, ◌≤◌, ◌<◌, length, get_or, take, drop, Option, Some, None}
use Rattle.std.specs.List.{All}
use Rattle.lists.specs.List.{all, take_while, drop_while}
use Rattle.planning.specs.Table.{most_facts, most_steps, most_jobs, most_methods}
use Rattle.lines.specs.Bytes.{LF}
use Rattle.lines.specs.Parts.{Piece, no_line, ended, placed, lines_of}
use Rattle.lines.specs.Part.{Part, bytes_at}
use Rattle.grammar.specs.Line.{F, S, T, byte_of, begins, name_in}
use Rattle.grammar.specs.Name.{Name}
use Rattle.outline.specs.Sections.{past, sections, start_line, root_line}
use Rattle.outline.specs.Names.{among, number_of, Kind, fact, step, job, task}
use Rattle.outline.specs.Part.{part_of}
use Rattle.outline.specs.Questions.{most_names, short, met4}
use Rattle.outline.specs.declared.Span.{Span}

-- the number of the name n among ns, where it is one of them
unfoldable pub number_in : List Name → Name → Option ℕ
unfolding among number_of
number_in ns n = cond (among ns n) (Some (number_of ns n)) None

-- how many names of a kind there may be
abbrev pub most_in : Kind → ℕ
most_in fact = most_facts
most_in step = most_steps
most_in job = most_jobs
most_in task = most_steps + most_jobs

-- the bytes of some lines
abbrev pub bytes_of : List Piece → List (List ℕ)
bytes_of ls = map (λ l. l.bytes) ls

-- the lines of f are those in front of the text t that begin with the byte c, and those of b the others; b stands behind f, and so do its
-- lines, wherever t stands. Left free, where b has no line: on which side the bytes stand that no LF ends
pub record Runs (c : ℕ) (t f b : List ℕ) : Type 0 where
  pub front : ended LF f ≡ take_while (begins c) (ended LF t)
  pub behind : ended LF b ≡ drop_while (begins c) (ended LF t)
  pub whole : t ≡ f ++ b
  pub lines : (k : ℕ) → placed k (ended LF t) ≡ placed k (ended LF f) ++ placed (k + length f) (ended LF b)

-- What questions 2 to 5, met, tell of a file: the counts of its F, S, T and M lines, the texts of the S and the M lines, the I and the R line,
-- all within the limits
pub record Shaped (s : List ℕ) (f st j m : ℕ) (ss ms i r : List ℕ) : Type 0 where
  pub facts : f ≡ length (sections (lines_of s)).facts
  pub steps : st ≡ length (sections (lines_of s)).steps
  pub jobs : j ≡ length (sections (lines_of s)).jobs
  pub methods : m ≡ length (sections (lines_of s)).methods
  pub step_lines : ended LF ss ≡ bytes_of (sections (lines_of s)).steps
  pub method_lines : ended LF ms ≡ bytes_of (sections (lines_of s)).methods
  pub start : i ≡ start_line (sections (lines_of s))
  pub root : r ≡ root_line (sections (lines_of s))
  pub few_facts : f ≤ most_facts
  pub few_steps : st ≤ most_steps
  pub few_jobs : j ≤ most_jobs
  pub few_methods : m ≤ most_methods
  pub bodies : all short (sections (lines_of s)).methods ≡ true
  pub ends : met4 (sections (lines_of s)) ≡ true

-- the lines from the place a on: all of them for a = 0
unfoldable pub lines_from : List ℕ → ℕ → List Piece
unfolding ended placed
lines_from s a = placed a (ended LF (drop a s))

-- and of the places in it: the texts of the F, the S, the T and the M lines stand in front, one behind the other, so that the S lines, the T
-- lines, the M lines and the last lines begin each where the text before ends
pub record SectionsStand (s fs ss ts ms : List ℕ) : Type 0 where
  pub texts : take (length fs + length ss + length ts + length ms) s ≡ fs ++ (ss ++ (ts ++ ms))
  pub fact_lines : ended LF fs ≡ bytes_of (sections (lines_of s)).facts
  pub job_lines : ended LF ts ≡ bytes_of (sections (lines_of s)).jobs
  pub steps : lines_from s (length fs) ≡ past (byte_of F) (lines_of s)
  pub jobs : lines_from s (length fs + length ss) ≡ past (byte_of S) (past (byte_of F) (lines_of s))
  pub methods : lines_from s (length fs + length ss + length ts) ≡ past (byte_of T) (past (byte_of S) (past (byte_of F) (lines_of s)))
  pub ends : lines_from s (length fs + length ss + length ts + length ms) ≡ (sections (lines_of s)).ends

-- past the last of some spans
abbrev pub no_span : Span
no_span = record { start = 0; size = 0 }

-- as a part
abbrev pub part_in : Span → Part
part_in p = record { start = p.start; size = p.size }

-- each span lies in the file
abbrev pub Within : List ℕ → List Span → Type 0
Within s ps = All (λ p. p.start + p.size ≤ length s) ps

-- the bytes that a span shows
abbrev pub shown : List ℕ → Span → List ℕ
shown s p = bytes_at s (part_in p)

abbrev pub all_shown : List ℕ → List Span → List (List ℕ)
all_shown s ps = map (shown s) ps

-- the name of the line l stands in the span p
pub record Entry (s : List ℕ) (l : Piece) (p : Span) : Type 0 where
  pub start : p.start ≡ (part_of l).start
  pub size : p.size ≡ (part_of l).size
  pub high : p.start + p.size ≤ length s
  pub shown : shown s p ≡ name_in l.bytes

-- the first k spans are those of the names of the first k lines. Left free: those past k
pub record Held (s : List ℕ) (ps : List Span) (k : ℕ) : Type 0 where
  pub at : (i : ℕ) → i < k → Entry s (get_or (lines_of s) i no_line) (get_or ps i no_span)

-- the names of f facts, st steps and j jobs are all held, and there is room for them
pub record Indexed (s : List ℕ) (f st j : ℕ) (ps : List Span) : Type 0 where
  pub facts : f ≡ length (sections (lines_of s)).facts
  pub steps : st ≡ length (sections (lines_of s)).steps
  pub jobs : j ≡ length (sections (lines_of s)).jobs
  pub few : f + st + j ≤ most_names
  pub held : Held s ps (f + st + j)
