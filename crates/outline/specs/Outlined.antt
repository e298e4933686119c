-- Inside the reader, nothing to believe: the questions that an outline answers, and the kinds of the code. Contracts cite it; it follows from
-- the definitions. Assumes nothing.
use Rattle.std.specs.Prelude.{Bool, List, [], ◌∷◌, ◌++◌, ℕ}
use Rattle.lines.specs.Parts.{lines_of}
use Rattle.outline.specs.Sections.{sections}
use Rattle.outline.specs.Names.{Kind, fact, step, job, task}
use Rattle.grammar.specs.File.{met2, met3}
use Rattle.outline.specs.Questions.{met4, met5, met6}
use Rattle.outline.specs.declared.Kind.{Kind as KindWanted}
use Rattle.outline.specs.declared.Kind.TheVariants.{Fact, Step, Job, Task}

-- the kind that the code names
abbrev pub kind_of : KindWanted → Kind
kind_of Fact = fact
kind_of Step = step
kind_of Job = job
kind_of Task = task

-- the questions that are put before the names are looked at
unfoldable pub questions2to5 : List ℕ → List (ℕ × Bool)
unfolding met2 met3 met4 met5 lines_of sections
questions2to5 s = let p = sections (lines_of s) in (2, met2 s) ∷ (3, met3 (lines_of s)) ∷ (4, met4 p) ∷ (5, met5 p) ∷ []

unfoldable pub questions2to6 : List ℕ → List (ℕ × Bool)
unfolding questions2to5 met6
questions2to6 s = questions2to5 s ++ ((6, met6 (sections (lines_of s))) ∷ [])
