-- What a table file is read as: the first of questions 2 to 7 that is not met, or the table and where its names stand.
-- Assumes nothing.
use Rattle.std.specs.Prelude.{Bool, List, [], ◌∷◌, map, ℕ, zero, suc, length}
use Rattle.lists.specs.Question.{first_unmet}
use Rattle.planning.specs.Table.{Table}
use Rattle.lines.specs.Parts.{lines_of}
use Rattle.lines.specs.Part.{Part, bytes_at}
use Rattle.grammar.specs.File.{met2, met3}
use Rattle.grammar.specs.Line.{name_in, start_in, depth_in}
use Rattle.outline.specs.Sections.{Sections, sections, start_line, root_line}
use Rattle.outline.specs.Names.{number_of, fact, step, job, declared}
use Rattle.outline.specs.Questions.{met4, met5, met6}
use Rattle.outline.specs.Part.{part_of}
use Rattle.rows.specs.Uses.{met7, facts_of}
use Rattle.rows.specs.Row.{read_step, read_method}

-- "Facts, steps, jobs and methods are each numbered from 0 in file order."
unfoldable pub read_table : Sections → Table
unfolding declared read_step read_method facts_of number_of start_in name_in depth_in
read_table p = record {
  facts = length p.facts;
  steps = map (λ l. read_step (declared p fact) l.bytes) p.steps;
  jobs = length p.jobs;
  methods = map (λ l. read_method (declared p step) (declared p job) l.bytes) p.methods;
  start = facts_of (declared p fact) (start_in (start_line p));
  root = number_of (declared p job) (name_in (root_line p));
  depth = depth_in (root_line p);
}

-- where the names of the facts, of the steps and of the jobs stand
pub record NameParts : Type 0 where
  pub facts : List Part
  pub steps : List Part
  pub jobs : List Part

-- "Each name shown is the part of the table file where it was declared": the name that stands at a part
abbrev pub name_at : (file : List ℕ) → Part → List ℕ
name_at file p = bytes_at file p

unfoldable pub name_parts_of : Sections → NameParts
unfolding part_of
name_parts_of p = record { facts = map part_of p.facts; steps = map part_of p.steps; jobs = map part_of p.jobs }

-- The verdict ----------------------------------------------------------------------------------------------------------------
-- "A table is accepted if 2 to 9 are met": one that has passed 2 to 7 is read, and 8 and 9 are put to what was read
pub data Reading : Type 0 where
  refused : ℕ → Reading
  passed : Table → NameParts → Reading

-- the refusal by question n, or, where no question is unmet, what was read
abbrev pub verdict : ℕ → Table → NameParts → Reading
verdict zero t ns = passed t ns
verdict (suc n) t ns = refused (suc n)

-- "Each is put to the whole file before the next."
unfoldable pub questions2to7 : List ℕ → List (ℕ × Bool)
unfolding met2 met3 met4 met5 met6 met7
questions2to7 s =
    let p = sections (lines_of s) in
    (2, met2 s) ∷ (3, met3 (lines_of s)) ∷ (4, met4 p) ∷ (5, met5 p) ∷ (6, met6 p) ∷ (7, met7 p) ∷ []

unfoldable pub reading : List ℕ → Reading
unfolding lines_of sections questions2to7 read_table name_parts_of
reading s = let p = sections (lines_of s) in verdict (first_unmet (questions2to7 s)) (read_table p) (name_parts_of p)
