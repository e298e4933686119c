-- Questions 4, 5 and 6, put to a whole file.
-- Assumes nothing.
use Rattle.std.specs.Prelude.{Bool, ◌&&◌, ℕ, ◌+◌, leb, length}
use Rattle.lists.specs.List.{all}
use Rattle.planning.specs.Table.{most_facts, most_steps, most_jobs, most_methods, most_in_body}
use Rattle.lines.specs.Parts.{Piece}
use Rattle.grammar.specs.Line.{body_in}
use Rattle.outline.specs.Sections.{Sections, is_end}
use Rattle.outline.specs.Names.{all_new, all_declared}

-- facts, steps and jobs have names
abbrev pub most_names : ℕ
most_names = most_facts + most_steps + most_jobs

-- "4. Is the line order kept?" The F, S, T and M lines are taken off the front in that order, so what is left must be the I and the R line.
unfoldable pub met4 : Sections → Bool
unfolding is_end
met4 p = is_end p.ends

-- "At most 64 facts, 64 steps, 64 jobs, 128 methods, 8 names in a body.": of the counts of lines
abbrev pub within_counts : (facts steps jobs methods : ℕ) → Bool
within_counts f s j m = leb f most_facts && (leb s most_steps && (leb j most_jobs && leb m most_methods))

-- and of the names in the body of an M line
unfoldable pub short : Piece → Bool
unfolding body_in
short l = leb (length (body_in l.bytes)) most_in_body

-- "5. Are the counts within the limits?"
unfoldable pub met5 : Sections → Bool
unfolding short
met5 p = within_counts (length p.facts) (length p.steps) (length p.jobs) (length p.methods) && all short p.methods

-- "6. Is every declared name new over facts, steps and jobs together?"
unfoldable pub met6 : Sections → Bool
unfolding all_declared all_new
met6 p = all_new (all_declared p)
