-- Order, limits and declared names, around their edges.
-- Each is computed.
use mathlib.Core.Path.{◌≡◌, refl}
use mathlib.Core.Bool.{false}
use mathlib.Core.List.{[], ◌∷◌, map}
use Prim.Native.Nat.{ℕ}
use Prim.Native.String.{String}
use Rattle.lists.specs.Question.{first_unmet}
use Rattle.lists.specs.Text.{bytes}
use Rattle.lines.specs.Parts.{lines_of}
use Rattle.outline.specs.Sections.{Sections, sections}
use Rattle.outline.specs.Questions.{met4, met6}
use Rattle.outline.specs.Part.{part_of}
use Rattle.lines.specs.Part.{bytes_at}
use Rattle.outline.specs.Outlined.{questions2to6}

abbrev of : String → Sections
of file = sections (lines_of (bytes file))

-- "one I, one R last"
pub second_I : met4 (of "I\t-\nI\t-\nR\tserve\t1\n") ≡ false
unfolding met4 sections lines_of
second_I = refl

pub no_R : met4 (of "I\t-\nI\t-\n") ≡ false
unfolding met4 sections lines_of
no_R = refl

-- "new over facts, steps and jobs together"
pub fact_and_step : met6 (of "F\topen\nS\topen\t-\t-\t-\nI\t-\nR\tserve\t1\n") ≡ false
unfolding met6 sections lines_of
fact_and_step = refl

pub step_and_job : met6 (of "S\topen\t-\t-\t-\nT\topen\nI\t-\nR\tserve\t1\n") ≡ false
unfolding met6 sections lines_of
step_and_job = refl

-- "Each is put to the whole file before the next": of two faults the earlier question's number
abbrev asked : String → ℕ
asked file = first_unmet (questions2to6 (bytes file))

pub second_and_third : asked "X" ≡ 2
unfolding questions2to6
second_and_third = refl

pub third_and_fourth : asked "I\t-\nI\t-\nR\tserve\t9\n" ≡ 3
unfolding questions2to6
third_and_fourth = refl

pub fourth_and_fifth : asked "T\tserve\nM\tserve\ta,b,c,d,e,f,g,h,i\nR\tserve\t1\n" ≡ 4
unfolding questions2to6
fourth_and_fifth = refl

pub fifth_and_sixth : asked "T\tserve\nT\tserve\nM\tserve\ta,b,c,d,e,f,g,h,i\nI\t-\nR\tserve\t1\n" ≡ 5
unfolding questions2to6
fifth_and_sixth = refl

-- "the part of the table file where it was declared"
pub parts : map (λ l. bytes_at (bytes "F\topen\nF\tshut\n") (part_of l)) (lines_of (bytes "F\topen\nF\tshut\n")) ≡ bytes "open" ∷ bytes "shut" ∷ []
unfolding part_of lines_of
parts = refl
