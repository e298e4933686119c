-- Used names, around question 7.
-- Each is computed.
use mathlib.Core.Path.{◌≡◌, refl}
use mathlib.Core.Bool.{Bool, true, false}
use mathlib.Core.List.{[], ◌∷◌}
use Prim.Native.String.{String}
use Rattle.lists.specs.Text.{bytes}
use Rattle.planning.specs.Table.{step, job}
use Rattle.lines.specs.Parts.{lines_of}
use Rattle.outline.specs.Sections.{sections}
use Rattle.rows.specs.Uses.{met7, facts_of, task_of}

abbrev asked : String → Bool
asked file = met7 (sections (lines_of (bytes file)))

pub all_declared : asked "F\topen\nS\tlift\t-\topen\t-\nT\tserve\nM\tserve\tlift\nI\t-\nR\tserve\t1\n" ≡ true
unfolding met7 sections lines_of
all_declared = refl

-- "no fact twice in a list"
pub fact_twice : asked "F\topen\nS\tlift\t-\topen,open\t-\nT\tserve\nM\tserve\tlift\nI\t-\nR\tserve\t1\n" ≡ false
unfolding met7 sections lines_of
fact_twice = refl

pub fact_twice_at_start : asked "F\topen\nT\tserve\nI\topen,open\nR\tserve\t1\n" ≡ false
unfolding met7 sections lines_of
fact_twice_at_start = refl

-- "declared in the kind wanted there"
pub step_as_fact : asked "F\topen\nS\tlift\t-\tlift\t-\nT\tserve\nI\t-\nR\tserve\t1\n" ≡ false
unfolding met7 sections lines_of
step_as_fact = refl

pub fact_in_body : asked "F\topen\nT\tserve\nM\tserve\topen\nI\t-\nR\tserve\t1\n" ≡ false
unfolding met7 sections lines_of
fact_in_body = refl

pub method_of_step : asked "S\tlift\t-\t-\t-\nT\tserve\nM\tlift\tserve\nI\t-\nR\tserve\t1\n" ≡ false
unfolding met7 sections lines_of
method_of_step = refl

pub root_step : asked "S\tlift\t-\t-\t-\nT\tserve\nI\t-\nR\tlift\t1\n" ≡ false
unfolding met7 sections lines_of
root_step = refl

-- "A fact list may stand in any order"
pub any_order : facts_of (bytes "open" ∷ bytes "shut" ∷ bytes "wet" ∷ []) (bytes "wet" ∷ bytes "open" ∷ []) ≡ 0 ∷ 2 ∷ []
unfolding facts_of
any_order = refl

pub a_step : task_of (bytes "lift" ∷ []) (bytes "serve" ∷ []) (bytes "lift") ≡ step 0
unfolding task_of
a_step = refl

pub a_job : task_of (bytes "lift" ∷ []) (bytes "serve" ∷ []) (bytes "serve") ≡ job 0
unfolding task_of
a_job = refl
