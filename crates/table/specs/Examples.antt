-- The files of the ten marked tables, and the edges: "Marked tables (*) and edges". The statements alone; proofs/Computed.antt proves
-- them by computing each reading. What comes of the ten behind the reader stands in crate `demands`, specs/Marked. Assumes nothing.
use Rattle.std.specs.Prelude.{◌≡◌, List, [], ◌∷◌, ◌++◌, map, ℕ, ◌+◌, ◌/◌, ◌%◌}
use Prim.Native.String.{String}
use Rattle.lists.specs.List.{Every, concat_map, up_to}
use Rattle.lists.specs.Text.{bytes}
use Rattle.planning.specs.Table.{Table, step, job}
use Rattle.planning.specs.Marked.{table, by, lift, shown, deeper, empty_body, without_methods, serve_and_lift, serve_and_lift_deeper}
use Rattle.planning.specs.Marked.{twice, needs_open, needs_open_at_start, sets_and_clears}
use Rattle.table.specs.Reading.{NameParts, name_at, refused, passed, reading}

-- the file is read as the table, with these names
pub record FileReads (file : List ℕ) (t : Table) (facts steps jobs : List (List ℕ)) : Type 0 where
  pub names : NameParts
  pub read : reading file ≡ passed t names
  pub fact_names : map (name_at file) names.facts ≡ facts
  pub step_names : map (name_at file) names.steps ≡ steps
  pub job_names : map (name_at file) names.jobs ≡ jobs

-- one fact, open; one step, lift; one job, serve
abbrev pub ExampleReads : List ℕ → Table → Type 0
ExampleReads file t = FileReads file t (bytes "open" ∷ []) (bytes "lift" ∷ []) (bytes "serve" ∷ [])

-- document 01's table, with this in the place of what lift needs, sets and clears, of the M lines, of the initial facts and of the depth
abbrev pub file_with : (facts methods start depth : String) → List ℕ
file_with facts methods start depth =
    bytes "F\topen\nS\tlift\t" ++ (bytes facts ++ (bytes "\nT\tserve\n" ++ (bytes methods
    ++ (bytes "I\t" ++ (bytes start ++ (bytes "\nR\tserve\t" ++ (bytes depth ++ bytes "\n")))))))

-- The ten marked tables -------------------------------------------------------------------------------------------------------
-- "As shown", "Depth 2", "Body `-`", "No M line"
abbrev pub shown_file : List ℕ
shown_file = file_with "-\topen\t-" "M\tserve\tlift\n" "-" "1"

abbrev pub deeper_file : List ℕ
deeper_file = file_with "-\topen\t-" "M\tserve\tlift\n" "-" "2"

abbrev pub empty_file : List ℕ
empty_file = file_with "-\topen\t-" "M\tserve\t-\n" "-" "1"

abbrev pub none_file : List ℕ
none_file = file_with "-\topen\t-" "" "-" "1"

-- "Methods `serve` and `lift`, depth 1", "The same, depth 2", "The M line twice"
abbrev pub both_file : List ℕ
both_file = file_with "-\topen\t-" "M\tserve\tserve\nM\tserve\tlift\n" "-" "1"

abbrev pub both_deeper_file : List ℕ
both_deeper_file = file_with "-\topen\t-" "M\tserve\tserve\nM\tserve\tlift\n" "-" "2"

abbrev pub twice_file : List ℕ
twice_file = file_with "-\topen\t-" "M\tserve\tlift\nM\tserve\tlift\n" "-" "1"

-- "lift needs open", "That, with open at the start", "lift sets and clears open"
abbrev pub needs_file : List ℕ
needs_file = file_with "open\topen\t-" "M\tserve\tlift\n" "-" "1"

abbrev pub needs_start_file : List ℕ
needs_start_file = file_with "open\topen\t-" "M\tserve\tlift\n" "open" "1"

abbrev pub clears_file : List ℕ
clears_file = file_with "-\topen\topen" "M\tserve\tlift\n" "-" "1"

abbrev pub ten_files : List (List ℕ × Table)
ten_files =
    (shown_file, shown) ∷ (deeper_file, deeper) ∷ (empty_file, empty_body) ∷ (none_file, without_methods)
    ∷ (both_file, serve_and_lift) ∷ (both_deeper_file, serve_and_lift_deeper) ∷ (twice_file, twice)
    ∷ (needs_file, needs_open) ∷ (needs_start_file, needs_open_at_start) ∷ (clears_file, sets_and_clears)
    ∷ []

-- each file is read as its table
abbrev pub MarkedFiles : Type 0
MarkedFiles = Every (λ (f : List ℕ × Table). ExampleReads f.0 f.1) ten_files

-- The edges -----------------------------------------------------------------------------------------------------------------------
-- the fact lines f00, f01, .. : n of them, and a table with no more than a root job behind them
abbrev pub fact_lines : ℕ → List ℕ
fact_lines n = concat_map (λ i. bytes "F\tf" ++ ((48 + i / 10) ∷ (48 + i % 10) ∷ bytes "\n")) (up_to n)

abbrev pub facts_file : ℕ → List ℕ
facts_file n = fact_lines n ++ bytes "T\tserve\nI\t-\nR\tserve\t1\n"

abbrev pub facts_table : ℕ → Table
facts_table n = record { facts = n; steps = []; jobs = 1; methods = []; start = []; root = 0; depth = 1 }

-- depth 8; a body of 8
abbrev pub deepest_file : List ℕ
deepest_file = file_with "-\topen\t-" "M\tserve\tlift\n" "-" "8"

abbrev pub deepest : Table
deepest = table lift (by (step 0 ∷ []) ∷ []) [] 8

abbrev pub longest_file : List ℕ
longest_file = file_with "-\topen\t-" "M\tserve\tlift,lift,lift,lift,lift,lift,lift,lift\n" "-" "1"

abbrev pub longest : Table
longest = table lift (by (step 0 ∷ step 0 ∷ step 0 ∷ step 0 ∷ step 0 ∷ step 0 ∷ step 0 ∷ step 0 ∷ []) ∷ []) [] 1

-- "One method `serve,serve,serve`"
abbrev pub three_serves : ℕ → Table
three_serves depth = table lift (by (job 0 ∷ job 0 ∷ job 0 ∷ []) ∷ []) [] depth

abbrev pub three_serves_file : (depth : String) → List ℕ
three_serves_file depth = file_with "-\topen\t-" "M\tserve\tserve,serve,serve\n" "-" depth

-- what the reader says of them; that those it reads are taken too stands in `demands`, specs/Marked
pub record Edges : Type 0 where
  -- "Depth 8 is taken, 0 and 9 give 3."
  pub depth_8 : ExampleReads deepest_file deepest
  pub depth_0 : reading (file_with "-\topen\t-" "M\tserve\tlift\n" "-" "0") ≡ refused 3
  pub depth_9 : reading (file_with "-\topen\t-" "M\tserve\tlift\n" "-" "9") ≡ refused 3
  -- "Bodies: 8 taken, 9 gives 5."
  pub body_8 : ExampleReads longest_file longest
  pub body_9 : reading (file_with "-\topen\t-" "M\tserve\tlift,lift,lift,lift,lift,lift,lift,lift,lift\n" "-" "1") ≡ refused 5
  -- "Facts: 64 and 65 likewise."
  pub facts_64 : (ns : NameParts) × (reading (facts_file 64) ≡ passed (facts_table 64) ns)
  pub facts_65 : reading (facts_file 65) ≡ refused 5
  -- "One method `serve,serve,serve`: depth 5 .., depth 6 ..": both pass 2 to 7
  pub three_5 : ExampleReads (three_serves_file "5") (three_serves 5)
  pub three_6 : ExampleReads (three_serves_file "6") (three_serves 6)
  -- "An empty file gives 2."
  pub empty : reading [] ≡ refused 2
