-- The readings of the marked tables' files and of the edges.
-- Each is computed.
use mathlib.Core.Path.{refl}
use mathlib.Core.List.{List}
use Prim.Native.Nat.{ℕ}
use Rattle.outline.specs.Sections.{sections}
use Rattle.lines.specs.Parts.{lines_of}
use Rattle.planning.specs.Marked.{shown, deeper, empty_body, without_methods, serve_and_lift, serve_and_lift_deeper, twice, needs_open, needs_open_at_start, sets_and_clears}
use Rattle.table.specs.Examples.{ExampleReads, MarkedFiles, Edges, facts_file, deepest_file, longest_file, three_serves_file}
use Rattle.table.specs.Examples.{shown_file, deeper_file, empty_file, none_file, both_file, both_deeper_file, twice_file, needs_file, needs_start_file, clears_file}
use Rattle.table.specs.Reading.{NameParts, name_parts_of, reading}

-- where the names of a file stand, by its sections
abbrev parts_in : List ℕ → NameParts
parts_in file = name_parts_of (sections (lines_of file))

pub shown_reads : ExampleReads shown_file shown
unfolding reading name_parts_of
shown_reads = record { names = parts_in shown_file; read = refl; fact_names = refl; step_names = refl; job_names = refl }

pub deeper_reads : ExampleReads deeper_file deeper
unfolding reading name_parts_of
deeper_reads = record { names = parts_in deeper_file; read = refl; fact_names = refl; step_names = refl; job_names = refl }

pub empty_reads : ExampleReads empty_file empty_body
unfolding reading name_parts_of
empty_reads = record { names = parts_in empty_file; read = refl; fact_names = refl; step_names = refl; job_names = refl }

pub none_reads : ExampleReads none_file without_methods
unfolding reading name_parts_of
none_reads = record { names = parts_in none_file; read = refl; fact_names = refl; step_names = refl; job_names = refl }

pub both_reads : ExampleReads both_file serve_and_lift
unfolding reading name_parts_of
both_reads = record { names = parts_in both_file; read = refl; fact_names = refl; step_names = refl; job_names = refl }

pub both_deeper_reads : ExampleReads both_deeper_file serve_and_lift_deeper
unfolding reading name_parts_of
both_deeper_reads = record { names = parts_in both_deeper_file; read = refl; fact_names = refl; step_names = refl; job_names = refl }

pub twice_reads : ExampleReads twice_file twice
unfolding reading name_parts_of
twice_reads = record { names = parts_in twice_file; read = refl; fact_names = refl; step_names = refl; job_names = refl }

pub needs_reads : ExampleReads needs_file needs_open
unfolding reading name_parts_of
needs_reads = record { names = parts_in needs_file; read = refl; fact_names = refl; step_names = refl; job_names = refl }

pub needs_start_reads : ExampleReads needs_start_file needs_open_at_start
unfolding reading name_parts_of
needs_start_reads = record { names = parts_in needs_start_file; read = refl; fact_names = refl; step_names = refl; job_names = refl }

pub clears_reads : ExampleReads clears_file sets_and_clears
unfolding reading name_parts_of
clears_reads = record { names = parts_in clears_file; read = refl; fact_names = refl; step_names = refl; job_names = refl }

pub marked_files : MarkedFiles
marked_files =
    (shown_reads, (deeper_reads, (empty_reads, (none_reads, (both_reads, (both_deeper_reads, (twice_reads, (needs_reads, (needs_start_reads, (clears_reads, tt))))))))))

pub edges : Edges
unfolding reading name_parts_of
edges = record {
  depth_8 = record { names = parts_in deepest_file; read = refl; fact_names = refl; step_names = refl; job_names = refl };
  body_8 =
      record {
        names = parts_in longest_file;
        read = refl;
        fact_names = refl;
        step_names = refl;
        job_names = refl;
      };
  depth_0 = refl;
  depth_9 = refl;
  body_9 = refl;
  facts_64 = (parts_in (facts_file 64), refl);
  facts_65 = refl;
  three_5 = record { names = parts_in (three_serves_file "5"); read = refl; fact_names = refl; step_names = refl; job_names = refl };
  three_6 = record { names = parts_in (three_serves_file "6"); read = refl; fact_names = refl; step_names = refl; job_names = refl };
  empty = refl;
}
