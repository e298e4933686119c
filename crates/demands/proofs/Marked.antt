-- The ten marked tables from their files to their models, and the edges.
-- By the readings computed in crate `table`, and by computing questions 8 and 9.
use mathlib.Core.Path.{◌≡◌, refl, ap}
use mathlib.Core.List.{List}
use Prim.Native.Nat.{ℕ}
use Rattle.lists.specs.List.{Every}
use Rattle.lists.proofs.Every.{every_imp}
use Rattle.planning.specs.Table.{Table}
use Rattle.planning.specs.Place.{place, child_label, child_count}
use Rattle.planning.specs.Marked.{shown, deeper, empty_body, without_methods, serve_and_lift, serve_and_lift_deeper, twice, needs_open, needs_open_at_start, sets_and_clears}
use Rattle.planning.proofs.Computed.Marked.{marked}
use Rattle.table.specs.Examples.{ten_files, shown_file, deeper_file, empty_file, none_file, both_file, both_deeper_file, twice_file, needs_file, needs_start_file, clears_file}
use Rattle.table.specs.Examples.{deepest_file, deepest, longest_file, longest, facts_file, facts_table, three_serves, three_serves_file}
use Rattle.table.proofs.Computed.{marked_files, edges, shown_reads, deeper_reads, empty_reads, none_reads, both_reads, both_deeper_reads, twice_reads, needs_reads, needs_start_reads, clears_reads}
use Rattle.questions.specs.Questions.{unmet, after_reading, accepting}
use Rattle.demands.specs.Demand3.{AcceptedAs, Demand3Whole}
use Rattle.demands.specs.Marked.{MarkedAndEdges}
use Rattle.demands.proofs.Demand3.{demand3_whole}

shown_accepted : AcceptedAs shown_file shown
unfolding place child_label child_count
shown_accepted = ap after_reading shown_reads.read

deeper_accepted : AcceptedAs deeper_file deeper
unfolding place child_label child_count
deeper_accepted = ap after_reading deeper_reads.read

empty_accepted : AcceptedAs empty_file empty_body
unfolding place child_label child_count
empty_accepted = ap after_reading empty_reads.read

none_accepted : AcceptedAs none_file without_methods
unfolding place child_label child_count
none_accepted = ap after_reading none_reads.read

both_accepted : AcceptedAs both_file serve_and_lift
unfolding place child_label child_count
both_accepted = ap after_reading both_reads.read

both_deeper_accepted : AcceptedAs both_deeper_file serve_and_lift_deeper
unfolding place child_label child_count
both_deeper_accepted = ap after_reading both_deeper_reads.read

twice_accepted : AcceptedAs twice_file twice
unfolding place child_label child_count
twice_accepted = ap after_reading twice_reads.read

needs_accepted : AcceptedAs needs_file needs_open
unfolding place child_label child_count
needs_accepted = ap after_reading needs_reads.read

needs_start_accepted : AcceptedAs needs_start_file needs_open_at_start
unfolding place child_label child_count
needs_start_accepted = ap after_reading needs_start_reads.read

clears_accepted : AcceptedAs clears_file sets_and_clears
unfolding place child_label child_count
clears_accepted = ap after_reading clears_reads.read

ten_accepted : Every (λ (f : List ℕ × Table). AcceptedAs f.0 f.1) ten_files
ten_accepted =
    (shown_accepted, (deeper_accepted, (empty_accepted, (none_accepted, (both_accepted, (both_deeper_accepted, (twice_accepted, (needs_accepted, (needs_start_accepted, (clears_accepted, tt))))))))))

-- "Depth 8 is taken", "Bodies: 8 taken", "Facts: 64"
deepest_taken : AcceptedAs deepest_file deepest
unfolding place child_label child_count
deepest_taken = ap after_reading edges.depth_8.read

longest_taken : AcceptedAs longest_file longest
unfolding place child_label child_count
longest_taken = ap after_reading edges.body_8.read

facts_taken : AcceptedAs (facts_file 64) (facts_table 64)
unfolding place child_label child_count
facts_taken = ap after_reading edges.facts_64.1

-- "One method `serve,serve,serve`"
three_taken : AcceptedAs (three_serves_file "5") (three_serves 5)
unfolding place child_label child_count
three_taken = ap after_reading edges.three_5.read

three_given_8 : accepting (three_serves_file "6") ≡ unmet 8
unfolding place child_label child_count
three_given_8 = ap after_reading edges.three_6.read

pub marked_and_edges : MarkedAndEdges
unfolding place child_label child_count
marked_and_edges = record {
  files = marked_files;
  accepted = ten_accepted;
  demand3 =
      every_imp (λ (f : List ℕ × Table). AcceptedAs f.0 f.1) (λ (f : List ℕ × Table). Demand3Whole f.0 f.1)
      (λ f a. demand3_whole f.0 f.1 a) ten_files ten_accepted;
  marked = marked;
  edges = edges;
  depth_8_taken = deepest_taken;
  body_8_taken = longest_taken;
  facts_64_taken = facts_taken;
  three_nodes = refl;
  three_taken = three_taken;
  three_nodes_deeper = refl;
  three_deeper_given_8 = three_given_8;
}
