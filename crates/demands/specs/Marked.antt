-- "Prove the ten marked tables from the definitions, as one collected result": from the bytes of each file to its models; and the edges. The
-- statement alone; proofs/Marked.antt proves it. Assumes nothing.
use Rattle.std.specs.Prelude.{◌≡◌, List, ℕ}
use Rattle.lists.specs.List.{Every}
use Rattle.planning.specs.Table.{Table}
use Rattle.planning.specs.Place.{root_place, nodes}
use Rattle.planning.specs.Marked.{Marked}
use Rattle.table.specs.Examples.{ten_files, MarkedFiles, Edges, deepest_file, deepest, longest_file, longest, facts_file, facts_table, three_serves, three_serves_file}
use Rattle.questions.specs.Questions.{unmet, accepting}
use Rattle.demands.specs.Demand3.{AcceptedAs, Demand3Whole}

pub record MarkedAndEdges : Type 0 where
  -- each of the ten files is read as its table, with its names; it meets 2 to 9; demand 3 holds of it
  pub files : MarkedFiles
  pub accepted : Every (λ (f : List ℕ × Table). AcceptedAs f.0 f.1) ten_files
  pub demand3 : Every (λ (f : List ℕ × Table). Demand3Whole f.0 f.1) ten_files
  -- what document 01 says of each: variables, clauses, models, steps
  pub marked : Marked
  -- the edges of the reader
  pub edges : Edges
  -- "Depth 8 is taken", "Bodies: 8 taken", "Facts: 64 and 65 likewise"
  pub depth_8_taken : AcceptedAs deepest_file deepest
  pub body_8_taken : AcceptedAs longest_file longest
  pub facts_64_taken : AcceptedAs (facts_file 64) (facts_table 64)
  -- "One method `serve,serve,serve`: depth 5 has 364 nodes, depth 6 has 1,093 and gives 8."
  pub three_nodes : nodes (root_place (three_serves 5)) ≡ 364
  pub three_taken : AcceptedAs (three_serves_file "5") (three_serves 5)
  pub three_nodes_deeper : nodes (root_place (three_serves 6)) ≡ 1093
  pub three_deeper_given_8 : accepting (three_serves_file "6") ≡ unmet 8
