-- What is known of the table of an accepted file: "A table is accepted if 2 to 9 are met."
-- Assumes nothing.
use Rattle.std.specs.Prelude.{◌≤◌}
use Rattle.planning.specs.Table.{Table, Sound, Limits}
use Rattle.planning.specs.Place.{root_place, nodes}
use Rattle.planning.specs.Variable.{variables}

pub record Accepted (T : Table) : Type 0 where
  -- questions 2 to 7, which the reader puts
  pub sound : Sound T
  pub limits : Limits T
  -- 8. "Has the tree at most 1,024 nodes?"
  pub few_nodes : nodes (root_place T) ≤ 1024
  -- 9. "Are there at most 8,191 variables?"
  pub few_variables : variables T ≤ 8191
