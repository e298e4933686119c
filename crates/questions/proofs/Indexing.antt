-- The index of an accepted table: what its writing goes by.
-- By its records and its counts.
use mathlib.Core.Path.{◌≡◌}
use mathlib.Core.List.{List}
use Prim.Native.Nat.{ℕ, ◌+◌, ◌*◌, ◌≤◌}
use native.Mathlib.Omega.{arith}
use lib.ListN.{length, take}
use Rattle.tree.specs.declared.Count.{Count}
use Rattle.lists.specs.Written.{Wrote}
use Rattle.lists.proofs.Written.{wrote_front}
use Rattle.planning.specs.Variable.{variables, node_vars}
use Rattle.planning.specs.Accepted.{Accepted}
use Rattle.table.specs.Layout.{table_in}
use Rattle.index.specs.Index.{index_of}
use Rattle.indexing.specs.Stands.{Stands}
use Rattle.indexing.proofs.Whole.{index_words}
use Rattle.shape.specs.Shape.{Indexed}
use Rattle.questions.specs.Own.{Owned}
use Rattle.questions.proofs.Acceptance.{accepted_table}

module _ {file table tree : List ℕ} {c : Count} {v : ℕ} (o : Owned file table tree c v) where
  pub acceptance : Accepted (table_in table)
  acceptance = accepted_table file (table_in table) o.verdict

  pub stands : Stands (table_in table) tree
  stands = record { accepted = acceptance; tree = o.records }

  -- the index that was written
  pub indexed : {ix ix' : List ℕ} {m : ℕ} → Wrote ix 0 (index_of (table_in table)) ix' m → Indexed (table_in table) (take m ix')
  indexed w = record { accepted = acceptance; index = wrote_front w }

  pub words_are : 3 + 15 * c.nodes + c.slots + c.variables ≡ length (index_of (table_in table))
  words_are = omega (arith, index_words (table_in table), o.counts.nodes, o.counts.slots, o.counts.variables)

  -- the longest is long enough
  pub index_most : length (index_of (table_in table)) ≤ 24578
  index_most =
      let n : node_vars (table_in table) ≤ variables (table_in table) = omega arith in
      omega (arith, words_are, o.counts.few, o.counts.nodes, o.counts.small.slots, o.counts.variables, n, acceptance.few_variables)
