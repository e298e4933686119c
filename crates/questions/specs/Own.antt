-- Inside the calls, nothing to believe: the table of an accepted file, with its own records and its counts, as words.
-- Assumes nothing.
use Rattle.std.specs.Prelude.{◌≡◌, List, ℕ}
use Rattle.planning.specs.Record.{records}
use Rattle.planning.specs.Variable.{variables}
use Rattle.table.specs.Layout.{table_in, name_parts_in}
use Rattle.tree.specs.Visit.{Counted}
use Rattle.tree.specs.Words.{tree_words}
use Rattle.tree.specs.declared.Count.{Count}
use Rattle.questions.specs.Questions.{accepted, accepting, names_of}

-- the file is accepted; these are its table's words, those of the table's records, the counts of its tree, and how many variables it has
pub record Owned (file table tree : List ℕ) (c : Count) (v : ℕ) : Type 0 where
  pub verdict : accepting file ≡ accepted (table_in table)
  pub names : name_parts_in table ≡ names_of file
  pub records : tree ≡ tree_words (records (table_in table))
  pub counts : Counted (table_in table) c
  pub variables : v ≡ variables (table_in table)
