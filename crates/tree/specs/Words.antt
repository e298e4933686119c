-- Inside the encoding, nothing to believe: the tree records as words, five a record.
-- Assumes nothing.
use Rattle.std.specs.Prelude.{List, ◌∷◌, ◌++◌, ℕ}
use Rattle.lists.specs.List.{concat_map}
use Rattle.bitset.specs.Set.{set_of}
use Rattle.planning.specs.Record.{Record}

-- "A record holds the node's depth, its parent's number (0 at the root), its child count, and the sets of steps and of jobs it may
-- hold": five words, a set being one word
abbrev pub record_words : Record → List ℕ
record_words r = r.depth ∷ r.parent ∷ r.children ∷ (set_of 1 r.label.steps ++ set_of 1 r.label.jobs)

abbrev pub tree_words : List Record → List ℕ
tree_words rs = concat_map record_words rs
