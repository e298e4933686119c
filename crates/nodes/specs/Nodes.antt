-- Inside the calls, nothing to believe: the lent tree records as words, five a record.
-- Assumes nothing.
use Rattle.std.specs.Prelude.{Bool, List, [], ◌∷◌, map, ◌++◌, ℕ, ◌+◌, ◌*◌, get_or, drop}
use Rattle.lists.specs.List.{all, concat_map, up_to}
use Rattle.nodes.specs.declared.Node.{Node}
use Rattle.nodes.specs.Tree.{blank, same_node}

-- a record's words, and those of records
abbrev pub node_words : Node → List ℕ
node_words n = n.depth ∷ n.parent ∷ n.children ∷ n.steps ∷ n.jobs ∷ []

abbrev pub words_of : List Node → List ℕ
words_of ns = concat_map node_words ns

-- the record that is kept as these five words
abbrev pub in_array : List ℕ → Node
in_array w = record { depth = get_or w 0 0; parent = get_or w 1 0; children = get_or w 2 0; steps = get_or w 3 0; jobs = get_or w 4 0 }

-- record i of those kept as words
abbrev pub record_at : List ℕ → ℕ → Node
record_at fs i = record {
  depth = get_or fs (i * 5) 0;
  parent = get_or fs (i * 5 + 1) 0;
  children = get_or fs (i * 5 + 2) 0;
  steps = get_or fs (i * 5 + 3) 0;
  jobs = get_or fs (i * 5 + 4) 0;
}

-- the first n records from words, and the others as they were
unfoldable pub laid : List ℕ → List Node → ℕ → List Node
laid fs ns n = map (record_at fs) (up_to n) ++ drop n ns

-- are the first n records those kept in these words?
unfoldable pub same_to : List ℕ → List Node → ℕ → Bool
same_to fs ns n = all (λ i. same_node (get_or ns i blank) (record_at fs i)) (up_to n)
