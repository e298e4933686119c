-- The table's own tree as records, and the questions that are put to a lent tree.
-- Assumes nothing.
use Rattle.std.specs.Prelude.{Bool, ◌&&◌, List, map, ℕ, eqb, leb, length, get_or}
use Rattle.lists.specs.List.{all, up_to}
use Rattle.bitset.specs.Set.{set_of}
use Rattle.planning.specs.Table.{Table}
use Rattle.planning.specs.Record.{Record, records}
use Rattle.nodes.specs.declared.Node.{Node}

-- "A record holds the node's depth, its parent's number (0 at the root), its child count, and the sets of steps and of jobs it may
-- hold": a set is one word
abbrev pub set_word : List ℕ → ℕ
set_word xs = get_or (set_of 1 xs) 0 0

abbrev pub node_of : Record → Node
node_of r = record { depth = r.depth; parent = r.parent; children = r.children; steps = set_word r.label.steps; jobs = set_word r.label.jobs }

abbrev pub tree_of : Table → List Node
tree_of T = map node_of (records T)

-- 1. "Are lent buffers long enough: 1,024 records for the tree ..?"
abbrev pub enough_tree : List Node → Bool
enough_tree tree = leb 1024 (length tree)

-- the record of zeros, for a place past the last
abbrev pub blank : Node
blank = record { depth = 0; parent = 0; children = 0; steps = 0; jobs = 0 }

-- 10. "Are the first lent tree records, as many as the table has nodes, those of this table?": every field of them is
abbrev pub same_node : Node → Node → Bool
same_node m n =
    eqb m.depth n.depth
    && (eqb m.parent n.parent && (eqb m.children n.children && (eqb m.steps n.steps && eqb m.jobs n.jobs)))

abbrev pub met10 : Table → List Node → Bool
met10 T tree = all (λ i. same_node (get_or tree i blank) (get_or (tree_of T) i blank)) (up_to (length (tree_of T)))
