-- The tree records, one a node, in node order.
-- Assumes nothing.
use Rattle.std.specs.Prelude.{List, [], ◌∷◌, ◌++◌, ℕ, suc, ◌+◌}
use Rattle.planning.specs.Table.{Table}
use Rattle.planning.specs.Place.{Label, Place, slot, inner, Places, stop, also, root_place, nodes, count}

-- "A record holds the node's depth, its parent's number (0 at the root), its child count, and the sets of steps and of jobs it may
-- hold." A slot keeps its jobs here, though they have no variables. The child count of an inner node is `child_count`
pub record Record : Type 0 where
  pub depth : ℕ
  pub parent : ℕ
  pub children : ℕ
  pub label : Label

-- "A node is numbered before its children, and each child's whole part before the next child" (depth first, in preorder): the records
-- of the part whose first node has depth d, parent u and number n; then of several parts with one parent, one after the other
abbrev mutual
  pub records_at : Place → (d u n : ℕ) → List Record
  records_at (slot L) d u n = record { depth = d; parent = u; children = 0; label = L } ∷ []
  records_at (inner L ps) d u n = record { depth = d; parent = u; children = count ps; label = L } ∷ records_below ps (suc d) n (suc n)

  pub records_below : Places → (d u n : ℕ) → List Record
  records_below stop d u n = []
  records_below (also p ps) d u n = records_at p d u n ++ records_below ps d u (n + nodes p)

-- all of them
abbrev pub records : Table → List Record
records T = records_at (root_place T) 0 0 0
