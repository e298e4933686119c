-- What the structs' types say of their values.
-- Assumes nothing.
use mathlib.Core.Path.{◌≡◌}
use Prim.Native.Nat.{ℕ, ◌<◌}
use native.Mathlib.Omega.{arith}
use lib.ListN.{length}
use Rattle.index.specs.Index.{source}
use Rattle.indexing.specs.Stands.{AtNode}
use Rattle.indexing.specs.Views.{table_of}
use Rattle.indexing.specs.declared.grown.Grown.{Grown}
use Rattle.indexing.specs.declared.node.Node.{Node}
use Rattle.indexing.proofs.Nodes.{few}

pub here : (p : Node) → AtNode (table_of p.grown) p.grown.tree.now p.number
here p = record { stands = p.grown.stands; inside = p.there }

pub few_here : (p : Node) → p.number < 1024
few_here p = few (here p)

-- node k, below the number of nodes that was looked up
pub one : (g : Grown) {k n : ℕ} → n ≡ length (source (table_of g)).nodes → k < n → AtNode (table_of g) g.tree.now k
one g e h = record { stands = g.stands; inside = omega (arith, e) }
