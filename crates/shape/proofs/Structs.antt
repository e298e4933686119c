-- What the structs' types say of their values.
-- Assumes nothing.
use mathlib.Core.Path.{◌≡◌, ap, ◌∙◌}
use Prim.Native.Nat.{ℕ, ◌≤◌}
use lib.ListN.{get_or}
use Rattle.places.specs.Flat.{Node as FlatNode}
use Rattle.places.specs.ClausePlace.{no_group, node_groups, group_at}
use Rattle.shape.specs.Shape.{node, InNode, InSlot}
use Rattle.shape.specs.Views.{table_of, source_of, flat}
use Rattle.shape.specs.declared.encoded.Encoded.{Encoded}
use Rattle.shape.specs.declared.node.Node.{Node}
use Rattle.shape.specs.declared.slot.Slot.{Slot}

pub in_node : (n : Node) → InNode (table_of n.encoded) n.encoded.index.now n.number
in_node n = record { indexed = n.encoded.indexed; there = n.there }

pub in_slot : (s : Slot) → InSlot (table_of s.encoded) s.encoded.index.now s.number
in_slot s = record { indexed = s.encoded.indexed; there = s.there }

-- node k of the same table
pub flat_is : {e : Encoded} {k : ℕ} (n : Node) → n.encoded ≡ e → n.number ≡ k → flat n ≡ node (table_of e) k
flat_is {e} {k} n p q = ap (λ (d : Encoded). node (table_of d) n.number) p ∙ ap (node (table_of e)) q

pub first_at : {e : Encoded} {r : ℕ} (n : Node) → n.encoded ≡ e → (r ≡ (flat n).first) × (1 ≤ r) × (r ≤ 8192)
    → (r ≡ (node (table_of e) n.number).first) × (1 ≤ r) × (r ≤ 8192)
first_at {e} n p f = (f.0 ∙ ap (λ (d : Encoded). (node (table_of d) n.number).first) p, f.1, f.2)

-- a letter of it, and of slot k
pub node_letter : {e : Encoded} {k : ℕ} (n : Node) (g : ℕ) → n.encoded ≡ e → n.number ≡ k
    → get_or (node_groups (table_of n.encoded) n.number (flat n)) g no_group ≡ group_at (source_of e) 1 k g
node_letter {e} {k} n g p q = ap (λ (d : Encoded). group_at (source_of d) 1 n.number g) p ∙ ap (λ (m : ℕ). group_at (source_of e) 1 m g) q

pub slot_letter : {e : Encoded} {k : ℕ} (s : Slot) (g : ℕ) → s.encoded ≡ e → s.number ≡ k
    → group_at (source_of s.encoded) 3 s.number g ≡ group_at (source_of e) 3 k g
slot_letter {e} {k} s g p q = ap (λ (d : Encoded). group_at (source_of d) 3 s.number g) p ∙ ap (λ (m : ℕ). group_at (source_of e) 3 m g) q
