-- Records beside those kept in words.
-- One record at a time.
use mathlib.Core.Path.{◌≡◌, refl, sym, ap, ap₂, ◌∙◌}
use mathlib.Core.Bool.{Bool, true, false, not, ◌&&◌}
use mathlib.Core.List.{List, [], ◌∷◌, ◌++◌}
use Prim.Native.Nat.{ℕ, zero, suc, ◌+◌, ◌<◌}
use native.Mathlib.Numerals.{add-one}
use native.Mathlib.Nat.{zero-add}
use native.Mathlib.Omega.{arith}
use lib.ListN.{get_or}
use Rattle.lists.specs.List.{all, from, up_to}
use Rattle.lists.proofs.Bool.{eqb_same, and_in, and_on, and_off, said_no, said_yes}
use Rattle.lists.proofs.Member.{all_append}
use Rattle.nodes.specs.Nodes.{record_at, same_to}
use Rattle.nodes.specs.Tree.{blank, same_node}
use Rattle.nodes.specs.declared.Node.{Node}
use Rattle.nodes.proofs.Laws.{from_snoc}

pub node_same : (n : Node) → same_node n n ≡ true
node_same n = rw (eqb_same n.depth, eqb_same n.parent, eqb_same n.children, eqb_same n.steps, eqb_same n.jobs)

-- one that does not hold is enough
all_off : (f : ℕ → Bool) (k n i : ℕ) → i < n → f (k + i) ≡ false → all f (from k n) ≡ false
all_off f k zero i h e = absurd (omega arith)
all_off f k (suc n) zero h e = let z : k + 0 ≡ k = omega arith in let d : f k ≡ false = ap f (sym z) ∙ e in rw d
all_off f k (suc n) (suc i) h e =
    let z : suc k + i ≡ k + suc i = omega arith in
    ap (λ (b : Bool). f k && b) (all_off f (suc k) n i (omega arith) (ap f z ∙ e)) ∙ and_off (f k)

-- records against words, one record more at a time
module _ (fs : List ℕ) (ns : List Node) where
  abbrev Kept : ℕ → Bool
  Kept i = same_node (get_or ns i blank) (record_at fs i)

  pub same_none : same_to fs ns 0 ≡ true
  unfolding same_to
  same_none = refl

  pub same_more : (i : ℕ) → (same_to fs ns i && same_node (get_or ns i blank) (record_at fs i)) ≡ same_to fs ns (i + 1)
  unfolding same_to
  same_more i =
      let s : up_to (i + 1) ≡ up_to i ++ (i ∷ []) = ap up_to (add-one i) ∙ from_snoc 0 i ∙ ap (λ (k : ℕ). up_to i ++ (k ∷ [])) (zero-add i) in
      sym (ap (all Kept) s ∙ all_append Kept (up_to i) (i ∷ []) ∙ ap (λ (b : Bool). all Kept (up_to i) && b) (and_on (Kept i)))

  -- record i was read as m, and its words as n
  module _ {m n : Node} (i : ℕ) (a : m ≡ get_or ns i blank) (b : n ≡ record_at fs i) {r : Bool} (d : r ≡ not (same_node m n)) where
    kept : same_node m n ≡ Kept i
    kept = ap₂ (λ (x y : Node). same_node x y) a b

    pub same_next : same_to fs ns i ≡ true → r ≡ false → same_to fs ns (i + 1) ≡ true
    same_next h e = sym (same_more i) ∙ and_in (same_to fs ns i) (Kept i) h (sym kept ∙ said_yes refl (sym d ∙ e))

    pub same_out : {k : ℕ} → i < k → r ≡ true → false ≡ same_to fs ns k
    unfolding same_to
    same_out {k} h e = sym (all_off Kept 0 k i h (ap Kept (zero-add i) ∙ sym kept ∙ said_no refl (sym d ∙ e)))
