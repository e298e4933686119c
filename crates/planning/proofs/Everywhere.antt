-- A property of every node of a part, told for slots and for inner nodes with their number of children; and how it is shown for the
-- places of a table: once of the root, once of a child whatever its node. By recursion on the depth left.
use mathlib.Core.Path.{◌≡◌, refl, sym, ap, ◌∙◌, subst}
use mathlib.Core.List.{List, [], ◌∷◌, map}
use Prim.Native.Nat.{ℕ, zero, suc}
use lib.ListN.{length, length-map}
use Rattle.lists.specs.List.{up_to}
use Rattle.lists.proofs.Number.{length_from}
use Rattle.planning.specs.Table.{Table}
use Rattle.planning.specs.Place.{Label, Place, slot, inner, Places, stop, also, child_count, child_label, inner_if, row, place, count}

count_row : (f : Label → Place) (Ls : List Label) → count (row f Ls) ≡ length Ls
count_row f [] = refl
count_row f (L ∷ Ls) = ap suc (count_row f Ls)

-- the children of a node that may hold L, and lies one above those that lie d above depth K
abbrev pub children_of : Table → ℕ → Label → Places
children_of T d L = row (λ M. place T d M) (map (child_label T L) (up_to (child_count T L)))

pub count_children : (T : Table) (d : ℕ) (L : Label) → count (children_of T d L) ≡ child_count T L
count_children T d L =
    count_row (λ M. place T d M) (map (child_label T L) (up_to (child_count T L)))
    ∙ (length-map (up_to (child_count T L)) (child_label T L) ∙ length_from 0 (child_count T L))

module _ (AtSlot : Label → Type 0) (AtInner : Label → ℕ → Type 0) where
  abbrev mutual
    pub Everywhere : Place → Type 0
    Everywhere (slot L) = AtSlot L
    Everywhere (inner L ps) = AtInner L (count ps) × EverywhereEach ps

    pub EverywhereEach : Places → Type 0
    EverywhereEach stop = Unit {0}
    EverywhereEach (also p ps) = Everywhere p × EverywhereEach ps

  -- P is what is known of a node from its parent, or at the root
  module _ (T : Table) (P : Label → Type 0) (child : (L : Label) (i : ℕ) → P (child_label T L i)) (at_slot : (L : Label) → P L → AtSlot L)
      (at_inner : (L : Label) → P L → AtInner L (child_count T L)) where
    in_row : (f : Label → Place) (L : Label) (is : List ℕ) → ((i : ℕ) → Everywhere (f (child_label T L i))) → EverywhereEach (row f (map (child_label T L) is))
    in_row f L [] h = tt
    in_row f L (i ∷ is) h = (h i, in_row f L is h)

    in_node : (d : ℕ) (L : Label) (js : List ℕ) → P L → EverywhereEach (children_of T d L) → Everywhere (inner_if js L (children_of T d L))
    in_node d L [] p h = at_slot L p
    in_node d L (j ∷ js) p h = (subst (AtInner L) (sym (count_children T d L)) (at_inner L p), h)

    pub everywhere : (d : ℕ) (L : Label) → P L → Everywhere (place T d L)
    unfolding place
    everywhere zero L p = at_slot L p
    everywhere (suc d) L p = in_node d L L.jobs p (in_row (λ M. place T d M) L (up_to (child_count T L)) (λ i. everywhere d (child_label T L i) (child L i)))
