-- Trees are the same, in document 01's words, exactly when they are equal.
-- By recursion on both.
use mathlib.Core.Path.{◌≡◌, refl, subst}
use mathlib.Core.Logic.{◌↔◌}
use Rattle.planning.specs.Tree.{Tree, alone, split, Trees, end, next, SameTree, SameTrees}

mutual
  same_equal : (t u : Tree) → SameTree t u → t ≡ u
  same_equal (alone s) (alone r) e = cc
  same_equal (alone s) (split k n us) e = absurd e
  same_equal (split j m ts) (alone r) e = absurd e
  same_equal (split j m ts) (split k n us) e = cc (e.0, e.1, same_equals ts us e.2)

  same_equals : (ts us : Trees) → SameTrees ts us → ts ≡ us
  same_equals end end e = refl
  same_equals end (next u us) e = absurd e
  same_equals (next t ts) end e = absurd e
  same_equals (next t ts) (next u us) e = cc (same_equal t u e.0, same_equals ts us e.1)

mutual
  same_self : (t : Tree) → SameTree t t
  same_self (alone s) = refl
  same_self (split j m ts) = (refl, refl, same_selves ts)

  same_selves : (ts : Trees) → SameTrees ts ts
  same_selves end = tt
  same_selves (next t ts) = (same_self t, same_selves ts)

pub same_tree_equal : (t u : Tree) → SameTree t u ↔ (t ≡ u)
same_tree_equal t u = (same_equal t u, λ e. subst (SameTree t) e (same_self t))
