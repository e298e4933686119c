-- What it is for a valuation to hold a tree at a place, and for a tree to fit a place.
-- `Holds`: the true variables are those of the tree. `Fits`: the place has a variable for all that the tree has there.
use mathlib.Core.Path.{◌≡◌, refl, sym, ap, ◌∙◌, subst}
use mathlib.Core.Bool.{true, false}
use mathlib.Core.List.{List, [], ◌∷◌, map, ◌++◌}
use mathlib.Core.Logic.{inl, inr, ◌↔◌}
use mathlib.Core.Option.{Option, none, some}
use Prim.Native.Nat.{ℕ, suc, ◌+◌, ◌≤◌}
use lib.ListN.{length}
use Rattle.lists.specs.List.{number, ◌∈◌, Distinct}
use Rattle.lists.proofs.Bool.{clash, some_inj, none≢some, false_of}
use Rattle.lists.proofs.Number.{number_thing, number_unique}
use Rattle.planning.specs.Table.{Task, step, Table, job_of, body_of, job}
use Rattle.planning.specs.Tree.{Tree, alone, split, Trees, end, next, top, tops}
use Rattle.planning.specs.Place.{Label, Place, slot, inner, Places, stop, also, methods_of}
use Rattle.planning.specs.Variable.{tasks_of, own_vars, part_vars, task_vars, method_vars}
use Rattle.planning.specs.Clause.{not_both, pairs}
use Rattle.planning.specs.Model.{Valuation, satisfies}
use Rattle.planning.proofs.Everywhere.{Everywhere, EverywhereEach}
use Rattle.planning.proofs.Satisfy.{sat_in, not_both_in, pairs_out}

module _ {A : Type 0} where
  -- of these variables that of o is true, and no other
  abbrev pub Hot : Valuation → List (ℕ × A) → Option A → Type 0
  Hot v xs o = (x : ℕ × A) → x ∈ xs → (v x.0 ≡ true) ↔ (o ≡ some x.1)

  -- none of these is true, or that of a is
  abbrev pub Pick : Valuation → List (ℕ × A) → Option A → Type 0
  Pick v xs none = (x : ℕ × A) → x ∈ xs → v x.0 ≡ false
  Pick v xs (some a) = (n : ℕ) × ((n, a) ∈ xs) × (v n ≡ true)

  -- if there is something, it is one of these
  abbrev pub Held : List A → Option A → Type 0
  Held xs none = Unit {0}
  Held xs (some a) = a ∈ xs

  pub hot_of_pick : (v : Valuation) (b : ℕ) (xs : List A) (o : Option A) → Distinct xs → satisfies v (pairs (number b xs)) ≡ true
      → Pick v (number b xs) o → Hot v (number b xs) o
  hot_of_pick v b xs none d s p x m = (λ h. clash h (p x m), λ e. none≢some e)
  hot_of_pick v b xs (some a) d s p x m = (
    λ h. ap (λ (z : ℕ × A). some z.1) (pairs_out v (number b xs) s (p.0, a) x p.1 m p.2 h),
    λ e. subst (λ (z : ℕ × A). v z.0 ≡ true) (number_unique b xs d (p.0, a) x p.1 m (some_inj e)) p.2,
  )

  pub pairs_in : (v : Valuation) (b : ℕ) (xs : List A) (o : Option A) → Distinct xs → Hot v (number b xs) o → satisfies v (pairs (number b xs)) ≡ true
  pairs_in v b [] o d h = refl
  pairs_in v b (x ∷ xs) o d h =
      sat_in v (not_both b (number (suc b) xs)) (pairs (number (suc b) xs)) (not_both_in v b (number (suc b) xs) apart) (pairs_in v (suc b) xs o d.1 (λ y m. h y (inr m)))
    where
      apart : v b ≡ true → (y : ℕ × A) → y ∈ number (suc b) xs → v y.0 ≡ false
      apart p y m = false_of (v y.0)
          (λ q. d.0 (subst (λ (t : A). t ∈ xs) (some_inj (sym ((h y (inr m)).0 q) ∙ (h (b, x) (inl refl)).0 p)) (number_thing (suc b) xs y m)))

-- what a node shows of the tree it holds, and what its children hold then
abbrev pub shown_task : Option Tree → Option Task
shown_task none = none
shown_task (some t) = some (top t)

abbrev pub shown_method : Option Tree → Option ℕ
shown_method none = none
shown_method (some (alone s)) = none
shown_method (some (split j m ts)) = some m

abbrev pub below : Option Tree → Trees
below none = end
below (some (alone s)) = next (alone s) end
below (some (split j m ts)) = ts

abbrev pub first_tree : Trees → Option Tree
first_tree end = none
first_tree (next t ts) = some t

abbrev pub later_trees : Trees → Trees
later_trees end = end
later_trees (next t ts) = ts

-- the valuation holds the tree, or nothing, at the place whose part begins with variable b
abbrev mutual
  pub Holds : Table → Valuation → Place → ℕ → Option Tree → Type 0
  Holds T v (slot L) b o = Hot v (task_vars (slot L) b) (shown_task o)
  Holds T v (inner L ps) b o = Hot v (task_vars (inner L ps) b) (shown_task o) × Hot v (method_vars T (inner L ps) b) (shown_method o) × HoldsEach T v ps (b + own_vars T (inner L ps)) (below o)

  pub HoldsEach : Table → Valuation → Places → ℕ → Trees → Type 0
  HoldsEach T v stop b ts = Unit {0}
  HoldsEach T v (also p ps) b ts = Holds T v p b (first_tree ts) × HoldsEach T v ps (b + part_vars T p) (later_trees ts)

-- a job's method is one of those that have a variable there, and it is that job's; the trees below are those of its body
abbrev pub Made : Table → Label → Option Tree → Type 0
Made T L none = Unit {0}
Made T L (some (alone s)) = Unit {0}
Made T L (some (split j m ts)) = (m ∈ methods_of T L.jobs) × (job_of T m ≡ j) × (tops ts ≡ body_of T m)

abbrev mutual
  pub Fits : Table → Place → Option Tree → Type 0
  Fits T (slot L) o = Held (tasks_of (slot L)) (shown_task o)
  Fits T (inner L ps) o = Held (tasks_of (inner L ps)) (shown_task o) × Made T L o × FitsEach T ps (below o)

  pub FitsEach : Table → Places → Trees → Type 0
  FitsEach T stop ts = ts ≡ end
  FitsEach T (also p ps) ts = Fits T p (first_tree ts) × FitsEach T ps (later_trees ts)

-- what the places of a table are like: no task or method has two variables at a node, and there are children enough for each
pub record RegularInner (T : Table) (L : Label) (children : ℕ) : Type 0 where
  pub tasks : Distinct (map step L.steps ++ map job L.jobs)
  pub methods : Distinct (methods_of T L.jobs)
  pub bodies : (m : ℕ) → m ∈ methods_of T L.jobs → length (body_of T m) ≤ children
  pub steps : (s : ℕ) → s ∈ L.steps → 1 ≤ children

abbrev RegularSlot : Label → Type 0
RegularSlot L = Distinct (map step L.steps)

abbrev pub Regular : Table → Place → Type 0
Regular T = Everywhere RegularSlot (RegularInner T)

abbrev pub RegularEach : Table → Places → Type 0
RegularEach T = EverywhereEach RegularSlot (RegularInner T)
