-- What a valuation that holds a tree gives: the tree as it is read, and the steps at the slots.
-- By recursion on the place.
use mathlib.Core.Path.{◌≡◌, refl, sym, ap, ◌∙◌, subst}
use mathlib.Core.List.{List, [], ◌∷◌, ◌++◌, map}
use mathlib.Core.Logic.{⊎_elim, inl, inr, ◌↔◌}
use mathlib.Core.Option.{Option, none, some}
use Prim.Native.Nat.{ℕ, suc, ◌+◌}
use native.Mathlib.Omega.{arith}
use lib.ListN.{length}
use Rattle.lists.specs.List.{number, ◌∈◌, Distinct}
use Rattle.lists.proofs.Bool.{none≢some}
use Rattle.lists.proofs.Member.{in_append, in_map_in}
use Rattle.lists.proofs.Every.{concat_map_append}
use Rattle.planning.specs.Table.{Task, step, Table}
use Rattle.planning.specs.Tree.{Tree, alone, split, Trees, end, next, tops, tree_steps, trees_steps}
use Rattle.planning.specs.Place.{Label, Place, slot, inner, Places, stop, also, methods_of}
use Rattle.planning.specs.Variable.{tasks_of, own_vars, part_vars, method_vars, slot_vars, slots_vars}
use Rattle.planning.specs.Model.{Valuation, chosen, split_with, next_with, tree_at, read, reads}
use Rattle.planning.proofs.Task.{no_job, step_in, step_vars_lem}
use Rattle.planning.proofs.Satisfy.{true_ones, list_of, slot_steps}
use Rattle.planning.proofs.Trees.Hold.{Hot, Held, shown_task, shown_method, below, first_tree, later_trees, Holds, HoldsEach, Made, Fits, FitsEach, Regular, RegularEach}
use Rattle.planning.proofs.Trees.Chosen.{ones_hot, chosen_hot}

-- Steps ------------------------------------------------------------------------------------------------------------------
-- the steps of what a node holds
abbrev pub shown_steps : Option Tree → List ℕ
shown_steps none = []
shown_steps (some t) = tree_steps t

steps_below : (o : Option Tree) → trees_steps (below o) ≡ shown_steps o
steps_below none = refl
steps_below (some (alone s)) = refl
steps_below (some (split j m ts)) = refl

-- a slot's variables, by their steps
abbrev shown_step : Option Tree → Option ℕ
shown_step none = none
shown_step (some (alone s)) = some s
shown_step (some (split j m ts)) = none

as_task : (b : ℕ) (ss : List ℕ) (x : ℕ × ℕ) → x ∈ number b ss → (x.0, step x.1) ∈ number b (map step ss)
as_task b [] x m = absurd m
as_task b (s ∷ ss) x (inl e) = inl (ap (λ (z : ℕ × ℕ). (z.0, step z.1)) e)
as_task b (s ∷ ss) x (inr m) = inr (as_task (suc b) ss x m)

step_top : (o : Option Tree) (s : ℕ) → (shown_task o ≡ some (step s)) ↔ (shown_step o ≡ some s)
step_top none s = (λ e. none≢some e, λ e. none≢some e)
step_top (some (alone r)) s = (λ e. cc, λ e. cc)
step_top (some (split j m ts)) s = (λ e. let z : ◌≡◌ {A = ℕ} 0 1 = cc in absurd (omega arith), λ e. none≢some e)

hot_steps : (v : Valuation) (b : ℕ) (ss : List ℕ) (o : Option Tree) → Hot v (number b (map step ss)) (shown_task o) → Hot v (number b ss) (shown_step o)
hot_steps v b ss o h x m =
    let k = h (x.0, step x.1) (as_task b ss x m) in
    (λ e. (step_top o x.1).0 (k.0 e), λ e. k.1 ((step_top o x.1).1 e))

held_step : (ss : List ℕ) (o : Option Tree) → Held (map step ss) (shown_task o) → Held ss (shown_step o)
held_step ss none h = tt
held_step ss (some (alone s)) h = step_in s ss h
held_step ss (some (split j m ts)) h = tt

distinct_steps : (ss : List ℕ) → Distinct (map step ss) → Distinct ss
distinct_steps [] d = tt
distinct_steps (s ∷ ss) d = (λ m. d.0 (in_map_in step s ss m), distinct_steps ss d.1)

slot_list : (ss : List ℕ) (o : Option Tree) → Held (map step ss) (shown_task o) → list_of (shown_step o) ++ [] ≡ shown_steps o
slot_list ss none h = refl
slot_list ss (some (alone s)) h = refl
slot_list ss (some (split j m ts)) h = absurd (no_job j ss h)

module _ (T : Table) (v : Valuation) where
  read_node : (L : Label) (ps : Places) (b : ℕ) (o : Option Tree) → Holds T v (inner L ps) b o → Fits T (inner L ps) o
      → ((ts : Trees) → HoldsEach T v ps (b + own_vars T (inner L ps)) ts → FitsEach T ps ts → reads T v ps (b + own_vars T (inner L ps)) (tops ts) ≡ some ts)
      → tree_at T (shown_task o) (shown_method o) (λ ts. reads T v ps (b + own_vars T (inner L ps)) ts) ≡ o
  read_node L ps b none i f k = refl
  read_node L ps b (some (alone s)) i f k = refl
  read_node L ps b (some (split j m ts)) i f k = rw (← f.1.2) (ap (split_with j m) (k ts i.2 f.2))

  held_method : (L : Label) (o : Option Tree) → Made T L o → Held (methods_of T L.jobs) (shown_method o)
  held_method L none h = tt
  held_method L (some (alone s)) h = tt
  held_method L (some (split j m ts)) h = h.0

  read_slot : (L : Label) (o : Option Tree) → Held (tasks_of (slot L)) (shown_task o) → tree_at T (shown_task o) none (λ ts. none) ≡ o
  read_slot L none h = refl
  read_slot L (some (alone s)) h = refl
  read_slot L (some (split j m ts)) h = absurd (no_job j L.steps h)

  mutual
    pub read_holds : (p : Place) (b : ℕ) (o : Option Tree) → Holds T v p b o → Fits T p o → read T v p b ≡ o
    read_holds (slot L) b o i f = ap (λ (z : Option Task). tree_at T z none (λ ts. none)) (chosen_hot v b (tasks_of (slot L)) (shown_task o) i f) ∙ read_slot L o f
    read_holds (inner L ps) b o i f =
        ap (λ (z : Option Task). tree_at T z (chosen v (method_vars T (inner L ps) b)) (λ ts. reads T v ps (b + own_vars T (inner L ps)) ts)) (chosen_hot v b (tasks_of (inner L ps)) (shown_task o) i.0 f.0)
        ∙ (ap (λ (z : Option ℕ). tree_at T (shown_task o) z (λ ts. reads T v ps (b + own_vars T (inner L ps)) ts)) (chosen_hot v (b + length (tasks_of (inner L ps))) (methods_of T L.jobs) (shown_method o) i.1 (held_method L o f.1))
        ∙ read_node L ps b o i f (λ ts is fs. reads_hold ps (b + own_vars T (inner L ps)) ts is fs))

    pub reads_hold : (ps : Places) (b : ℕ) (ts : Trees) → HoldsEach T v ps b ts → FitsEach T ps ts → reads T v ps b (tops ts) ≡ some ts
    reads_hold stop b end i f = refl
    reads_hold stop b (next t ts) i f = absurd (let z : ◌≡◌ {A = ℕ} 0 1 = cc in omega arith)
    reads_hold (also p ps) b end i f = refl
    reads_hold (also p ps) b (next t ts) i f =
        ap (λ (z : Option Tree). next_with z (reads T v ps (b + part_vars T p) (tops ts))) (read_holds p b (some t) i.0 f.0)
        ∙ ap (next_with (some t)) (reads_hold ps (b + part_vars T p) ts i.1 f.1)

  mutual
    pub slot_steps_lem : (p : Place) (b : ℕ) (o : Option Tree) → Regular T p → Holds T v p b o → Fits T p o → slot_steps v (slot_vars T p b) ≡ shown_steps o
    slot_steps_lem (slot L) b o sd i f =
        ap (λ (xs : List (ℕ × ℕ)). true_ones v xs ++ []) (step_vars_lem b L.steps)
        ∙ (ap (λ (l : List ℕ). l ++ []) (ones_hot v b L.steps (shown_step o) (distinct_steps L.steps sd) (hot_steps v b L.steps o i) (held_step L.steps o f))
        ∙ slot_list L.steps o f)
    slot_steps_lem (inner L ps) b o sd i f = slots_steps ps (b + own_vars T (inner L ps)) (below o) sd.1 i.2 f.2 ∙ steps_below o

    pub slots_steps : (ps : Places) (b : ℕ) (ts : Trees) → RegularEach T ps → HoldsEach T v ps b ts → FitsEach T ps ts → slot_steps v (slots_vars T ps b) ≡ trees_steps ts
    slots_steps stop b ts sd i f = ap trees_steps (sym f)
    slots_steps (also p ps) b end sd i f =
        concat_map_append (true_ones v) (slot_vars T p b) (slots_vars T ps (b + part_vars T p))
        ∙ (ap (λ (r : List ℕ). r ++ slot_steps v (slots_vars T ps (b + part_vars T p))) (slot_steps_lem p b none sd.0 i.0 f.0) ∙ slots_steps ps (b + part_vars T p) end sd.1 i.1 f.1)
    slots_steps (also p ps) b (next t ts) sd i f =
        concat_map_append (true_ones v) (slot_vars T p b) (slots_vars T ps (b + part_vars T p))
        ∙ (ap (λ (r : List ℕ). r ++ slot_steps v (slots_vars T ps (b + part_vars T p))) (slot_steps_lem p b (some t) sd.0 i.0 f.0)
        ∙ ap (λ (r : List ℕ). tree_steps t ++ r) (slots_steps ps (b + part_vars T p) ts sd.1 i.1 f.1))

  -- at a slot at most one step is true: the one that is chosen
  abbrev pub OneAt : List (ℕ × ℕ) → Type 0
  OneAt xs = Hot v xs (chosen v xs) × (true_ones v xs ≡ list_of (chosen v xs))

  slot_one : (L : Label) (b : ℕ) (o : Option Tree) → Regular T (slot L) → Holds T v (slot L) b o → Fits T (slot L) o → OneAt (number b L.steps)
  slot_one L b o sd i f =
      let h = hot_steps v b L.steps o i in
      let k = held_step L.steps o f in
      rw (chosen_hot v b L.steps (shown_step o) h k) (h, ones_hot v b L.steps (shown_step o) (distinct_steps L.steps sd) h k)

  mutual
    pub slots_one : (p : Place) (b : ℕ) (o : Option Tree) → Regular T p → Holds T v p b o → Fits T p o → (xs : List (ℕ × ℕ)) → xs ∈ slot_vars T p b → OneAt xs
    slots_one (slot L) b o sd i f xs (inl e) = subst OneAt (sym (e ∙ step_vars_lem b L.steps)) (slot_one L b o sd i f)
    slots_one (slot L) b o sd i f xs (inr m) = absurd m
    slots_one (inner L ps) b o sd i f xs m = slots_ones ps (b + own_vars T (inner L ps)) (below o) sd.1 i.2 f.2 xs m

    pub slots_ones : (ps : Places) (b : ℕ) (ts : Trees) → RegularEach T ps → HoldsEach T v ps b ts → FitsEach T ps ts → (xs : List (ℕ × ℕ)) → xs ∈ slots_vars T ps b → OneAt xs
    slots_ones stop b ts sd i f xs m = absurd m
    slots_ones (also p ps) b ts sd i f xs m =
        ⊎_elim (λ k. slots_one p b (first_tree ts) sd.0 i.0 f.0 xs k) (λ k. slots_ones ps (b + part_vars T p) (later_trees ts) sd.1 i.1 f.1 xs k)
        (in_append xs (slot_vars T p b) (slots_vars T ps (b + part_vars T p)) m)
