-- How much a node of a table's places may hold, and how many children it has: no more than the table's counts allow.
-- By recursion on the place.
use mathlib.Core.Path.{◌≡◌, refl, ap}
use mathlib.Core.Bool.{◌&&◌, ◌||◌}
use mathlib.Core.List.{List, [], ◌∷◌}
use mathlib.Core.Logic.{⊎_elim, inl, inr}
use Prim.Native.Nat.{ℕ, suc, ◌+◌, ◌≤◌}
use native.Mathlib.Omega.{arith}
use lib.ListN.{length, length-map, length-append}
use lib.Dec.{eqb}
use Rattle.lists.specs.List.{◌∈◌, Every, up_to, has}
use Rattle.lists.proofs.Member.{in_append, length_filter}
use Rattle.lists.proofs.Every.{every_get_d}
use Rattle.lists.proofs.Number.{length_from, number_length}
use Rattle.planning.specs.Table.{Task, step, job, Method, Table, no_method, job_of, body_of}
use Rattle.planning.specs.Place.{Label, Place, slot, inner, Places, stop, also, methods_of, longest, one_if_any, child_count, named, child_label, root_label, root_place, nodes, nodes_of, count}
use Rattle.planning.specs.Variable.{tasks_of, own_vars, part_vars, task_vars, child_vars, slot_vars, slots_vars}
use Rattle.planning.proofs.Task.{length_tasks, step_vars_lem}
use Rattle.planning.proofs.Everywhere.{Everywhere, EverywhereEach, everywhere}

-- at a node at most S steps and J jobs
pub record LabelSized (S J : ℕ) (L : Label) : Type 0 where
  pub steps : length L.steps ≤ S
  pub jobs : length L.jobs ≤ J

-- at each node so many and, where it is inner, at most C children
module _ (S J C : ℕ) where
  abbrev pub Sized : Place → Type 0
  Sized = Everywhere (LabelSized S J) (λ L c. LabelSized S J L × (c ≤ C))

  abbrev pub SizedEach : Places → Type 0
  SizedEach = EverywhereEach (LabelSized S J) (λ L c. LabelSized S J L × (c ≤ C))

  -- so much for the task variables of a node, of its children, of a slot
  pub tasks_sized : (p : Place) (b : ℕ) → Sized p → length (task_vars p b) ≤ S + J
  tasks_sized (slot L) b h = omega (arith, number_length b (tasks_of (slot L)), length-map L.steps step, h.steps)
  tasks_sized (inner L ps) b h = omega (arith, number_length b (tasks_of (inner L ps)), length_tasks L.steps L.jobs, h.0.0.steps, h.0.0.jobs)

  module _ (T : Table) where
    pub children_sized : (ps : Places) (b : ℕ) → SizedEach ps → (c : List (ℕ × Task)) → c ∈ child_vars T ps b → length c ≤ S + J
    children_sized stop b h c m = absurd m
    children_sized (also p ps) b h c (inl e) = rw e (tasks_sized p b h.0)
    children_sized (also p ps) b h c (inr m) = children_sized ps (b + part_vars T p) h.1 c m

    mutual
      pub slot_sized : (p : Place) (b : ℕ) → Sized p → (xs : List (ℕ × ℕ)) → xs ∈ slot_vars T p b → length xs ≤ S
      slot_sized (slot L) b h xs (inl e) = rw (e, step_vars_lem b L.steps) (omega (arith, number_length b L.steps, h.steps))
      slot_sized (slot L) b h xs (inr m) = absurd m
      slot_sized (inner L ps) b h xs m = slots_sized ps (b + own_vars T (inner L ps)) h.1 xs m

      slots_sized : (ps : Places) (b : ℕ) → SizedEach ps → (xs : List (ℕ × ℕ)) → xs ∈ slots_vars T ps b → length xs ≤ S
      slots_sized stop b h xs m = absurd m
      slots_sized (also p ps) b h xs m =
          ⊎_elim (λ k. slot_sized p b h.0 xs k) (λ k. slots_sized ps (b + part_vars T p) h.1 xs k) (in_append xs (slot_vars T p b) (slots_vars T ps (b + part_vars T p)) m)

-- The places of a table -------------------------------------------------------------------------------------------------------
module _ (T : Table) where
  pub methods_length : (js : List ℕ) → length (methods_of T js) ≤ length T.methods
  methods_length js = omega (arith, length_filter (λ m. has js (job_of T m)) (up_to (length T.methods)), length_from 0 (length T.methods))

  pub children_length : (ps : Places) (b : ℕ) → length (child_vars T ps b) ≡ count ps
  children_length stop b = refl
  children_length (also p ps) b = ap suc (children_length ps (b + part_vars T p))

  -- a slot is a node
  mutual
    pub slots_nodes : (p : Place) (b : ℕ) → length (slot_vars T p b) ≤ nodes p
    slots_nodes (slot L) b = omega arith
    slots_nodes (inner L ps) b = omega (arith, slots_nodes_of ps (b + own_vars T (inner L ps)))

    slots_nodes_of : (ps : Places) (b : ℕ) → length (slots_vars T ps b) ≤ nodes_of ps
    slots_nodes_of stop b = omega arith
    slots_nodes_of (also p ps) b = simp length-append (omega (arith, slots_nodes p b, slots_nodes_of ps (b + part_vars T p)))

  -- bodies of at most C names, C at least 1
  module _ (C : ℕ) (one : 1 ≤ C) (bodies : Every (λ (m : Method). length m.body ≤ C) T.methods) where
    body_short : (m : ℕ) → length (body_of T m) ≤ C
    body_short m = every_get_d (λ (k : Method). length k.body ≤ C) T.methods no_method bodies (omega arith) m

    longest_short : (ms : List ℕ) → longest T ms ≤ C
    longest_short [] = omega arith
    longest_short (m ∷ ms) = omega (arith, body_short m, longest_short ms)

    any_one : (ss : List ℕ) → one_if_any ss ≤ 1
    any_one [] = omega arith
    any_one (s ∷ ss) = omega arith

    pub children_short : (L : Label) → child_count T L ≤ C
    unfolding child_count
    children_short L = omega (arith, any_one L.steps, longest_short (methods_of T L.jobs))

    child_sized : (L : Label) (i : ℕ) → LabelSized (length T.steps) T.jobs (child_label T L i)
    unfolding child_label
    child_sized L i = record {
      steps = omega (arith, length_filter (λ s. named T L i (step s) || (eqb i 0 && has L.steps s)) (up_to (length T.steps)), length_from 0 (length T.steps));
      jobs = omega (arith, length_filter (λ j. named T L i (job j)) (up_to T.jobs), length_from 0 T.jobs);
    }

    pub root_sized : 1 ≤ T.jobs → Sized (length T.steps) T.jobs C (root_place T)
    root_sized h =
        everywhere (LabelSized (length T.steps) T.jobs) (λ L c. LabelSized (length T.steps) T.jobs L × (c ≤ C)) T (LabelSized (length T.steps) T.jobs)
        child_sized (λ L l. l) (λ L l. (l, children_short L)) T.depth (root_label T) (record { steps = omega arith; jobs = h })
