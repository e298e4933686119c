-- The three loops over variables: of a node's methods, of its tasks, of a slot's steps.
-- By the laws of such loops, and by what is looked up at each turn.
use mathlib.Core.Path.{◌≡◌, refl, sym, ap, ◌∙◌}
use mathlib.Core.Bool.{Bool, true}
use mathlib.Core.List.{List, [], ◌∷◌, ◌++◌, map}
use Prim.Native.Nat.{ℕ, ◌+◌, ◌-◌, ◌≤◌, ◌<◌}
use native.Mathlib.Omega.{arith}
use lib.Dec.{eqb}
use lib.ListN.{length, get_or}
use Rattle.lists.specs.List.{filter}
use Rattle.lists.proofs.Number.{number_length}
use Rattle.planning.specs.Table.{Task, step, job, Table, job_of}
use Rattle.planning.specs.Clause.{pos, all_pos}
use Rattle.planning.proofs.Task.{length_tasks}
use Rattle.places.specs.Flat.{Node, tasks_at, method_vars_at}
use Rattle.places.specs.ClausePlace.{method_at, method_var, tasks_n, slot_at}
use Rattle.places.specs.Lookup.{lit_if}
use Rattle.index.specs.Index.{source, meanings_at, SlotAt}
use Rattle.shape.specs.Shape.{node, InSlot}
use Rattle.shape.proofs.Slots.{variable_is, step_at}
use Rattle.clause.specs.Parts.{codes, moves}
use Rattle.clause.proofs.Loops.{number_get_d, filter_all, Passed, passed_more, passed_all}

-- The methods of job j ----------------------------------------------------------------------------------------------------------
module _ (T : Table) (N : Node) (j : ℕ) where
  abbrev pub of_job : ℕ × ℕ → Bool
  of_job m = eqb (job_of T m.1) j

  abbrev pub Methods : (o₀ o : List ℕ) (x : ℕ) → Type 0
  Methods o₀ o x = Passed of_job (method_vars_at N) o₀ o x

  many : length (method_vars_at N) ≡ length N.methods
  many = number_length (N.first + tasks_n N) N.methods

  module _ {k : ℕ} (e : k ≡ length N.methods) (o₀ : List ℕ) {o : List ℕ} (x : ℕ) (u : Methods o₀ o x) where
    pub methods_more : {o' : List ℕ} {v m p : ℕ} → x < k → v ≡ method_var N x → m ≡ method_at N x → p ≡ job_of T m
        → o' ≡ o ++ codes (lit_if (eqb p j) v) → Methods o₀ o' (x + 1)
    methods_more {o'} {v} {m} {p} h f g q w =
        let y : get_or (method_vars_at N) x (0, 0) ≡ (method_var N x, method_at N x) =
        number_get_d (N.first + tasks_n N) x N.methods (0, 0) (omega (arith, e)) in
        passed_more of_job (method_vars_at N) o₀ x u {b = eqb p j} (0, 0) (omega (arith, e, many)) (f ∙ sym (ap (λ (z : ℕ × ℕ). z.0) y)) (rw (y, q, g)) w

    pub methods_all : k ≤ x → o ≡ o₀ ++ codes (all_pos (filter of_job (method_vars_at N)))
    methods_all h = passed_all of_job (method_vars_at N) o₀ x u (omega (arith, e, many))

-- All tasks ---------------------------------------------------------------------------------------------------------------------
module _ (N : Node) where
  abbrev pub any_task : ℕ × Task → Bool
  any_task t = true

  abbrev pub AllTasks : (o₀ o : List ℕ) (x : ℕ) → Type 0
  AllTasks o₀ o x = Passed any_task (tasks_at N) o₀ o x

  many_tasks : length (tasks_at N) ≡ tasks_n N
  many_tasks = number_length N.first (map step N.steps ++ map job N.jobs) ∙ length_tasks N.steps N.jobs

  module _ {k : ℕ} (e : k ≡ tasks_n N) (o₀ : List ℕ) {o : List ℕ} (x : ℕ) (u : AllTasks o₀ o x) where
    pub tasks_more : {o' : List ℕ} {v : ℕ} → x < k → v ≡ N.first + x → o' ≡ o ++ codes (pos v ∷ []) → AllTasks o₀ o' (x + 1)
    tasks_more {o'} {v} h f w =
        let l = map step N.steps ++ map job N.jobs in
        let y : (get_or (tasks_at N) x (0, step 0)).0 ≡ N.first + x =
        ap (λ (z : ℕ × Task). z.0) (number_get_d N.first x l (0, step 0) (omega (arith, e, length_tasks N.steps N.jobs))) in
        passed_more any_task (tasks_at N) o₀ x u {b = true} (0, step 0) (omega (arith, e, many_tasks)) (f ∙ sym y) refl w

    pub tasks_all : k ≤ x → o ≡ o₀ ++ codes (all_pos (tasks_at N))
    tasks_all h =
        passed_all any_task (tasks_at N) o₀ x u (omega (arith, e, many_tasks))
        ∙ ap (λ (l : List (ℕ × Task)). o₀ ++ codes (all_pos l)) (filter_all (tasks_at N))

-- The steps of a slot that make fact f rise, or fall ------------------------------------------------------------------------------
module _ (T : Table) (n f : ℕ) (rising : Bool) where
  abbrev pub moving : ℕ × ℕ → Bool
  moving x = moves T rising f x.1

  abbrev pub Steps : (o₀ o : List ℕ) (x : ℕ) → Type 0
  Steps o₀ o x = Passed moving (slot_at (source T) n) o₀ o x

  module _ {k : ℕ} (e : k ≡ length (slot_at (source T) n)) (o₀ : List ℕ) {o : List ℕ} (x : ℕ) (u : Steps o₀ o x) where
    pub steps_more : {o' : List ℕ} {v t : ℕ} {b : Bool} → x < k → v ≡ (get_or (slot_at (source T) n) x (0, 0)).0
        → t ≡ (get_or (slot_at (source T) n) x (0, 0)).1 → b ≡ moves T rising f t
        → o' ≡ o ++ codes (lit_if b v) → Steps o₀ o' (x + 1)
    steps_more {o'} {v} {t} {b} h p q g w = passed_more moving (slot_at (source T) n) o₀ x u (0, 0) (omega (arith, e)) p (g ∙ ap (moves T rising f) q) w

    pub steps_all : k ≤ x → o ≡ o₀ ++ codes (all_pos (filter moving (slot_at (source T) n)))
    steps_all h = passed_all moving (slot_at (source T) n) o₀ x u (omega (arith, e))

-- its first variable is a, at node c; b is the word of variable 1
module _ {T : Table} {ix : List ℕ} {n c a k x : ℕ} (i : InSlot T ix n) (node_of : SlotAt T n c) (first_of : (a ≡ (node T c).first) × (1 ≤ a) × (a ≤ 8192))
    (size : k ≡ length (slot_at (source T) n)) (h : x < k) where
  pub slot_variable : (a + x ≡ (get_or (slot_at (source T) n) x (0, 0)).0) × (1 ≤ a + x) × (a + x ≤ 8256)
  slot_variable = variable_is i node_of (omega (arith, size)) first_of

  pub slot_step : {b s : ℕ} → b ≡ meanings_at ix → s ≡ get_or ix (b + (a - 1) + x) 0 → (s ≡ (get_or (slot_at (source T) n) x (0, 0)).1) × (s < 64)
  slot_step {b} {s} e q =
      let z : b + (a - 1) + x ≡ meanings_at ix + (a + x - 1) = omega (arith, e, first_of.1) in
      step_at i (omega (arith, size)) slot_variable.0 (q ∙ ap (λ (j : ℕ). get_or ix j 0) z)
