-- Which variables a part of the tree of places has: those from its first on, as many as the part has.
-- By recursion on the place.
use mathlib.Core.List.{List}
use mathlib.Core.Logic.{⊎_elim, inl, inr}
use Prim.Native.Nat.{ℕ, ◌+◌, ◌≤◌, ◌<◌}
use native.Mathlib.Omega.{arith}
use lib.ListN.{length, length-map}
use Rattle.lists.specs.List.{◌∈◌}
use Rattle.lists.proofs.Member.{in_append}
use Rattle.lists.proofs.Number.{number_range}
use Rattle.planning.specs.Table.{Task, step, Table}
use Rattle.planning.specs.Place.{Place, slot, inner, Places, stop, also}
use Rattle.planning.specs.Variable.{tasks_of, own_vars, part_vars, parts_vars, task_vars, method_vars, child_vars, slot_vars, slots_vars, methods_at}
use Rattle.planning.proofs.Task.{step_vars_lem}

-- n is one of the k variables from b on
abbrev pub InRange : (b k n : ℕ) → Type 0
InRange b k n = (b ≤ n) × (n < b + k)

module _ (T : Table) where
  pub task_range : (p : Place) (b : ℕ) (x : ℕ × Task) → x ∈ task_vars p b → InRange b (part_vars T p) x.0
  task_range (slot L) b x m = let r = number_range b (tasks_of (slot L)) x m in (r.0, omega arith)
  task_range (inner L ps) b x m = let r = number_range b (tasks_of (inner L ps)) x m in (r.0, omega arith)

  pub method_range : (p : Place) (b : ℕ) (x : ℕ × ℕ) → x ∈ method_vars T p b → InRange b (own_vars T p) x.0
  method_range p b x m = let r = number_range (b + length (tasks_of p)) (methods_at T p) x m in (omega arith, omega arith)

  pub child_range : (ps : Places) (b : ℕ) (c : List (ℕ × Task)) → c ∈ child_vars T ps b → (x : ℕ × Task) → x ∈ c → InRange b (parts_vars T ps) x.0
  child_range stop b c k x m = absurd k
  child_range (also p ps) b c (inl e) x m = let r = task_range p b x (rw e at m) in (r.0, omega arith)
  child_range (also p ps) b c (inr k) x m = let r = child_range ps (b + part_vars T p) c k x m in (omega arith, omega arith)

  mutual
    pub slot_range : (p : Place) (b : ℕ) (xs : List (ℕ × ℕ)) → xs ∈ slot_vars T p b → (x : ℕ × ℕ) → x ∈ xs → InRange b (part_vars T p) x.0
    slot_range (slot L) b xs (inl e) x m = let r = number_range b L.steps x (rw (e, step_vars_lem b L.steps) at m) in (r.0, omega (arith, length-map L.steps step))
    slot_range (slot L) b xs (inr k) x m = absurd k
    slot_range (inner L ps) b xs k x m = let r = slots_range ps (b + own_vars T (inner L ps)) xs k x m in (omega arith, omega arith)

    pub slots_range : (ps : Places) (b : ℕ) (xs : List (ℕ × ℕ)) → xs ∈ slots_vars T ps b → (x : ℕ × ℕ) → x ∈ xs → InRange b (parts_vars T ps) x.0
    slots_range stop b xs k x m = absurd k
    slots_range (also p ps) b xs k x m =
        ⊎_elim (λ q. let r = slot_range p b xs q x m in (r.0, omega arith)) (λ q. let r = slots_range ps (b + part_vars T p) xs q x m in (omega arith, omega arith))
        (in_append xs (slot_vars T p b) (slots_vars T ps (b + part_vars T p)) k)
