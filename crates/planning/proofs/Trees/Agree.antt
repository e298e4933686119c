-- What a place holds and the variables of its part determine each other.
-- By recursion on the place.
use mathlib.Core.Path.{◌≡◌}
use mathlib.Core.Option.{Option}
use Prim.Native.Nat.{ℕ, ◌+◌, ◌≤◌, ◌<◌}
use native.Mathlib.Omega.{arith}
use native.Mathlib.Decide.{dec_lt}
use lib.ListN.{length}
use Rattle.lists.proofs.Number.{number_at}
use Rattle.planning.specs.Table.{Table}
use Rattle.planning.specs.Tree.{Tree, Trees}
use Rattle.planning.specs.Place.{Label, Place, slot, inner, Places, stop, also}
use Rattle.planning.specs.Variable.{tasks_of, own_vars, part_vars, parts_vars, task_vars, method_vars, methods_at}
use Rattle.planning.specs.Model.{Valuation}
use Rattle.planning.proofs.Range.{task_range, method_range}
use Rattle.planning.proofs.Trees.Hold.{shown_task, shown_method, below, first_tree, later_trees, Holds, HoldsEach}
use Rattle.planning.proofs.Trees.Chosen.{hot_agree, hot_same}

module _ (T : Table) (v w : Valuation) where
  mutual
    -- what a place holds depends on the variables of its part alone
    pub holds_agree : (p : Place) (b : ℕ) (o : Option Tree) → ((n : ℕ) → b ≤ n → n < b + part_vars T p → v n ≡ w n) → Holds T v p b o → Holds T w p b o
    holds_agree (slot L) b o a i =
        hot_agree v w (task_vars (slot L) b) (shown_task o)
        (λ x m. let r = task_range T (slot L) b x m in a x.0 r.0 r.1) i
    holds_agree (inner L ps) b o a i = (
      hot_agree v w (task_vars (inner L ps) b) (shown_task o) (λ x m. let r = task_range T (inner L ps) b x m in a x.0 r.0 r.1) i.0,
      hot_agree v w (method_vars T (inner L ps) b) (shown_method o) (λ x m. let r = method_range T (inner L ps) b x m in a x.0 r.0 (omega arith)) i.1,
      holds_agree_each ps (b + own_vars T (inner L ps)) (below o) (λ n p q. a n (omega arith) (omega arith)) i.2,
    )

    pub holds_agree_each : (ps : Places) (b : ℕ) (ts : Trees) → ((n : ℕ) → b ≤ n → n < b + parts_vars T ps → v n ≡ w n) → HoldsEach T v ps b ts → HoldsEach T w ps b ts
    holds_agree_each stop b ts a i = tt
    holds_agree_each (also p ps) b ts a i =
        (holds_agree p b (first_tree ts) (λ n h k. a n h (omega arith)) i.0, holds_agree_each ps (b + part_vars T p) (later_trees ts) (λ n h k. a n (omega arith) (omega arith)) i.1)

  inner_same : (L : Label) (ps : Places) (b : ℕ) (o : Option Tree) → Holds T v (inner L ps) b o → Holds T w (inner L ps) b o
      → ((n : ℕ) → b + own_vars T (inner L ps) ≤ n → n < b + own_vars T (inner L ps) + parts_vars T ps → v n ≡ w n) → (n : ℕ) → b ≤ n → n < b + part_vars T (inner L ps) → v n ≡ w n
  inner_same L ps b o i k f n h l = first (dec_lt n (b + length (tasks_of (inner L ps)))) (dec_lt n (b + own_vars T (inner L ps)))
    where
      first : Dec (n < b + length (tasks_of (inner L ps))) → Dec (n < b + own_vars T (inner L ps)) → v n ≡ w n
      first (yes q) z = let r = number_at b (tasks_of (inner L ps)) n h q in hot_same v w (task_vars (inner L ps) b) (shown_task o) i.0 k.0 (n, r.0) r.1
      first (no u) (yes q) =
          let r = number_at (b + length (tasks_of (inner L ps))) (methods_at T (inner L ps)) n (omega arith) (omega arith) in
          hot_same v w (method_vars T (inner L ps) b) (shown_method o) i.1 k.1 (n, r.0) r.1
      first (no u) (no z) = f n (omega arith) (omega arith)

  mutual
    -- two valuations that hold one tree there agree on every variable of the part
    pub holds_same : (p : Place) (b : ℕ) (o : Option Tree) → Holds T v p b o → Holds T w p b o → (n : ℕ) → b ≤ n → n < b + part_vars T p → v n ≡ w n
    holds_same (slot L) b o i k n h l =
        let r = number_at b (tasks_of (slot L)) n h (omega arith) in hot_same v w (task_vars (slot L) b) (shown_task o) i k (n, r.0) r.1
    holds_same (inner L ps) b o i k n h l = inner_same L ps b o i k (λ x p q. holds_same_each ps (b + own_vars T (inner L ps)) (below o) i.2 k.2 x p q) n h l

    pub holds_same_each : (ps : Places) (b : ℕ) (ts : Trees) → HoldsEach T v ps b ts → HoldsEach T w ps b ts → (n : ℕ) → b ≤ n → n < b + parts_vars T ps → v n ≡ w n
    holds_same_each stop b ts i k n h l = absurd (omega arith)
    holds_same_each (also p ps) b ts i k n h l = go (dec_lt n (b + part_vars T p)) (λ c d. holds_same p b (first_tree ts) i.0 k.0 n c d) (λ c d. holds_same_each ps (b + part_vars T p) (later_trees ts) i.1 k.1 n c d)
      where
        go : Dec (n < b + part_vars T p) → (b ≤ n → n < b + part_vars T p → v n ≡ w n) → (b + part_vars T p ≤ n → n < b + part_vars T p + parts_vars T ps → v n ≡ w n) → v n ≡ w n
        go (yes q) f g = f h q
        go (no u) f g = g (omega arith) (omega arith)
