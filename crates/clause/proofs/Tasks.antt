-- The literal of a task at a node, and the literals of the clauses that name one.
-- By its place in the rising set.
use mathlib.Core.Path.{◌≡◌, refl, sym, ap, ◌∙◌}
use mathlib.Core.Bool.{Bool, true, false}
use mathlib.Core.List.{List, [], ◌∷◌, ◌++◌, map}
use mathlib.Core.Option.{Option, some, none}
use Prim.Native.Nat.{ℕ, zero, suc, ◌+◌, ◌*◌, ◌≤◌, ◌<◌}
use native.Mathlib.Omega.{arith}
use lib.ListN.{length, get_or, get_elem?, length-map, length-take}
use Rattle.lists.proofs.Number.{number_length}
use Rattle.bitset.specs.Set.{contains, members_below, members}
use Rattle.bitset.proofs.Promises.{promises}
use Rattle.planning.specs.Table.{Task, step, job, Table, body_of}
use Rattle.planning.specs.Clause.{pos, neg, Clause, all_pos, var_of}
use Rattle.planning.proofs.Task.{length_tasks}
use Rattle.writer.specs.Literal.{code_of}
use Rattle.places.specs.Flat.{tasks_at, child_tasks}
use Rattle.places.specs.Nest.{at}
use Rattle.places.specs.ClausePlace.{child_at, method_at, method_var, named_at, place_at, literals}
use Rattle.places.specs.Lookup.{rank, lit_if}
use Rattle.places.proofs.Lookup.{step_lit, job_lit}
use Rattle.places.proofs.Rank.{members_rank}
use Rattle.shape.specs.Shape.{node, InNode}
use Rattle.shape.proofs.Nodes.{sizes, node_steps, node_jobs, child_known}
use Rattle.clause.specs.Parts.{codes, lits_of, at_child}
use Rattle.index.specs.Index.{source}
use borrow.Author.Tests.{ltb-true, ltb-false}
use Rattle.table.specs.Layout.{task_from}
use Rattle.table.specs.declared.Task.{Task as CodeTask}
use Rattle.table.specs.declared.Task.TheVariants.{Step as StepTask, Job as JobTask}
use Rattle.std.proofs.Common.{Some}

-- the count of members below a number is its place
pub rank_is : {r : ℕ} (ws : List ℕ) (i : ℕ) → r ≡ length (members_below ws i) → (r ≡ rank (members ws) i) × (r ≤ 64 * length ws)
rank_is {r} ws i e = (
  e ∙ sym (members_rank ws i),
  omega (arith, e, ap length (promises.first ws i), length-take (length (members_below ws i)) (members ws), promises.at_most ws),
)

module _ {T : Table} {ix : List ℕ} {n : ℕ} (i : InNode T ix n) where
  -- at its place, where the set in the word w has it
  pub step_lits : {v : ℕ} (w s : ℕ) → members (w ∷ []) ≡ (node T n).steps → v ≡ (node T n).first + 0
      → lit_if (contains (w ∷ []) s) (v + rank (members (w ∷ [])) s) ≡ var_of (step s) (tasks_at (node T n))
  step_lits {v} w s e g =
      let z : v ≡ (node T n).first = omega (arith, g) in
      rw (z, promises.member (w ∷ []) s, e)
      (sym (step_lit 0 (length T.steps) (node T n).first (node T n).steps (node T n).jobs s (node_steps T i.indexed.accepted n i.there)))

  pub job_lits : {v : ℕ} (w j : ℕ) → members (w ∷ []) ≡ (node T n).jobs → v ≡ (node T n).first + length (node T n).steps + 0
      → lit_if (contains (w ∷ []) j) (v + rank (members (w ∷ [])) j) ≡ var_of (job j) (tasks_at (node T n))
  job_lits {v} w j e g =
      let z : v ≡ (node T n).first + length (node T n).steps = omega (arith, g) in
      rw (z, promises.member (w ∷ []) j, e)
      (sym (job_lit 0 T.jobs (node T n).first (node T n).steps (node T n).jobs j (node_jobs T i.indexed.accepted n i.there)))

  -- at child y, which is the node c
  pub child_lits : {c : ℕ} (y : ℕ) (t : Task) → y < length (node T n).children → c ≡ (child_at (node T n) y).node
      → var_of t (tasks_at (node T c)) ≡ var_of t (child_tasks (child_at (node T n) y))
  child_lits {c} y t h e =
      let k = child_known i y h in
      rw (e, k.first, k.steps, k.jobs)

-- a task that is named at child y, which is the node c
pub named_lits : {T : Table} {ix : List ℕ} {n c : ℕ} (i : InNode T ix n) (v y k : ℕ) (t : CodeTask) → y < length (node T n).children
    → c ≡ (child_at (node T n) y).node → neg v ∷ lits_of (task_from (Some t)) (node T c) ≡ at_child (node T n) v y (task_from (Some t)) k
named_lits i v y k (StepTask s) h e = ap (λ (c : Clause). neg v ∷ c) (child_lits i y (step s) h e)
named_lits i v y k (JobTask j) h e = ap (λ (c : Clause). neg v ∷ c) (child_lits i y (job j) h e)

elem_at : {A : Type 0} (xs : List A) (y : ℕ) (d : A) → y < length xs → get_elem? xs y ≡ some (get_or xs y d)
elem_at [] y d h = absurd (omega arith)
elem_at (x ∷ xs) zero d h = refl
elem_at (x ∷ xs) (suc y) d h = elem_at xs y d (omega arith)

none_at : {A : Type 0} (xs : List A) (y : ℕ) → length xs ≤ y → get_elem? xs y ≡ none
none_at [] y h = refl
none_at (x ∷ xs) zero h = absurd (omega arith)
none_at (x ∷ xs) (suc y) h = none_at xs y (omega arith)

-- (e): what the body of method x names at child y
pub body_at : {m v : ℕ} {t : Option Task} (T : Table) (n x y i : ℕ) → m ≡ method_at (node T n) x → t ≡ get_elem? (body_of T m) y
    → v ≡ method_var (node T n) x → at_child (node T n) v y t i ≡ literals (source T) (place_at (source T) (at 1 n 4 x y i))
body_at {m} {v} {t} T n x y i e f g = go (named_at T (node T n) x y) refl
  where
    named : List Task
    named = body_of T (method_at (node T n) x)

    go : (b : Bool) → named_at T (node T n) x y ≡ b → at_child (node T n) v y t i ≡ literals (source T) (place_at (source T) (at 1 n 4 x y i))
    go true h = rw (h, f, e, g, elem_at named y (step 0) (ltb-true y (length named) h))
    go false h = rw (h, f, e, g, none_at named y (ltb-false y (length named) h))

-- at most 128 task variables
pub tasks_most : {T : Table} {ix : List ℕ} {n : ℕ} (i : InNode T ix n) → length (codes (all_pos (tasks_at (node T n)))) ≤ 128
tasks_most {T} {ix} {n} i =
    let N = node T n in
    let s = sizes T i.indexed.accepted n in
    omega (
      arith,
      length-map (all_pos (tasks_at N)) code_of,
      length-map (tasks_at N) (λ (x : ℕ × Task). pos x.0),
      number_length N.first (map step N.steps ++ map job N.jobs),
      length_tasks N.steps N.jobs,
      s.steps,
      s.jobs,
    )
