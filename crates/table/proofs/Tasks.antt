-- A step or a job by one number: steps first, then jobs, as their lines stand in the file.
-- One look-up over both finds the task.
use mathlib.Core.Path.{◌≡◌, refl, ap}
use mathlib.Core.Bool.{Bool, true, false, cond, ◌||◌}
use mathlib.Core.List.{List, [], ◌∷◌, ◌++◌}
use Prim.Native.Nat.{ℕ, suc, ◌+◌, ◌-◌, ◌<◌}
use native.Mathlib.Omega.{arith}
use lib.ListN.{length}
use borrow.Author.Tests.{lt-ltb, le-ltb}
use Rattle.planning.specs.Table.{step, job}
use Rattle.lines.specs.Bytes.{same_bytes}
use Rattle.grammar.specs.Name.{Name}
use Rattle.outline.specs.Names.{among, number_of}
use Rattle.rows.specs.Uses.{task_of}
use Rattle.rows.specs.Words.{task_at}

number_left : (xs ys : List Name) (n : Name) → among xs n ≡ true → (number_of (xs ++ ys) n ≡ number_of xs n) × (number_of xs n < length xs)
unfolding among number_of
number_left [] ys n e = let z : ◌≡◌ {A = ℕ} 0 1 = cc in absurd (omega arith)
number_left (a ∷ xs) ys n e = go (same_bytes n a) e (number_left xs ys n)
  where
    go : (t : Bool) → (t || among xs n) ≡ true → (among xs n ≡ true → (number_of (xs ++ ys) n ≡ number_of xs n) × (number_of xs n < length xs))
        → (cond t 0 (suc (number_of (xs ++ ys) n)) ≡ cond t 0 (suc (number_of xs n))) × (cond t 0 (suc (number_of xs n)) < suc (length xs))
    go true e ih = (refl, omega arith)
    go false e ih = let r = ih e in (ap suc r.0, omega (arith, r.1))

number_right : (xs ys : List Name) (n : Name) → among xs n ≡ false → number_of (xs ++ ys) n ≡ length xs + number_of ys n
unfolding among number_of
number_right [] ys n e = omega arith
number_right (a ∷ xs) ys n e = go (same_bytes n a) e (number_right xs ys n)
  where
    go : (t : Bool) → (t || among xs n) ≡ false → (among xs n ≡ false → number_of (xs ++ ys) n ≡ length xs + number_of ys n) → cond t 0 (suc (number_of (xs ++ ys) n)) ≡ suc (length xs) + number_of ys n
    go true e ih = let z : ◌≡◌ {A = ℕ} 0 1 = cc in absurd (omega arith)
    go false e ih = omega (arith, ih e)

-- one lookup over the names of the steps and the jobs together finds the task
pub task_found : (xs ys : List Name) (n : Name) → task_of xs ys n ≡ task_at (length xs) (number_of (xs ++ ys) n)
unfolding task_of
task_found xs ys n = go (among xs n) refl
  where
    go : (t : Bool) → among xs n ≡ t → cond t (step (number_of xs n)) (job (number_of ys n)) ≡ task_at (length xs) (number_of (xs ++ ys) n)
    go true e = let r = number_left xs ys n e in rw (r.0, lt-ltb (number_of xs n) (length xs) r.1)
    go false e =
        let q : length xs + number_of ys n - length xs ≡ number_of ys n = omega arith in
        rw (number_right xs ys n e, le-ltb (length xs + number_of ys n) (length xs) (omega arith), q)
