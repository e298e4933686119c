-- Tasks: the test of sameness, and tasks in lists of steps and of jobs.
-- By cases, and by recursion on the list.
use mathlib.Core.Path.{◌≡◌, refl, sym, ap, ◌∙◌, subst}
use mathlib.Core.Bool.{true}
use mathlib.Core.List.{List, [], ◌∷◌, ◌++◌, map}
use mathlib.Core.Logic.{◌⊎◌, inl, inr}
use Prim.Native.Nat.{ℕ, ◌+◌, suc}
use native.Mathlib.Omega.{arith}
use lib.ListN.{length, length-map, length-append}
use Rattle.lists.specs.List.{◌∈◌, Distinct, number}
use Rattle.lists.proofs.Bool.{clash, eqb_sound, eqb_same}
use Rattle.lists.proofs.Member.{in_append, in_map_out, distinct_append, distinct_map}
use Rattle.planning.specs.Table.{Task, step, job, same}
use Rattle.planning.specs.Variable.{step_vars}

pub same_sound : (t u : Task) → same t u ≡ true → t ≡ u
same_sound (step s) (step r) h = ap step (eqb_sound s r h)
same_sound (step s) (job k) h = clash h refl
same_sound (job j) (step r) h = clash h refl
same_sound (job j) (job k) h = ap job (eqb_sound j k h)

pub same_refl : (t : Task) → same t t ≡ true
same_refl (step s) = eqb_same s
same_refl (job j) = eqb_same j

pub step_inj : (a b : ℕ) → step a ≡ step b → a ≡ b
step_inj a b e = cc

pub job_inj : (a b : ℕ) → job a ≡ job b → a ≡ b
job_inj a b e = cc

-- Steps alone, or jobs alone -----------------------------------------------------------------------------------------------
pub no_job : (j : ℕ) (ss : List ℕ) → job j ∈ map step ss → ⊥
no_job j [] m = m
no_job j (s ∷ ss) (inl e) = let z : ◌≡◌ {A = ℕ} 0 1 = cc in omega arith
no_job j (s ∷ ss) (inr m) = no_job j ss m

pub no_step : (s : ℕ) (js : List ℕ) → step s ∈ map job js → ⊥
no_step s [] m = m
no_step s (j ∷ js) (inl e) = let z : ◌≡◌ {A = ℕ} 0 1 = cc in omega arith
no_step s (j ∷ js) (inr m) = no_step s js m

pub step_in : (s : ℕ) (ss : List ℕ) → step s ∈ map step ss → s ∈ ss
step_in s ss m = let r = in_map_out step (step s) ss m in subst (λ (a : ℕ). a ∈ ss) (sym (step_inj s r.0 r.2)) r.1

pub job_in : (j : ℕ) (js : List ℕ) → job j ∈ map job js → j ∈ js
job_in j js m = let r = in_map_out job (job j) js m in subst (λ (a : ℕ). a ∈ js) (sym (job_inj j r.0 r.2)) r.1

-- Steps, then jobs: the tasks of an inner node -----------------------------------------------------------------------------
module _ (ss js : List ℕ) where
  pub step_among : (s : ℕ) → step s ∈ (map step ss ++ map job js) → s ∈ ss
  step_among s m = go (in_append (step s) (map step ss) (map job js) m)
    where
      go : (step s ∈ map step ss) ⊎ (step s ∈ map job js) → s ∈ ss
      go (inl k) = step_in s ss k
      go (inr k) = absurd (no_step s js k)

  pub job_among : (j : ℕ) → job j ∈ (map step ss ++ map job js) → j ∈ js
  job_among j m = go (in_append (job j) (map step ss) (map job js) m)
    where
      go : (job j ∈ map step ss) ⊎ (job j ∈ map job js) → j ∈ js
      go (inl k) = absurd (no_job j ss k)
      go (inr k) = job_in j js k

  pub distinct_tasks : Distinct ss → Distinct js → Distinct (map step ss ++ map job js)
  distinct_tasks d e =
      distinct_append (map step ss) (map job js) (distinct_map step step_inj ss d) (distinct_map job job_inj js e) apart
    where
      apart : (t : Task) → t ∈ map step ss → t ∈ map job js → ⊥
      apart (step s) m k = no_step s js k
      apart (job j) m k = no_job j ss m

  pub length_tasks : length (map step ss ++ map job js) ≡ length ss + length js
  length_tasks = length-append (map step ss) (map job js) ∙ cc (length-map ss step, length-map js job)

-- Numbered steps -------------------------------------------------------------------------------------------------------------
pub step_vars_lem : (b : ℕ) (ss : List ℕ) → step_vars (number b (map step ss)) ≡ number b ss
step_vars_lem b [] = refl
step_vars_lem b (s ∷ ss) = ap (λ (l : List (ℕ × ℕ)). (b, s) ∷ l) (step_vars_lem (suc b) ss)
