-- An accepted table, by a test that is computed: what the reader promises, the limits, and questions 8 and 9.
-- Part by part.
use mathlib.Core.Path.{◌≡◌, refl}
use mathlib.Core.Bool.{Bool, true, ◌&&◌}
use mathlib.Core.List.{List, [], ◌∷◌}
use Prim.Native.Nat.{ℕ, zero, suc, ◌≤◌}
use lib.ListN.{length, get_or}
use lib.Dec.{leb, ltb}
use Rattle.lists.specs.List.{all, Every, Rising}
use Rattle.lists.proofs.Bool.{and_l, and_r, leb_sound}
use Rattle.lists.proofs.Member.{all_out}
use Rattle.lists.proofs.Every.{every_of}
use Rattle.planning.specs.Table.{Task, step, job, Step, Method, Table, TaskIn, StepIn, MethodIn}
use Rattle.planning.specs.Place.{root_place, nodes}
use Rattle.planning.specs.Variable.{variables}
use Rattle.planning.specs.Accepted.{Accepted}

-- where all of these are true, each is
passed : (bs : List Bool) → all (λ b. b) bs ≡ true → (i : ℕ) → get_or bs i true ≡ true
passed [] h i = refl
passed (b ∷ bs) h zero = and_l b (all (λ c. c) bs) h
passed (b ∷ bs) h (suc i) = passed bs (and_r b (all (λ c. c) bs) h) i

abbrev pub rising? : ℕ → ℕ → List ℕ → Bool
rising? k n [] = true
rising? k n (x ∷ xs) = leb k x && (ltb x n && rising? (suc x) n xs)

abbrev pub taskIn? : Table → Task → Bool
taskIn? T (step s) = ltb s (length T.steps)
taskIn? T (job j) = ltb j T.jobs

abbrev step_tests : Table → Step → List Bool
step_tests T s = rising? 0 T.facts s.needs ∷ rising? 0 T.facts s.sets ∷ rising? 0 T.facts s.clears ∷ []

abbrev method_tests : Table → Method → List Bool
method_tests T m = ltb m.of T.jobs ∷ all (taskIn? T) m.body ∷ leb (length m.body) 8 ∷ []

abbrev table_tests : Table → List Bool
table_tests T =
    all (λ s. all (λ b. b) (step_tests T s)) T.steps
    ∷ all (λ m. all (λ b. b) (method_tests T m)) T.methods
    ∷ rising? 0 T.facts T.start
    ∷ ltb T.root T.jobs
    ∷ leb 1 T.depth
    ∷ leb T.depth 8
    ∷ leb T.facts 64
    ∷ leb (length T.steps) 64
    ∷ leb T.jobs 64
    ∷ leb (length T.methods) 128
    ∷ leb (nodes (root_place T)) 1024
    ∷ leb (variables T) 8191
    ∷ []

abbrev pub accepted? : Table → Bool
accepted? T = all (λ b. b) (table_tests T)

rising_of : (k n : ℕ) (xs : List ℕ) → rising? k n xs ≡ true → Rising k n xs
rising_of k n [] h = tt
rising_of k n (x ∷ xs) h =
    let r = and_r (leb k x) (ltb x n && rising? (suc x) n xs) h in (
      leb_sound k x (and_l (leb k x) (ltb x n && rising? (suc x) n xs) h),
      leb_sound (suc x) n (and_l (ltb x n) (rising? (suc x) n xs) r),
      rising_of (suc x) n xs (and_r (ltb x n) (rising? (suc x) n xs) r),
    )

task_of : (T : Table) (t : Task) → taskIn? T t ≡ true → TaskIn T t
task_of T (step s) h = leb_sound (suc s) (length T.steps) h
task_of T (job j) h = leb_sound (suc j) T.jobs h

step_of : (T : Table) (s : Step) → all (λ b. b) (step_tests T s) ≡ true → StepIn T s
step_of T s h =
    let p = passed (step_tests T s) h in
    record { needs = rising_of 0 T.facts s.needs (p 0); sets = rising_of 0 T.facts s.sets (p 1); clears = rising_of 0 T.facts s.clears (p 2) }

method_of : (T : Table) (m : Method) → all (λ b. b) (method_tests T m) ≡ true → MethodIn T m
method_of T m h =
    let p = passed (method_tests T m) h in
    record { of = leb_sound (suc m.of) T.jobs (p 0); body = every_of (TaskIn T) m.body (λ t k. task_of T t (all_out (taskIn? T) m.body (p 1) t k)) }

body_of : (T : Table) (m : Method) → all (λ b. b) (method_tests T m) ≡ true → length m.body ≤ 8
body_of T m h = leb_sound (length m.body) 8 (passed (method_tests T m) h 2)

pub accepted_of : (T : Table) → accepted? T ≡ true → Accepted T
accepted_of T h =
    let p = passed (table_tests T) h in
    let steps = all_out (λ s. all (λ b. b) (step_tests T s)) T.steps (p 0) in
    let methods = all_out (λ m. all (λ b. b) (method_tests T m)) T.methods (p 1) in
    record {
      sound = record {
        steps = every_of (StepIn T) T.steps (λ s k. step_of T s (steps s k));
        methods = every_of (MethodIn T) T.methods (λ m k. method_of T m (methods m k));
        start = rising_of 0 T.facts T.start (p 2);
        root = leb_sound (suc T.root) T.jobs (p 3);
        depth = leb_sound 1 T.depth (p 4);
      };
      limits = record {
        facts = leb_sound T.facts 64 (p 6);
        steps = leb_sound (length T.steps) 64 (p 7);
        jobs = leb_sound T.jobs 64 (p 8);
        methods = leb_sound (length T.methods) 128 (p 9);
        bodies = every_of (λ (m : Method). length m.body ≤ 8) T.methods (λ m k. body_of T m (methods m k));
        depth = leb_sound T.depth 8 (p 5);
      };
      few_nodes = leb_sound (nodes (root_place T)) 1024 (p 10);
      few_variables = leb_sound (variables T) 8191 (p 11);
    }

pub all_accepted : (Ts : List Table) → all accepted? Ts ≡ true → Every Accepted Ts
all_accepted Ts h = every_of Accepted Ts (λ T m. accepted_of T (all_out accepted? Ts h T m))
