-- The look-ups: what each says of the table that the words hold.
-- A number below the count has its words; past it there is nothing.
use mathlib.Core.Path.{◌≡◌, refl, sym, ap, ap₂, ◌∙◌}
use mathlib.Core.Bool.{cond}
use mathlib.Core.Logic.{⊎_elim}
use mathlib.Core.List.{List, [], map}
use mathlib.Core.Option.{Option, some}
use Prim.Native.Nat.{ℕ, ◌+◌, ◌-◌, ◌*◌, ◌≤◌, ◌<◌, min}
use native.Mathlib.Omega.{arith}
use lib.Dec.{ltb}
use lib.ListN.{length, get_or, get_elem?, take, drop, length-map, replicate}
use borrow.Author.Tests.{lt-ltb, le-ltb}
use Rattle.lists.specs.List.{from, up_to}
use Rattle.lists.proofs.Number.{length_from}
use Rattle.lists.proofs.Order.{le_or_lt}
use Rattle.lists.proofs.Place.{get_d_map_from, get_d_map_past, elem_map_from, elem_map_past}
use Rattle.bitset.specs.Set.{members}
use Rattle.bitset.proofs.Promises.{promises}
use Rattle.planning.specs.Table.{Step, Method, no_step, no_method, step_of, job_of, body_of, most_in_body, Task}
use Rattle.lines.specs.Part.{Part, bytes_at}
use Rattle.rows.specs.Words.{fact_words, step_words, method_words, words_at, step_at, task_at, size_at, method_at}
use Rattle.table.specs.Layout.{start_at, steps_at, methods_at, facts_in, steps_in, jobs_in, methods_in, table_in, part_at, name_parts_in, task_from, no_part}
use Rattle.table.specs.Code.{step_set, method_word}
use Rattle.std.specs.Prelude.{Some, None}
use Rattle.table.specs.declared.Task.TheVariants.{Step as StepTask, Job as JobTask}

-- Steps ----------------------------------------------------------------------------------------------------------------------
empty_set : (n : ℕ) → members (replicate n 0) ≡ []
empty_set n = promises.made n [] tt

module _ (ws : List ℕ) where
  pub facts_told : facts_in ws ≡ (table_in ws).facts
  unfolding table_in
  facts_told = refl

  pub jobs_told : jobs_in ws ≡ (table_in ws).jobs
  unfolding table_in
  jobs_told = refl

  pub root_told : get_or ws 4 0 ≡ (table_in ws).root
  unfolding table_in
  root_told = refl

  pub depth_told : get_or ws 5 0 ≡ (table_in ws).depth
  unfolding table_in
  depth_told = refl

  pub start_told : members (words_at ws start_at fact_words) ≡ (table_in ws).start
  unfolding table_in
  start_told = refl

  abbrev step_in : ℕ → Step
  step_in s = step_at ws (steps_at + step_words * s)

  abbrev method_in : ℕ → Method
  method_in m = method_at (steps_in ws) ws (methods_at + method_words * m)

  pub steps_told : steps_in ws ≡ length (table_in ws).steps
  unfolding table_in
  steps_told = sym (length-map (up_to (steps_in ws)) step_in ∙ length_from 0 (steps_in ws))

  pub methods_told : methods_in ws ≡ length (table_in ws).methods
  unfolding table_in
  methods_told = sym (length-map (up_to (methods_in ws)) method_in ∙ length_from 0 (methods_in ws))

  module _ (s : ℕ) where
    step_there : s < steps_in ws → step_of (table_in ws) s ≡ step_in s
    unfolding table_in
    step_there h = let z : 0 + s ≡ s = omega arith in get_d_map_from step_in 0 (steps_in ws) s no_step h ∙ ap step_in z

    step_none : steps_in ws ≤ s → step_of (table_in ws) s ≡ no_step
    unfolding table_in
    step_none h = get_d_map_past step_in 0 (steps_in ws) s no_step h

    -- each set of a step, by the field g and its place k among the step's sets
    set_told : (g : Step → List ℕ) (k : ℕ) → g no_step ≡ [] → g (step_in s) ≡ members (words_at ws (steps_at + step_words * s + fact_words * k) fact_words)
        → (r : List ℕ) → r ≡ step_set ws s k → members r ≡ g (step_of (table_in ws) s)
    set_told g k e d r q = ap members q ∙ ⊎_elim
        (λ h. rw (le-ltb s (steps_in ws) h) (empty_set fact_words ∙ sym (ap g (step_none h) ∙ e)))
        (λ h. rw (lt-ltb s (steps_in ws) h) (sym d ∙ sym (ap g (step_there h))))
        (le_or_lt (steps_in ws) s)

    pub needs_told : (r : List ℕ) → r ≡ step_set ws s 0 → members r ≡ (step_of (table_in ws) s).needs
    needs_told r q =
        let z : steps_at + step_words * s ≡ steps_at + step_words * s + fact_words * 0 = omega arith in
        set_told (λ x. x.needs) 0 refl (ap (λ (p : ℕ). members (words_at ws p fact_words)) z) r q

    pub sets_told : (r : List ℕ) → r ≡ step_set ws s 1 → members r ≡ (step_of (table_in ws) s).sets
    sets_told r q = set_told (λ x. x.sets) 1 refl refl r q

    pub clears_told : (r : List ℕ) → r ≡ step_set ws s 2 → members r ≡ (step_of (table_in ws) s).clears
    clears_told r q = set_told (λ x. x.clears) 2 refl refl r q

    -- where the code finds them
    module _ (k : ℕ) {n : ℕ} (e : n ≡ steps_in ws) where
      pub set_there : (r : List ℕ) → s < n → r ≡ words_at ws (steps_at + step_words * s + fact_words * k) fact_words → r ≡ step_set ws s k
      set_there r h d = rw (lt-ltb s (steps_in ws) (omega (arith, e))) d

      pub set_none : n ≤ s → replicate fact_words 0 ≡ step_set ws s k
      set_none h = rw (le-ltb s (steps_in ws) (omega (arith, e)))

  -- Methods ------------------------------------------------------------------------------------------------------------------
  module _ (m : ℕ) where
    method_there : m < methods_in ws → get_or (table_in ws).methods m no_method ≡ method_in m
    unfolding table_in
    method_there h = let z : 0 + m ≡ m = omega arith in get_d_map_from method_in 0 (methods_in ws) m no_method h ∙ ap method_in z

    method_none : methods_in ws ≤ m → get_or (table_in ws).methods m no_method ≡ no_method
    unfolding table_in
    method_none h = get_d_map_past method_in 0 (methods_in ws) m no_method h

    module _ (k : ℕ) {n : ℕ} (e : n ≡ methods_in ws) where
      pub word_there : {r : ℕ} → m < n → r ≡ get_or ws (methods_at + method_words * m + k) 0 → r ≡ method_word ws m k
      word_there h d = rw (lt-ltb m (methods_in ws) (omega (arith, e))) d

      pub word_none : n ≤ m → 0 ≡ method_word ws m k
      word_none h = rw (le-ltb m (methods_in ws) (omega (arith, e)))

    abbrev at : ℕ
    at = methods_at + method_words * m

    pub job_told : (r : ℕ) → r ≡ method_word ws m 0 → r ≡ job_of (table_in ws) m
    job_told r q = q ∙ ⊎_elim
        (λ h. rw (le-ltb m (methods_in ws) h) (sym (ap (λ (x : Method). x.of) (method_none h))))
        (λ h. let z : at + 0 ≡ at = omega arith in
        rw (lt-ltb m (methods_in ws) h) (ap (λ (p : ℕ). get_or ws p 0) z ∙ sym (ap (λ (x : Method). x.of) (method_there h))))
        (le_or_lt (methods_in ws) m)

    body_length : length (method_in m).body ≡ size_at ws at
    body_length = length-map (up_to (size_at ws at)) (λ j. task_at (steps_in ws) (get_or ws (at + 2 + j) 0)) ∙ length_from 0 (size_at ws at)

    pub size_told : (r : ℕ) → r ≡ min (method_word ws m 1) most_in_body → r ≡ length (body_of (table_in ws) m)
    size_told r q = q ∙ ⊎_elim
        (λ h. rw (le-ltb m (methods_in ws) h) (sym (ap (λ (x : Method). length x.body) (method_none h))))
        (λ h. rw (lt-ltb m (methods_in ws) h) (sym (ap (λ (x : Method). length x.body) (method_there h) ∙ body_length)))
        (le_or_lt (methods_in ws) m)

    -- task j of a body that has n
    module _ (j n : ℕ) (q : n ≡ length (body_of (table_in ws) m)) where
      size_there : m < methods_in ws → n ≡ size_at ws at
      size_there h = q ∙ ap (λ (x : Method). length x.body) (method_there h) ∙ body_length

      pub task_none : n ≤ j → task_from None ≡ get_elem? (body_of (table_in ws) m) j
      task_none h = ⊎_elim
          (λ g. sym (ap (λ (x : Method). get_elem? x.body j) (method_none g)))
          (λ g. sym (ap (λ (x : Method). get_elem? x.body j) (method_there g)
          ∙ elem_map_past (λ i. task_at (steps_in ws) (get_or ws (at + 2 + i) 0)) 0 (size_at ws at) j (omega (arith, size_there g))))
          (le_or_lt (methods_in ws) m)

      there : j < n → m < methods_in ws
      there h = ⊎_elim (λ g. let z : n ≡ 0 = q ∙ ap (λ (x : Method). length x.body) (method_none g) in absurd (omega arith)) (λ g. g) (le_or_lt (methods_in ws) m)

      pub task_place : j < n → j < most_in_body
      task_place h = omega (arith, size_there (there h))

      pub task_there : j < n → (st k : ℕ) {r : Option Task} → st ≡ steps_in ws → k ≡ method_word ws m (2 + j) → r ≡ some (task_at st k)
          → r ≡ get_elem? (body_of (table_in ws) m) j
      task_there h st k a d e =
          let g = there h in
          let z : 0 + j ≡ j = omega arith in
          let y : at + (2 + j) ≡ at + 2 + j = omega arith in
          let w : k ≡ get_or ws (at + 2 + j) 0 = d ∙ rw (lt-ltb m (methods_in ws) g) (ap (λ (p : ℕ). get_or ws p 0) y) in
          e ∙ ap₂ (λ (x i : ℕ). some (task_at x i)) a w
          ∙ sym (ap (λ (x : Method). get_elem? x.body j) (method_there g)
          ∙ elem_map_from (λ i. task_at (steps_in ws) (get_or ws (at + 2 + i) 0)) 0 (size_at ws at) j (omega (arith, size_there g))
          ∙ ap (λ (i : ℕ). some (task_at (steps_in ws) (get_or ws (at + 2 + i) 0))) z)

-- a step or a job
pub task_step : (n k : ℕ) → k < n → task_from (Some (StepTask k)) ≡ some (task_at n k)
task_step n k h = rw (lt-ltb k n h)

pub task_job : (n k : ℕ) → n ≤ k → task_from (Some (JobTask (k - n))) ≡ some (task_at n k)
task_job n k h = rw (le-ltb k n h)

-- Names ----------------------------------------------------------------------------------------------------------------------
pub name_past : (p : Part) (s r : List ℕ) (n i : ℕ) → n ≤ i → r ≡ take 0 (drop 0 s) → r ≡ bytes_at s (cond (ltb i n) p no_part)
name_past p s r n i h e = rw (le-ltb i n h) e

pub name_in : (ws s r : List ℕ) (n i k : ℕ) {x y : ℕ} → i < n → x ≡ (part_at ws k).start → y ≡ (part_at ws k).size → r ≡ take y (drop x s)
    → r ≡ bytes_at s (cond (ltb i n) (part_at ws k) no_part)
name_in ws s r n i k h p q e = rw (lt-ltb i n h) (e ∙ ap₂ (λ (m l : ℕ). take l (drop m s)) p q)

-- the names of a kind: n of them from place k on
name_told : (f : ℕ → Part) (k n i : ℕ) (s r : List ℕ) → r ≡ bytes_at s (cond (ltb i n) (f (k + i)) no_part) → r ≡ bytes_at s (get_or (map f (from k n)) i no_part)
name_told f k n i s r q =
    let same : cond (ltb i n) (f (k + i)) no_part ≡ get_or (map f (from k n)) i no_part = ⊎_elim
    (λ h. rw (le-ltb i n h) (sym (get_d_map_past f k n i no_part h)))
    (λ h. rw (lt-ltb i n h) (sym (get_d_map_from f k n i no_part h)))
    (le_or_lt n i) in
    q ∙ ap (bytes_at s) same

module _ (ws : List ℕ) (i : ℕ) (s r : List ℕ) {n : ℕ} where
  pub fact_named : n ≡ facts_in ws → r ≡ bytes_at s (cond (ltb i n) (part_at ws (0 + i)) no_part) → r ≡ bytes_at s (get_or (name_parts_in ws).facts i no_part)
  unfolding name_parts_in
  fact_named e q = name_told (part_at ws) 0 (facts_in ws) i s r (rw e at q)

  pub step_named : {k : ℕ} → k ≡ facts_in ws → n ≡ steps_in ws → r ≡ bytes_at s (cond (ltb i n) (part_at ws (k + i)) no_part) → r ≡ bytes_at s (get_or (name_parts_in ws).steps i no_part)
  unfolding name_parts_in
  step_named d e q = name_told (part_at ws) (facts_in ws) (steps_in ws) i s r (rw (d, e) at q)

  pub job_named : {k : ℕ} → k ≡ facts_in ws + steps_in ws → n ≡ jobs_in ws → r ≡ bytes_at s (cond (ltb i n) (part_at ws (k + i)) no_part)
      → r ≡ bytes_at s (get_or (name_parts_in ws).jobs i no_part)
  unfolding name_parts_in
  job_named d e q = name_told (part_at ws) (facts_in ws + steps_in ws) (jobs_in ws) i s r (rw (d, e) at q)
