-- The methods of some jobs, one method after the other: how their longest body, their count and what they name at a place go on.
-- By the laws of filters over numbers.
use mathlib.Core.Path.{◌≡◌, refl, sym, ap, ◌∙◌}
use mathlib.Core.Bool.{Bool, true, false, cond, ◌&&◌, ◌||◌}
use mathlib.Core.List.{List, [], ◌∷◌, ◌++◌}
use mathlib.Core.Logic.{◌⊎◌, inl, inr}
use mathlib.Core.Option.{Option, none, some}
use Prim.Native.Nat.{ℕ, zero, suc, ◌+◌, ◌/◌, ◌≤◌, ◌<◌}
use native.Mathlib.Omega.{arith}
use lib.Dec.{eqb}
use lib.ListN.{length, get_or, get_elem?}
use borrow.Author.Tests.{lt-ltb}
use Rattle.lists.specs.List.{cons_if, filter, any, from, up_to, has, Every, Rising}
use Rattle.lists.proofs.Bool.{bool_cases, clash, false_of, or_off, and_on, and_off, eqb_sound, eqb_other, eqb_same}
use Rattle.lists.proofs.Every.{every_get_d}
use Rattle.lists.proofs.Member.{any_out, any_append, filter_same, has_not}
use Rattle.lists.proofs.Number.{length_from}
use Rattle.lists.proofs.Place.{from_add, filter_append, filter_enough, one_word}
use Rattle.lists.proofs.Rising.{rising_range}
use Rattle.bitset.specs.Set.{contains, inserted}
use Rattle.bitset.proofs.Promises.{promises}
use Rattle.planning.proofs.Task.{same_sound}
use Rattle.planning.specs.Table.{Task, step, job, Table, job_of, body_of, TaskIn, MethodIn, no_method}
use Rattle.planning.specs.Place.{Label as PlanningLabel, methods_of, is, named, child_label}
use Rattle.tree.specs.Visit.{members_in, label_in, Known, with_task}
use Rattle.tree.specs.declared.Label.{Label}

-- the methods of these jobs among the first m
abbrev pub methods_to : Table → List ℕ → ℕ → List ℕ
methods_to T js m = filter (λ k. has js (job_of T k)) (up_to m)

pub methods_next : (T : Table) (js : List ℕ) (m : ℕ) → methods_to T js (m + 1) ≡ methods_to T js m ++ cons_if (has js (job_of T m)) m []
methods_next T js m =
    let z : 0 + m ≡ m = omega arith in
    let p : ℕ → Bool = λ k. has js (job_of T k) in
    ap (filter p) (from_add 0 m 1) ∙ filter_append p (from 0 m) (from (0 + m) 1) ∙ ap (λ (k : ℕ). methods_to T js m ++ filter p (from k 1)) z

-- a set in a word
pub word_has : (w i : ℕ) → contains (w ∷ []) i ≡ has (members_in w) i
word_has w i = promises.member (w ∷ []) i

pub count_most : (T : Table) (js : List ℕ) (m : ℕ) → length (methods_to T js m) ≤ m
count_most T js m = omega (arith, Rattle.lists.proofs.Member.length_filter (λ k. has js (job_of T k)) (up_to m), length_from 0 m)

-- What a child may hold ------------------------------------------------------------------------------------------------------
-- is t named at place i by a method of these jobs among the first m?
abbrev pub named_to : Table → List ℕ → (i m : ℕ) → Task → Bool
named_to T js i m t = any (λ k. is (get_elem? (body_of T k) i) t) (methods_to T js m)

-- the label l has what child i has of its parent L, and what the first m methods name
pub record Gathered (T : Table) (L : PlanningLabel) (i m : ℕ) (l : Label) : Type 0 where
  pub steps : (s : ℕ) → contains (l.steps ∷ []) s ≡ (named_to T L.jobs i m (step s) || (eqb i 0 && has L.steps s))
  pub jobs : (j : ℕ) → contains (l.jobs ∷ []) j ≡ named_to T L.jobs i m (job j)

named_next : (T : Table) (js : List ℕ) (i m : ℕ) (t : Task) → named_to T js i (m + 1) t ≡ (named_to T js i m t || (has js (job_of T m) && is (get_elem? (body_of T m) i) t))
named_next T js i m t =
    ap (any (λ k. is (get_elem? (body_of T k) i) t)) (methods_next T js m)
    ∙ any_append (λ k. is (get_elem? (body_of T k) i) t) (methods_to T js m) (cons_if (has js (job_of T m)) m [])
    ∙ ap (λ (b : Bool). named_to T js i m t || b) (go (has js (job_of T m)))
  where
    go : (b : Bool) → any (λ k. is (get_elem? (body_of T k) i) t) (cons_if b m []) ≡ (b && is (get_elem? (body_of T m) i) t)
    go true = or_off (is (get_elem? (body_of T m) i) t)
    go false = refl

-- a word with one member more
insert_word : (w i x : ℕ) → i < 64 → contains (get_or (inserted (w ∷ []) i) 0 0 ∷ []) x ≡ (contains (w ∷ []) x || eqb x i)
insert_word w i x h =
    ap (λ (l : List ℕ). contains l x) (one_word (inserted (w ∷ []) i) (promises.insert_length (w ∷ []) i))
    ∙ promises.insert (w ∷ []) i x
    ∙ rw (lt-ltb (i / 64) 1 (omega arith), and_on (eqb x i))

every_elem : {A : Type 0} (P : A → Type 0) (xs : List A) (i : ℕ) (a : A) → Every P xs → get_elem? xs i ≡ some a → P a
every_elem P [] i a h e = let z : ◌≡◌ {A = ℕ} 0 1 = cc in absurd (omega arith)
every_elem P (x ∷ xs) zero a h e = let z : x ≡ a = cc in rw (← z) h.0
every_elem P (x ∷ xs) (suc i) a h e = every_elem P xs i a h.1 e

-- which of two came last does not matter
or_last : (a b c : Bool) → ((a || b) || c) ≡ ((a || c) || b)
or_last true b c = refl
or_last false true true = refl
or_last false true false = refl
or_last false false true = refl
or_last false false false = refl

eqb_sym : (a b : ℕ) → eqb a b ≡ eqb b a
eqb_sym a b = go (bool_cases (eqb a b))
  where
    go : (eqb a b ≡ true) ⊎ (eqb a b ≡ false) → eqb a b ≡ eqb b a
    go (inl e) = rw (eqb_sound a b e)
    go (inr e) = e ∙ sym (eqb_other b a (λ q. clash (ap (λ (x : ℕ). eqb a x) q ∙ eqb_same a) e))

module _ (T : Table) (known : Known T) where
  -- a task of a body is one of the table
  pub task_in : (m i : ℕ) (t : Task) → get_elem? (body_of T m) i ≡ some t → TaskIn T t
  task_in m i t e = every_elem (TaskIn T) (body_of T m) i t (every_get_d (MethodIn T) T.methods no_method known.sound.methods none_in m).body e
    where
      none_in : MethodIn T no_method
      none_in = record { of = omega (arith, known.sound.root); body = tt }

  module _ (L : PlanningLabel) (w i m : ℕ) (jobs : members_in w ≡ L.jobs) where
    pub gathered_next : {l : Label} → Gathered T L i m l → Gathered T L i (m + 1) (cond (contains (w ∷ []) (job_of T m)) (with_task l (get_elem? (body_of T m) i)) l)
    gathered_next {l} g =
        rw (word_has w (job_of T m), jobs) (go (has L.jobs (job_of T m)) refl (get_elem? (body_of T m) i) refl)
      where
        nothing : (b : Bool) (o : Option Task) → has L.jobs (job_of T m) ≡ b → get_elem? (body_of T m) i ≡ o → ((t : Task) → (b && is o t) ≡ false) → Gathered T L i (m + 1) l
        nothing b o p q f = record {
          steps = λ s. g.steps s ∙ sym (rw (named_next T L.jobs i m (step s), p, q, f (step s), or_off (named_to T L.jobs i m (step s))));
          jobs = λ j. g.jobs j ∙ sym (rw (named_next T L.jobs i m (job j), p, q, f (job j), or_off (named_to T L.jobs i m (job j))));
        }

        a_step : (x : ℕ) → has L.jobs (job_of T m) ≡ true → get_elem? (body_of T m) i ≡ some (step x) → Gathered T L i (m + 1) (with_task l (some (step x)))
        a_step x p q = record {
          steps = λ s.
              insert_word l.steps x s (omega (arith, task_in m i (step x) q, known.limits.steps))
              ∙ rw (g.steps s, named_next T L.jobs i m (step s), p, q, eqb_sym x s) (or_last (named_to T L.jobs i m (step s)) (eqb i 0 && has L.steps s) (eqb s x));
          jobs = λ j. g.jobs j ∙ sym (rw (named_next T L.jobs i m (job j), p, q, or_off (named_to T L.jobs i m (job j))));
        }

        a_job : (x : ℕ) → has L.jobs (job_of T m) ≡ true → get_elem? (body_of T m) i ≡ some (job x) → Gathered T L i (m + 1) (with_task l (some (job x)))
        a_job x p q = record {
          steps = λ s. g.steps s ∙ sym (rw (named_next T L.jobs i m (step s), p, q, or_off (named_to T L.jobs i m (step s))));
          jobs = λ j.
              insert_word l.jobs x j (omega (arith, task_in m i (job x) q, known.limits.jobs))
              ∙ rw (g.jobs j, named_next T L.jobs i m (job j), p, q, eqb_sym x j);
        }

        go : (b : Bool) → has L.jobs (job_of T m) ≡ b → (o : Option Task) → get_elem? (body_of T m) i ≡ o → Gathered T L i (m + 1) (cond b (with_task l o) l)
        go false p o q = nothing false o p q (λ t. refl)
        go true p none q = nothing true none p q (λ t. refl)
        go true p (some (step x)) q = a_step x p q
        go true p (some (job x)) q = a_job x p q

  module _ (L : PlanningLabel) (i : ℕ) where
    -- at first it has what it has of its parent
    pub gathered_none : (steps : ℕ) → members_in steps ≡ L.steps → Gathered T L i 0 (record { steps = cond (eqb i 0) steps 0; jobs = 0 })
    gathered_none steps e = record { steps = λ s. go (eqb i 0) s; jobs = λ j. nothing_in j }
      where
        nothing_in : (x : ℕ) → contains (0 ∷ []) x ≡ false
        nothing_in x = word_has 0 x

        go : (b : Bool) (s : ℕ) → contains (cond b steps 0 ∷ []) s ≡ (b && has L.steps s)
        go true s = word_has steps s ∙ ap (λ (l : List ℕ). has l s) e
        go false s = nothing_in s

    -- in the end it has what child i may hold
    pub gathered_all : {l : Label} → Rising 0 (length T.steps) L.steps → Gathered T L i (length T.methods) l → label_in l ≡ child_label T L i
    unfolding child_label
    gathered_all {l} r g =
        let e : members_in l.steps ≡ filter (λ s. named T L i (step s) || (eqb i 0 && has L.steps s)) (up_to (length T.steps)) =
        filter_same (contains (l.steps ∷ [])) (λ s. named T L i (step s) || (eqb i 0 && has L.steps s)) (up_to 64) (λ s h. g.steps s)
        ∙ filter_enough (λ s. named T L i (step s) || (eqb i 0 && has L.steps s)) 64 (length T.steps) known.limits.steps no_step in
        let f : members_in l.jobs ≡ filter (λ j. named T L i (job j)) (up_to T.jobs) =
        filter_same (contains (l.jobs ∷ [])) (λ j. named T L i (job j)) (up_to 64) (λ j h. g.jobs j)
        ∙ filter_enough (λ j. named T L i (job j)) 64 T.jobs known.limits.jobs no_job in
        rw (e, f)
      where
        unnamed : (t : Task) → (TaskIn T t → ⊥) → named T L i t ≡ false
        unnamed t u = false_of (named T L i t) (λ h. on (any_out (λ m. is (get_elem? (body_of T m) i) t) (methods_of T L.jobs) h))
          where
            on : (m : ℕ) × (Rattle.lists.specs.List.◌∈◌ m (methods_of T L.jobs)) × (is (get_elem? (body_of T m) i) t ≡ true) → ⊥
            on x = found (get_elem? (body_of T x.0) i) refl x.2
              where
                found : (o : Option Task) → get_elem? (body_of T x.0) i ≡ o → is o t ≡ true → ⊥
                found none p q = clash q refl
                found (some v) p q = u (rw (same_sound v t q) at (task_in x.0 i v p))

        no_step : (s : ℕ) → length T.steps ≤ s → (named T L i (step s) || (eqb i 0 && has L.steps s)) ≡ false
        no_step s h = rw (unnamed (step s) (λ k. omega (arith, k)), has_not L.steps s (λ m. omega (arith, (rising_range 0 (length T.steps) L.steps r s m).1)), and_off (eqb i 0))

        no_job : (j : ℕ) → T.jobs ≤ j → named T L i (job j) ≡ false
        no_job j h = unnamed (job j) (λ k. omega (arith, k))
