-- How many names a kind declares, and what a look-up says.
-- Each section's names are as many as its lines.
use mathlib.Core.Path.{◌≡◌, refl, sym, ap, ◌∙◌}
use mathlib.Core.Bool.{Bool, true, false, cond, ◌&&◌, ◌||◌}
use mathlib.Core.List.{List, [], ◌∷◌}
use Prim.Native.Nat.{ℕ, suc, ◌+◌, ◌≤◌, ◌<◌}
use native.Mathlib.Omega.{arith}
use lib.ListN.{length, length-append, length-map}
use Rattle.std.specs.Prelude.{Option, Some, None, Result, Ok, Err, ok_or, ⊤}
use Rattle.std.specs.Result.{result_and, result_unwrap_or}
use Rattle.lists.proofs.Bool.{clash}
use Rattle.unmet.specs.declared.Unmet.{Unmet}
use Rattle.unmet.specs.declared.Unmet.TheVariants.{Declared}
use Rattle.lines.specs.Bytes.{same_bytes}
use Rattle.lines.specs.Parts.{Piece, lines_of}
use Rattle.grammar.specs.Name.{Name}
use Rattle.grammar.specs.Line.{name_in}
use Rattle.outline.specs.Sections.{sections}
use Rattle.outline.specs.Names.{names_of, among, number_of, fact, step, job, task, declared}
use Rattle.outline.specs.Index.{number_in, Shaped}
use Rattle.rows.specs.Answers.{Asked}

names_length : (ls : List Piece) → length (names_of ls) ≡ length ls
unfolding names_of
names_length ls = length-map ls (λ (l : Piece). name_in l.bytes)

module _ {s : List ℕ} {f st j m : ℕ} {steps methods start root : List ℕ} (u : Shaped s f st j m steps methods start root) where
  pub count_steps : length (declared (sections (lines_of s)) step) ≡ st
  unfolding declared
  count_steps = names_length (sections (lines_of s)).steps ∙ sym u.steps

  pub count_jobs : length (declared (sections (lines_of s)) job) ≡ j
  unfolding declared
  count_jobs = names_length (sections (lines_of s)).jobs ∙ sym u.jobs

  pub count_tasks : length (declared (sections (lines_of s)) task) ≡ st + j
  unfolding declared
  count_tasks =
      let p = sections (lines_of s) in
      omega (arith, length-append (names_of p.steps) (names_of p.jobs), names_length p.steps, names_length p.jobs, u.steps, u.jobs)

  pub facts_few : length (declared (sections (lines_of s)) fact) ≤ 64
  unfolding declared
  facts_few = omega (arith, names_length (sections (lines_of s)).facts, u.facts, u.few_facts)

pub number_lt : (ms : List Name) (n : Name) → among ms n ≡ true → number_of ms n < length ms
unfolding among number_of
number_lt [] n e = let z : ◌≡◌ {A = ℕ} 0 1 = cc in omega arith
number_lt (m ∷ ms) n e = go (same_bytes n m) (number_lt ms n) e
  where
    go : (b : Bool) → (among ms n ≡ true → number_of ms n < length ms) → (b || among ms n) ≡ true → cond b 0 (suc (number_of ms n)) < suc (length ms)
    go true ih e = omega arith
    go false ih e = omega (arith, ih e)

number_none : (ms : List Name) (n : Name) → among ms n ≡ false → number_of ms n ≡ length ms
unfolding among number_of
number_none [] n e = refl
number_none (m ∷ ms) n e = go (same_bytes n m) (number_none ms n) e
  where
    go : (b : Bool) → (among ms n ≡ false → number_of ms n ≡ length ms) → (b || among ms n) ≡ false → cond b 0 (suc (number_of ms n)) ≡ suc (length ms)
    go true ih e = clash refl e
    go false ih e = ap suc (ih e)

-- what a look-up says
pub looked : (ns : List Name) (n : Name) (o : Option ℕ) (r : Result ℕ Unmet) → o ≡ number_in ns n → r ≡ ok_or o Declared
    → Asked (among ns n) (λ k. k ≡ number_of ns n) r
unfolding number_in
looked ns n o r p q = rw (q, p) (go (among ns n))
  where
    go : (b : Bool) → Asked b (λ k. k ≡ number_of ns n) (ok_or (cond b (Some (number_of ns n)) None) Declared)
    go true = (refl, refl)
    go false = (refl, refl)

-- at the exit of a `?`
pub asked_err : {A : Type 0} (met : Bool) (P : A → Type 0) {r : Result A Unmet} {x q : Unmet} → r ≡ Err x → x ≡ q → (met ≡ false) × (q ≡ Declared)
    → Asked met P r
asked_err met P e d h = rw (e, d) h

-- the value of what is asked stands where the question is met
pub asked_met : {A : Type 0} {b : Bool} {X : Type 0} (r : Result A Unmet) → Asked b (λ _. X) r → b ≡ true → X
asked_met (Ok x) h e = h.1
asked_met (Err q) h e = absurd (clash e h.0)

-- two answers, one after the other
pub asked_and : {A B : Type 0} (a b : Bool) (P : A → Type 0) (Q : B → Type 0) (r : Result A Unmet) (t : Result B Unmet) → Asked a P r → Asked b Q t
    → Asked (a && b) (λ _. ⊤) (result_and r t)
asked_and a b P Q (Ok x) (Ok y) h g = (rw (h.0, g.0) refl, tt)
asked_and a b P Q (Ok x) (Err q) h g = (rw (h.0, g.0) refl, g.1)
asked_and a b P Q (Err q) t h g = (rw h.0 refl, h.1)

-- what stands for a name: its number, or the count of its kind
pub number_or : (ns : List Name) (n : Name) {c : ℕ} (r : Result ℕ Unmet) → Asked (among ns n) (λ k. k ≡ number_of ns n) r → c ≡ length ns
    → result_unwrap_or r c ≡ number_of ns n
number_or ns n (Ok k) h e = h.1
number_or ns n (Err q) h e = e ∙ sym (number_none ns n h.0)
