-- Questions 4 and 5, of the texts that a file is parted into, and the first of questions 2 to 6 that is not met.
use mathlib.Core.Path.{◌≡◌, refl, sym, ap, ◌∙◌}
use mathlib.Core.Bool.{Bool, true, false, cond, ◌&&◌}
use mathlib.Core.List.{List, [], ◌∷◌}
use Prim.Native.Nat.{ℕ, ◌≤◌}
use native.Mathlib.Omega.{arith}
use lib.Dec.{lit<, leb}
use lib.ListN.{length, get_or}
use Rattle.grammar.specs.File.{met2, met3}
use Rattle.grammar.specs.Line.{F, M, S, T, begins, byte_of}
use Rattle.lines.specs.Bytes.{LF}
use Rattle.lines.specs.Parts.{Piece, no_line, ended, lines_of}
use Rattle.lists.proofs.Bool.{and_l, and_r, leb_sound}
use Rattle.lists.proofs.Question.{all_met}
use Rattle.lists.specs.List.{all, take_while, drop_while}
use Rattle.lists.specs.Question.{first_unmet}
use Rattle.unmet.specs.Number.{number_of}
use Rattle.unmet.specs.declared.Unmet.{Unmet}
use Rattle.unmet.specs.declared.Unmet.TheVariants.{Room, Ended, Formed, Ordered, Limits, New, Declared, Nodes, Variables, SameTree, Line}
use Rattle.unmet.specs.declared.Unmet.TheVariants.{AnswerFormed, Satisfiable, EachOnce, Satisfied}
use Rattle.outline.proofs.Texts.{bytes_all, leading_bytes, past_bytes, count_bytes, end_bytes, end_of, end_text, is_short, short_bytes, short_text}
use Rattle.outline.specs.Index.{bytes_of, Runs, Shaped}
use Rattle.outline.specs.Outlined.{questions2to5, questions2to6}
use Rattle.outline.specs.Questions.{within_counts, met4, met5, met6, short}
use Rattle.outline.specs.Sections.{Sections, is_end, leading, past, sections}

-- a file, parted into the texts of its sections
pub record Parted (s f st j m e : List ℕ) : Type 0 where
  pub facts : ended LF f ≡ bytes_of (sections (lines_of s)).facts
  pub steps : ended LF st ≡ bytes_of (sections (lines_of s)).steps
  pub jobs : ended LF j ≡ bytes_of (sections (lines_of s)).jobs
  pub methods : ended LF m ≡ bytes_of (sections (lines_of s)).methods
  pub ends : ended LF e ≡ bytes_of (sections (lines_of s)).ends

module _ {c : ℕ} {a f b : List ℕ} (u : Runs c a f b) (ls : List Piece) (e : ended LF a ≡ bytes_of ls) where
  led : ended LF f ≡ bytes_of (leading c ls)
  led = u.front ∙ ap (take_while (begins c)) e ∙ sym (leading_bytes c ls)

  left : ended LF b ≡ bytes_of (past c ls)
  left = u.behind ∙ ap (drop_while (begins c)) e ∙ sym (past_bytes c ls)

pub parted : {s f b st d j g m e : List ℕ} → Runs (byte_of F) s f b → Runs (byte_of S) b st d → Runs (byte_of T) d j g → Runs (byte_of M) g m e
    → Parted s f st j m e
unfolding sections
parted {s} {f} {b} {st} {d} {j} {g} {m} {e} x y z w =
    let l0 = lines_of s in
    let l1 = past (byte_of F) l0 in
    let l2 = past (byte_of S) l1 in
    let l3 = past (byte_of T) l2 in
    let e0 = sym (bytes_all s) in
    let e1 = left x l0 e0 in
    let e2 = left y l1 e1 in
    let e3 = left z l2 e2 in
    record { facts = led x l0 e0; steps = led y l1 e1; jobs = led z l2 e2; methods = led w l3 e3; ends = left w l3 e3 }

module _ {s f st j m e : List ℕ} (u : Parted s f st j m e) where
  -- question 4
  pub fourth : is_end (lines_of e) ≡ met4 (sections (lines_of s))
  unfolding met4
  fourth = end_text e ∙ ap end_of u.ends ∙ sym (end_bytes (sections (lines_of s)).ends)

  bodies : all short (lines_of m) ≡ all short (sections (lines_of s)).methods
  bodies = short_text m ∙ ap (all is_short) u.methods ∙ sym (short_bytes (sections (lines_of s)).methods)

  module _ {nf ns nj nm : ℕ} (cf : nf ≡ length (ended LF f)) (cs : ns ≡ length (ended LF st)) (cj : nj ≡ length (ended LF j))
      (cm : nm ≡ length (ended LF m)) where
    abbrev p : Sections
    p = sections (lines_of s)

    facts : nf ≡ length p.facts
    facts = cf ∙ count_bytes p.facts (ended LF f) u.facts

    steps : ns ≡ length p.steps
    steps = cs ∙ count_bytes p.steps (ended LF st) u.steps

    jobs : nj ≡ length p.jobs
    jobs = cj ∙ count_bytes p.jobs (ended LF j) u.jobs

    methods : nm ≡ length p.methods
    methods = cm ∙ count_bytes p.methods (ended LF m) u.methods

    -- question 5
    pub fifth : (within_counts nf ns nj nm && all short (lines_of m)) ≡ met5 p
    unfolding met5
    fifth = rw (← facts, ← steps, ← jobs, ← methods, ← bodies)

    -- the sections of a file that meets questions 4 and 5
    pub shaped : {i r : List ℕ} → ended LF e ≡ i ∷ r ∷ [] → is_end (lines_of e) ≡ true → within_counts nf ns nj nm ≡ true → all short (lines_of m) ≡ true
        → Shaped s nf ns nj nm st m i r
    shaped {i} {r} q a b d =
        let l = last_two p.ends i r (sym u.ends ∙ q) in
        let k = counts_small nf ns nj nm b in
        record {
          facts = facts;
          steps = steps;
          jobs = jobs;
          methods = methods;
          step_lines = u.steps;
          method_lines = u.methods;
          start = sym l.0;
          root = sym l.1;
          few_facts = k.0;
          few_steps = k.1;
          few_jobs = k.2;
          few_methods = k.3;
          bodies = sym bodies ∙ d;
          ends = sym fourth ∙ a;
        }
      where
        last_two : (ls : List Piece) (i r : List ℕ) → bytes_of ls ≡ i ∷ r ∷ [] → ((get_or ls 0 no_line).bytes ≡ i) × ((get_or ls 1 no_line).bytes ≡ r)
        last_two [] i r e = absurd (cc)
        last_two (a ∷ []) i r e = absurd (cc)
        last_two (a ∷ b ∷ ls) i r e = (cc, cc)

        counts_small : (f st j m : ℕ) → within_counts f st j m ≡ true → (f ≤ 64) × (st ≤ 64) × (j ≤ 64) × (m ≤ 128)
        counts_small f st j m e =
            let b = and_r (leb f 64) (leb st 64 && (leb j 64 && leb m 128)) e in
            let c = and_r (leb st 64) (leb j 64 && leb m 128) b in (
              leb_sound f 64 (and_l (leb f 64) (leb st 64 && (leb j 64 && leb m 128)) e),
              leb_sound st 64 (and_l (leb st 64) (leb j 64 && leb m 128) b),
              leb_sound j 64 (and_l (leb j 64) (leb m 128) c),
              leb_sound m 128 (and_r (leb j 64) (leb m 128) c),
            )

-- no question has the number 0
number_ne : (q : Unmet) → number_of q ≡ 0 → ⊥
number_ne Room e = omega arith
number_ne Ended e = omega arith
number_ne Formed e = omega arith
number_ne Ordered e = omega arith
number_ne Limits e = omega arith
number_ne New e = omega arith
number_ne Declared e = omega arith
number_ne Nodes e = omega arith
number_ne Variables e = omega arith
number_ne SameTree e = omega arith
number_ne Line e = omega arith
number_ne AnswerFormed e = omega arith
number_ne Satisfiable e = omega arith
number_ne EachOnce e = omega arith
number_ne Satisfied e = omega arith

-- The first that is not met ---------------------------------------------------------------------------------------------------------
module _ (s : List ℕ) where
  pub asked2 : met2 s ≡ false → 2 ≡ first_unmet (questions2to5 s)
  unfolding questions2to5
  asked2 e = rw e

  pub asked3 : met2 s ≡ true → met3 (lines_of s) ≡ false → 3 ≡ first_unmet (questions2to5 s)
  unfolding questions2to5
  asked3 a e = rw (a, e)

  pub asked4 : met2 s ≡ true → met3 (lines_of s) ≡ true → met4 (sections (lines_of s)) ≡ false → 4 ≡ first_unmet (questions2to5 s)
  unfolding questions2to5
  asked4 a b e = rw (a, b, e)

  pub asked5 : met2 s ≡ true → met3 (lines_of s) ≡ true → met4 (sections (lines_of s)) ≡ true → met5 (sections (lines_of s)) ≡ false
      → 5 ≡ first_unmet (questions2to5 s)
  unfolding questions2to5
  asked5 a b c e = rw (a, b, c, e)

  pub asked_none : met2 s ≡ true → met3 (lines_of s) ≡ true → met4 (sections (lines_of s)) ≡ true → met5 (sections (lines_of s)) ≡ true
      → 0 ≡ first_unmet (questions2to5 s)
  unfolding questions2to5
  asked_none a b c e = rw (a, b, c, e)

  -- question 6, behind the others
  pub refused_early : (q : ℕ) → q ≡ first_unmet (questions2to5 s) → (q ≡ 0 → ⊥) → q ≡ first_unmet (questions2to6 s)
  unfolding questions2to6 questions2to5
  refused_early q e n = let p = sections (lines_of s) in e ∙ go (met2 s) (met3 (lines_of s)) (met4 p) (met5 p) (met6 p) (λ z. n (e ∙ z))
    where
      go : (a b c d f : Bool) → (first_unmet ((2, a) ∷ (3, b) ∷ (4, c) ∷ (5, d) ∷ []) ≡ 0 → ⊥)
          → first_unmet ((2, a) ∷ (3, b) ∷ (4, c) ∷ (5, d) ∷ []) ≡ first_unmet ((2, a) ∷ (3, b) ∷ (4, c) ∷ (5, d) ∷ (6, f) ∷ [])
      go false b c d f h = refl
      go true false c d f h = refl
      go true true false d f h = refl
      go true true true false f h = refl
      go true true true true f h = absurd (h refl)

  pub refused : (q : Unmet) → number_of q ≡ first_unmet (questions2to5 s) → number_of q ≡ first_unmet (questions2to6 s)
  refused q e = refused_early (number_of q) e (number_ne q)

  pub asked6 : 0 ≡ first_unmet (questions2to5 s) → (t : Bool) → t ≡ met6 (sections (lines_of s)) → cond t 0 6 ≡ first_unmet (questions2to6 s)
  unfolding questions2to6 questions2to5
  asked6 e t q =
      let p = sections (lines_of s) in
      let r5 : List (ℕ × Bool) = (5, met5 p) ∷ [] in
      let r4 : List (ℕ × Bool) = (4, met4 p) ∷ r5 in
      let r3 : List (ℕ × Bool) = (3, met3 (lines_of s)) ∷ r4 in
      let a = all_met 2 (met2 s) r3 (lit< tt) e in
      let b = all_met 3 (met3 (lines_of s)) r4 (lit< tt) a.1 in
      let c = all_met 4 (met4 p) r5 (lit< tt) b.1 in
      let d = all_met 5 (met5 p) [] (lit< tt) c.1 in
      rw (a.0, b.0, c.0, d.0, ← q)
