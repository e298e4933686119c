-- The names of each kind, as the spans show them. The lines are the sections one after the other, so a kind's names stand side by side.
use mathlib.Core.Path.{◌≡◌, refl, sym, ap, ap₂, ◌∙◌}
use mathlib.Core.Bool.{Bool, true, false, cond}
use mathlib.Core.List.{List, [], ◌∷◌, ◌++◌, append_assoc}
use Prim.Native.Nat.{ℕ, zero, suc, ◌+◌, ◌-◌, ◌≤◌, ◌<◌}
use native.Mathlib.Omega.{arith}
use lib.ListN.{length, get_or, take, drop, length-append, length-map}
use lib.Seq.{drop-cons, take-append_seam, drop-append_seam}
use Rattle.std.specs.Prelude.{Option, Some, None, IfSome}
use Rattle.std.proofs.lemmas.List.Elements.{All-cons, All-nil}
use Rattle.grammar.specs.Line.{name_in}
use Rattle.grammar.specs.Name.{Name}
use Rattle.lines.specs.Parts.{Piece, no_line, lines_of}
use Rattle.outline.proofs.Names.{number_small}
use Rattle.outline.proofs.Sections.{parts_lines}
use Rattle.outline.specs.Index.{number_in, most_in, Shaped, Held, Indexed, Within, all_shown, no_span}
use Rattle.outline.specs.Names.{Kind, fact, step, job, task, names_of, among, number_of, all_new, declared, all_declared}
use Rattle.outline.specs.Questions.{met6, most_names}
use Rattle.outline.specs.Sections.{Sections, sections}
use Rattle.outline.specs.declared.Span.{Span}

names_append : (a b : List Piece) → names_of (a ++ b) ≡ names_of a ++ names_of b
unfolding names_of
names_append [] b = refl
names_append (x ∷ a) b = ap (λ (l : List Name). name_in x.bytes ∷ l) (names_append a b)

-- Some of the spans, side by side ---------------------------------------------------------------------------------------------------
module _ (s : List ℕ) (ps : List Span) {n : ℕ} (h : Held s ps n) (w : n ≤ length ps) (few : n ≤ length (lines_of s)) where
  pub shown_part : (k a : ℕ) → a + k ≤ n → all_shown s (take k (drop a ps)) ≡ names_of (take k (drop a (lines_of s)))
  unfolding names_of
  shown_part zero a l = refl
  shown_part (suc k) a l =
      let x : a < length ps = omega arith in
      let y : a < length (lines_of s) = omega arith in
      let z : suc a + k ≤ n = omega arith in
      rw (drop-cons ps a no_span x, drop-cons (lines_of s) a no_line y)
      (ap₂ (λ (m : Name) (l : List Name). m ∷ l) (h.at a (omega arith)).shown (shown_part k (suc a) z))

  pub within_part : (k a : ℕ) → a + k ≤ n → Within s (take k (drop a ps))
  within_part zero a l = All-nil (λ p. p.start + p.size ≤ length s)
  within_part (suc k) a l =
      let x : a < length ps = omega arith in
      let z : suc a + k ≤ n = omega arith in
      rw (drop-cons ps a no_span x)
      (All-cons (λ p. p.start + p.size ≤ length s) (get_or ps a no_span) (take k (drop (suc a) ps)) (h.at a (omega arith)).high (within_part k (suc a) z))

  -- the lines y, with x in front
  part : (k a : ℕ) (x y z : List Piece) → lines_of s ≡ x ++ (y ++ z) → a ≡ length x → k ≡ length y → a + k ≤ n → all_shown s (take k (drop a ps)) ≡ names_of y
  part k a x y z e p q l =
      shown_part k a l ∙ ap names_of (ap₂ (λ (i j : ℕ). take i (drop j (lines_of s))) q p ∙ ap (λ (ls : List Piece). take (length y) (drop (length x) ls)) e
      ∙ ap (take (length y)) (drop-append_seam x (y ++ z)) ∙ take-append_seam y z)

-- The kinds ---------------------------------------------------------------------------------------------------------------------------
module _ (s : List ℕ) where
  abbrev p : Sections
  p = sections (lines_of s)

  lines_facts : lines_of s ≡ p.facts ++ (p.steps ++ (p.jobs ++ (p.methods ++ p.ends)))
  lines_facts = sym (parts_lines (lines_of s))

  lines_tasks : lines_of s ≡ p.facts ++ ((p.steps ++ p.jobs) ++ (p.methods ++ p.ends))
  lines_tasks = lines_facts ∙ ap (λ (l : List Piece). p.facts ++ l) (sym (append_assoc p.steps p.jobs (p.methods ++ p.ends)))

  lines_jobs : lines_of s ≡ (p.facts ++ p.steps) ++ (p.jobs ++ (p.methods ++ p.ends))
  lines_jobs = lines_facts ∙ sym (append_assoc p.facts p.steps (p.jobs ++ (p.methods ++ p.ends)))

  lines_all : lines_of s ≡ (p.facts ++ (p.steps ++ p.jobs)) ++ (p.methods ++ p.ends)
  lines_all = lines_tasks ∙ sym (append_assoc p.facts (p.steps ++ p.jobs) (p.methods ++ p.ends))

  module _ {f st j : ℕ} (ef : f ≡ length p.facts) (es : st ≡ length p.steps) (ej : j ≡ length p.jobs) where
    names_lines : f + st + j ≤ length (lines_of s)
    names_lines =
        omega (
          arith,
          ef,
          es,
          ej,
          ap length lines_all,
          length-append (p.facts ++ (p.steps ++ p.jobs)) (p.methods ++ p.ends),
          length-append p.facts (p.steps ++ p.jobs),
          length-append p.steps p.jobs,
        )

  module _ {f st j m : ℕ} {ss ms i r : List ℕ} (u : Shaped s f st j m ss ms i r) where
    pub declared_few : f + st + j ≤ length (lines_of s)
    declared_few = names_lines u.facts u.steps u.jobs

    pub names_few : f + st + j ≤ most_names
    names_few = omega (arith, u.few_facts, u.few_steps, u.few_jobs)

    count_names : (ls : List Piece) → length (names_of ls) ≡ length ls
    unfolding names_of
    count_names ls = length-map ls (λ (l : Piece). name_in l.bytes)

    pub kind_few : (k : Kind) → length (declared p k) ≤ most_in k
    unfolding declared
    kind_few fact = omega (arith, count_names p.facts, u.facts, u.few_facts)
    kind_few step = omega (arith, count_names p.steps, u.steps, u.few_steps)
    kind_few job = omega (arith, count_names p.jobs, u.jobs, u.few_jobs)
    kind_few task =
        omega (arith, length-append (names_of p.steps) (names_of p.jobs), count_names p.steps, count_names p.jobs, u.steps, u.jobs, u.few_steps, u.few_jobs)

    -- the spans of all names, of a file that has a shape
    pub indexed : {ps : List Span} → Held s ps (f + st + j) → Indexed s f st j ps
    indexed h = record { facts = u.facts; steps = u.steps; jobs = u.jobs; few = names_few; held = h }

  -- whether or not the file has a shape
  module _ {f st j : ℕ} {ps : List Span} (u : Indexed s f st j ps) (w : f + st + j ≤ length ps) where
    few : f + st + j ≤ length (lines_of s)
    few = names_lines u.facts u.steps u.jobs

    pub names_within : (k a : ℕ) → a + k ≤ f + st + j → Within s (take k (drop a ps))
    names_within = within_part s ps u.held w few

    pub fact_names : all_shown s (take f ps) ≡ declared p fact
    unfolding declared
    fact_names = part s ps u.held w few f 0 [] p.facts (p.steps ++ (p.jobs ++ (p.methods ++ p.ends))) lines_facts refl u.facts (omega arith)

    pub step_names : all_shown s (take (f + st - f) (drop f ps)) ≡ declared p step
    unfolding declared
    step_names = part s ps u.held w few (f + st - f) f p.facts p.steps (p.jobs ++ (p.methods ++ p.ends)) lines_facts u.facts
        (omega (arith, u.steps)) (omega arith)

    pub job_names : all_shown s (take (f + st + j - (f + st)) (drop (f + st) ps)) ≡ declared p job
    unfolding declared
    job_names =
        part s ps u.held w few (f + st + j - (f + st)) (f + st) (p.facts ++ p.steps) p.jobs (p.methods ++ p.ends) lines_jobs
        (omega (arith, u.facts, u.steps, length-append p.facts p.steps)) (omega (arith, u.jobs)) (omega arith)

    pub task_names : all_shown s (take (f + st + j - f) (drop f ps)) ≡ declared p task
    unfolding declared
    task_names =
        part s ps u.held w few (f + st + j - f) f p.facts (p.steps ++ p.jobs) (p.methods ++ p.ends) lines_tasks u.facts
        (omega (arith, u.steps, u.jobs, length-append p.steps p.jobs)) (omega arith) ∙ names_append p.steps p.jobs

    -- question 6
    pub sixth : all_new (all_shown s (take (f + st + j) ps)) ≡ met6 p
    unfolding met6 all_declared declared
    sixth =
        ap all_new (part s ps u.held w few (f + st + j) 0 [] (p.facts ++ (p.steps ++ p.jobs)) (p.methods ++ p.ends) lines_all refl
        (omega (arith, u.facts, u.steps, u.jobs, length-append p.facts (p.steps ++ p.jobs), length-append p.steps p.jobs)) (omega arith)
        ∙ names_append p.facts (p.steps ++ p.jobs) ∙ ap (λ (l : List Name). names_of p.facts ++ l) (names_append p.steps p.jobs))

-- the same shape, of the file by another name
pub shape_at : {s t : List ℕ} {f st j m : ℕ} {ss ms i r : List ℕ} → s ≡ t → Shaped s f st j m ss ms i r → Shaped t f st j m ss ms i r
shape_at e u = rw e at u

-- a number is below the limit of its kind
pub number_within : (ms : List Name) (m : Name) (b : ℕ) (r : Option ℕ) → length ms ≤ b → r ≡ number_in ms m → IfSome r (λ k. k < b)
unfolding number_in
number_within ms m b r l e = rw e (go (among ms m) refl)
  where
    go : (t : Bool) → t ≡ among ms m → IfSome (cond t (Some (number_of ms m)) None) (λ k. k < b)
    go true q = omega (arith, number_small ms m (sym q))
    go false q = tt
