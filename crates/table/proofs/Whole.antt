-- The read as a whole: what the code answers is the reading of the file.
-- Questions 2 to 6 first, then 7; where all are met, field by field.
use mathlib.Core.Path.{◌≡◌, refl, sym, ap, ap₂, ◌∙◌}
use mathlib.Core.Bool.{Bool, true, false, cond, ◌&&◌}
use mathlib.Core.List.{List, [], ◌∷◌, ◌++◌, map}
use Prim.Native.Nat.{ℕ, zero, suc, ◌+◌, ◌*◌, ◌≤◌, ◌<◌}
use native.Mathlib.Omega.{arith}
use lib.ListN.{length, get_or, length-map}
use lib.Seq.{get_or-append-add}
use Rattle.std.specs.Prelude.{Result, Ok, Err}
use Rattle.unmet.specs.declared.Unmet.{Unmet}
use Rattle.unmet.specs.declared.Unmet.TheVariants.{Declared}
use Rattle.unmet.specs.Number.{number_of as question_of}
use Rattle.bitset.specs.Set.{members}
use Rattle.lists.specs.List.{all, up_to}
use Rattle.lists.specs.Question.{first_unmet}
use Rattle.lists.proofs.Place.{all_at, listed, map_up_to, get_d_map_in}
use Rattle.planning.specs.Table.{Table, most_steps, most_methods}
use Rattle.lines.specs.Parts.{Piece, lines_of, no_line}
use Rattle.grammar.specs.Line.{name_in, start_in}
use Rattle.outline.specs.Sections.{Sections, sections, start_line, root_line}
use Rattle.outline.specs.Names.{among, fact, step, job, task, declared}
use Rattle.grammar.specs.File.{met2, met3}
use Rattle.outline.specs.Questions.{most_names, met4, met5, met6}
use Rattle.outline.specs.Index.{Shaped, Held, bytes_of, no_span, part_in}
use Rattle.outline.specs.Outlined.{questions2to5, questions2to6}
use Rattle.outline.specs.declared.Span.{Span}
use Rattle.rows.specs.Uses.{met7, are_facts, uses_facts, uses_tasks}
use Rattle.rows.specs.Row.{read_step, read_method}
use Rattle.rows.specs.Words.{fact_words, step_words, method_words, words_at, step_at, method_at}
use Rattle.rows.specs.Answers.{Asked, StepsStand, MethodsStand, EndsMean}
use Rattle.rows.specs.declared.Ends.{Ends}
use Rattle.rows.proofs.Counts.{count_steps}
use Rattle.rows.proofs.MethodLines.{body_short, method_in}
use Rattle.rows.proofs.Words.{Has, has_first, has_later, has_all, step_in}
use Rattle.table.specs.Reading.{read_table, name_parts_of, passed, refused, verdict, questions2to7, reading}
use Rattle.table.specs.Layout.{start_at, steps_at, methods_at, parts_at, facts_in, steps_in, jobs_in, methods_in, part_at}
use Rattle.table.specs.Layout.{table_in, name_parts_in, reading_of, Reads}
use Rattle.table.specs.Code.{front, NamesPut}
use Rattle.table.proofs.Parts.{names_held}
use Rattle.table.proofs.Rows.{method_read}

-- Question 7 -----------------------------------------------------------------------------------------------------------------
and_off : (b : Bool) → (b && false) ≡ false
and_off true = refl
and_off false = refl

all_bytes : (q : List ℕ → Bool) (ls : List Piece) → all q (bytes_of ls) ≡ all (λ l. q l.bytes) ls
all_bytes q [] = refl
all_bytes q (l ∷ ls) = ap (λ (b : Bool). q l.bytes && b) (all_bytes q ls)

module _ (p : Sections) where
  abbrev steps_ok : Bool
  steps_ok = all (uses_facts (declared p fact)) (bytes_of p.steps)

  abbrev methods_ok : Bool
  methods_ok = all (uses_tasks (declared p job) (declared p task)) (bytes_of p.methods)

  abbrev ends_ok : Bool
  ends_ok = are_facts (declared p fact) (start_in (start_line p)) && among (declared p job) (name_in (root_line p))

  seven : met7 p ≡ (steps_ok && (methods_ok && ends_ok))
  unfolding met7
  seven = rw (all_bytes (uses_facts (declared p fact)) p.steps, all_bytes (uses_tasks (declared p job) (declared p task)) p.methods) refl

  pub ends_out : ends_ok ≡ false → met7 p ≡ false
  ends_out h = seven ∙ rw (h, and_off methods_ok) (and_off steps_ok)

  pub steps_out : steps_ok ≡ false → met7 p ≡ false
  steps_out h = seven ∙ rw h refl

  pub methods_out : methods_ok ≡ false → met7 p ≡ false
  methods_out h = seven ∙ rw h (and_off steps_ok)

  pub seven_met : steps_ok ≡ true → methods_ok ≡ true → ends_ok ≡ true → met7 p ≡ true
  seven_met a b c = seven ∙ rw (a, b, c) refl

-- The parts put, one behind the other: the front, the steps, the methods, the names -------------------------------------------
module _ {s : List ℕ} {f st j m : ℕ} {st_text m_text i r : List ℕ} (u : Shaped s f st j m st_text m_text i r) {ps : List Span} (w : Held s ps (f + st + j))
    (e : Ends) (fs ss ms ns : List ℕ) (front_is : fs ≡ front f st j m e.root e.depth e.start) (many_s : length ss ≡ step_words * most_steps)
    (many_m : length ms ≡ method_words * most_methods) (c : EndsMean (sections (lines_of s)) e)
    (us : StepsStand (declared (sections (lines_of s)) fact) (bytes_of (sections (lines_of s)).steps) ss)
    (met_s : all (uses_facts (declared (sections (lines_of s)) fact)) (bytes_of (sections (lines_of s)).steps) ≡ true)
    (um : MethodsStand (declared (sections (lines_of s)) job) (declared (sections (lines_of s)) task) (bytes_of (sections (lines_of s)).methods) ms)
    (un : NamesPut most_names ps ns) (many_n : length ns ≡ 2 * most_names) where
  abbrev p : Sections
  p = sections (lines_of s)

  abbrev o : List ℕ
  o = fs ++ (ss ++ (ms ++ ns))

  many_f : length fs ≡ steps_at
  many_f = ap length front_is ∙ omega (arith, c.start.wide)

  front_has : Has fs 0 o
  front_has = has_first fs (ss ++ (ms ++ ns))

  steps_has : Has ss steps_at o
  steps_has = has_later fs (ss ++ (ms ++ ns)) ss 0 many_f (omega arith) (has_first ss (ms ++ ns))

  methods_has : Has ms methods_at o
  methods_has =
      has_later fs (ss ++ (ms ++ ns)) ms (step_words * most_steps) many_f (omega arith)
      (has_later ss (ms ++ ns) ms 0 many_s (omega arith) (has_first ms ns))

  names_has : Has ns parts_at o
  names_has =
      has_later fs (ss ++ (ms ++ ns)) ns (step_words * most_steps + method_words * most_methods) many_f (omega arith)
      (has_later ss (ms ++ ns) ns (method_words * most_methods) many_s (omega arith) (has_later ms ns ns 0 many_m (omega arith) (has_all ns)))

  front_at : (k : ℕ) → k < steps_at → get_or o k 0 ≡ get_or (front f st j m e.root e.depth e.start) k 0
  front_at k h =
      let z : 0 + k ≡ k = omega arith in
      rw z at (front_has.at k (omega (arith, many_f))) ∙ ap (λ (x : List ℕ). get_or x k 0) front_is

  start_at_lem : words_at o start_at fact_words ≡ e.start
  start_at_lem = listed (λ k. get_or o (start_at + k) 0) 0 fact_words e.start (sym c.start.wide) (λ k l.
      front_at (start_at + k) (omega arith) ∙ get_or-append-add (f ∷ st ∷ j ∷ m ∷ e.root ∷ e.depth ∷ []) e.start k 0)

  facts_in_lem : facts_in o ≡ f
  facts_in_lem = let h = front_at 0 (omega arith) in omega (arith, h, u.few_facts)

  steps_in_lem : steps_in o ≡ st
  steps_in_lem = let h = front_at 1 (omega arith) in omega (arith, h, u.few_steps)

  jobs_in_lem : jobs_in o ≡ j
  jobs_in_lem = let h = front_at 2 (omega arith) in omega (arith, h, u.few_jobs)

  methods_in_lem : methods_in o ≡ m
  methods_in_lem = let h = front_at 3 (omega arith) in omega (arith, h, u.few_methods)

  line_is : (ls : List Piece) (k : ℕ) → k < length ls → get_or (bytes_of ls) k [] ≡ (get_or ls k no_line).bytes
  line_is ls k h = get_d_map_in (λ (l : Piece). l.bytes) ls k no_line [] h

  lines_are : (ls : List Piece) → length (bytes_of ls) ≡ length ls
  lines_are ls = length-map ls (λ (l : Piece). l.bytes)

  steps_read : map (λ k. step_at o (steps_at + step_words * k)) (up_to (steps_in o)) ≡ map (λ l. read_step (declared p fact) l.bytes) p.steps
  steps_read =
      let n : steps_in o ≡ length p.steps = steps_in_lem ∙ u.steps in
      map_up_to (λ k. step_at o (steps_at + step_words * k)) (λ l. read_step (declared p fact) l.bytes) no_line (steps_in o) p.steps n
      (λ k l. step_in ss o steps_at (step_words * k) steps_has (omega (arith, n, steps_in_lem, u.few_steps, many_s))
      ∙ (us.stands k (omega (arith, lines_are p.steps)) (all_at _ (bytes_of p.steps) k [] met_s (omega (arith, lines_are p.steps)))).step
      ∙ ap (read_step (declared p fact)) (line_is p.steps k l))

  methods_read : map (λ k. method_at (steps_in o) o (methods_at + method_words * k)) (up_to (methods_in o))
      ≡ map (λ l. read_method (declared p step) (declared p job) l.bytes) p.methods
  methods_read =
      let n : methods_in o ≡ length p.methods = methods_in_lem ∙ u.methods in
      map_up_to (λ k. method_at (steps_in o) o (methods_at + method_words * k)) (λ l. read_method (declared p step) (declared p job) l.bytes) no_line
      (methods_in o) p.methods n
      (λ k l. let h = body_short p.methods u.bodies k l in
      method_read p (get_or p.methods k no_line).bytes o (methods_at + method_words * k) (count_steps u ∙ sym steps_in_lem) h
      (method_in ms o methods_at (method_words * k) methods_has (omega (arith, n, methods_in_lem, u.few_methods, many_m)) h
      (rw (line_is p.methods k l) at (um.stands k (omega (arith, lines_are p.methods))))))

  pub table_read : table_in o ≡ read_table p
  unfolding read_table table_in
  table_read =
      let ef = facts_in_lem ∙ u.facts in
      let ej = jobs_in_lem ∙ u.jobs in
      let es = steps_read in
      let em = methods_read in
      let et = ap members start_at_lem ∙ c.start.set in
      let er = front_at 4 (omega arith) ∙ c.root in
      let ed = front_at 5 (omega arith) ∙ c.depth in
      λ k. record { facts = ef k; steps = es k; jobs = ej k; methods = em k; start = et k; root = er k; depth = ed k }

  part_is : (k : ℕ) → k < f + st + j → part_at o k ≡ part_in (get_or ps k no_span)
  part_is k h =
      let few : k < most_names = omega (arith, u.few_facts, u.few_steps, u.few_jobs) in
      let a = names_has.at (2 * k) (omega (arith, many_n)) ∙ un.start k few in
      let z : parts_at + 2 * k + 1 ≡ parts_at + (2 * k + 1) = omega arith in
      let b = ap (λ (x : ℕ). get_or o x 0) z ∙ names_has.at (2 * k + 1) (omega (arith, many_n)) ∙ un.size k few in
      λ x. record { start = a x; size = b x }

  pub names_read : name_parts_in o ≡ name_parts_of p
  names_read = names_held u w o part_is facts_in_lem steps_in_lem jobs_in_lem

-- The reading ----------------------------------------------------------------------------------------------------------------
-- a question has a number
numbered : (q : Unmet) → 1 ≤ question_of q
numbered q = grind arith

later : (q : ℕ) (b : Bool) (xs : List (ℕ × Bool)) → q ≡ first_unmet xs → (q ≡ 0 → ⊥) → q ≡ first_unmet (xs ++ ((7, b) ∷ []))
later q b [] e n = absurd (n e)
later q b (x ∷ xs) e n = go x.1 e (λ d. later q b xs d n)
  where
    go : (t : Bool) → q ≡ cond t (first_unmet xs) x.0 → (q ≡ first_unmet xs → q ≡ first_unmet (xs ++ ((7, b) ∷ [])))
        → q ≡ cond t (first_unmet (xs ++ ((7, b) ∷ []))) x.0
    go true d h = h d
    go false d h = d

verdict_refused : (q : ℕ) (t : Table) (n : _) → (q ≡ 0 → ⊥) → refused q ≡ verdict q t n
verdict_refused zero t n h = absurd (h refl)
verdict_refused (suc q) t n h = refl

module _ (s : List ℕ) where
  refusal : (q : Unmet) → question_of q ≡ first_unmet (questions2to7 s) → Reads s (Err q)
  unfolding reading reading_of
  refusal q e =
      let p = sections (lines_of s) in
      rw (← e) (verdict_refused (question_of q) (read_table p) (name_parts_of p) (λ z. omega (arith, numbered q)))

  -- turned down by one of questions 2 to 6
  pub read_early : (q : Unmet) → question_of q ≡ first_unmet (questions2to6 s) → Reads s (Err q)
  unfolding questions2to7 questions2to6
  read_early q e = refusal q (later (question_of q) (met7 (sections (lines_of s))) (questions2to6 s) e (λ z. omega (arith, numbered q)))

  asked7 : 0 ≡ first_unmet (questions2to6 s) → first_unmet (questions2to7 s) ≡ cond (met7 (sections (lines_of s))) 0 7
  unfolding questions2to7 questions2to6 questions2to5
  asked7 e =
      let p = sections (lines_of s) in
      go (met2 s) (met3 (lines_of s)) (met4 p) (met5 p) (met6 p) (met7 p) e
    where
      go : (a b c d f g : Bool) → 0 ≡ first_unmet ((2, a) ∷ (3, b) ∷ (4, c) ∷ (5, d) ∷ (6, f) ∷ [])
          → first_unmet ((2, a) ∷ (3, b) ∷ (4, c) ∷ (5, d) ∷ (6, f) ∷ (7, g) ∷ []) ≡ cond g 0 7
      go false b c d f g e = absurd (omega arith)
      go true false c d f g e = absurd (omega arith)
      go true true false d f g e = absurd (omega arith)
      go true true true false f g e = absurd (omega arith)
      go true true true true false g e = absurd (omega arith)
      go true true true true true g e = refl

  -- by question 7, or not at all: t is the file outlined, which is s
  module _ (e : 0 ≡ first_unmet (questions2to6 s)) (t : List ℕ) (d : t ≡ s) where
    met_or : (b : Bool) → met7 (sections (lines_of t)) ≡ b → cond b 0 7 ≡ first_unmet (questions2to7 s)
    met_or b h = let g : met7 (sections (lines_of s)) ≡ b = rw d at h in sym (asked7 e ∙ rw g refl)

    pub read_rest : (r : Result (List ℕ) Unmet)
        → Asked (met7 (sections (lines_of t)))
        (λ ws. (table_in ws ≡ read_table (sections (lines_of t))) × (name_parts_in ws ≡ name_parts_of (sections (lines_of t)))) r → Reads s r
    unfolding reading reading_of
    read_rest (Ok ws) (h, f) =
        let p = sections (lines_of s) in
        let a : table_in ws ≡ read_table p = rw d at f.0 in
        let b : name_parts_in ws ≡ name_parts_of p = rw d at f.1 in
        ap₂ passed a b ∙ ap (λ (n : ℕ). verdict n (read_table p) (name_parts_of p)) (met_or true h)
    read_rest (Err q) (h, e) = rw e (refusal Declared (met_or false h))

-- at the exit of a `?`
pub reads_err : (s : List ℕ) {r : Result (List ℕ) Unmet} {x q : Unmet} → r ≡ Err x → x ≡ q → Reads s (Err q) → Reads s r
reads_err s e d h = rw (e, d) h
