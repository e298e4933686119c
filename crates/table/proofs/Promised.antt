-- What is promised of every reading: tables that pass, refusal numbers, names.
-- Each field of a table that passes follows from the questions that are met.
use mathlib.Core.Path.{◌≡◌, ap₂, refl, sym, ap, subst, ◌∙◌}
use mathlib.Core.Bool.{Bool, true, false, cond, ◌&&◌, ◌||◌}
use mathlib.Core.List.{List, [], ◌∷◌, ◌++◌, map}
use Prim.Native.Nat.{ℕ, zero, suc, ◌≤◌, ◌<◌}
use native.Mathlib.Omega.{arith}
use lib.Dec.{lit<, leb}
use lib.ListN.{length, length-map}
use Rattle.lists.specs.List.{all, has, Every, Rising, none_twice}
use Rattle.lists.specs.Question.{first_unmet}
use Rattle.lists.proofs.Bool.{and_l, and_r, leb_sound, leb_no}
use Rattle.lists.proofs.Member.{any_append}
use Rattle.lists.proofs.Question.{all_met}
use Rattle.lists.proofs.Rising.{rising_filter}
use Rattle.planning.specs.Table.{Table, step, job, TaskIn, StepIn, MethodIn, Method, Sound, Limits}
use Rattle.lines.specs.Bytes.{same_bytes}
use Rattle.lines.specs.Parts.{Piece, lines_of}
use Rattle.grammar.specs.Byte.{lower, of_name}
use Rattle.grammar.specs.Name.{Name, is_name}
use Rattle.grammar.specs.Line.{name_in, needs_in, sets_in, clears_in, body_in, start_in, F, S, T, list, is_line}
use Rattle.grammar.specs.File.{met2, met3}
use Rattle.outline.specs.Sections.{Sections, sections, past, start_line, root_line}
use Rattle.outline.specs.Names.{names_of, among, number_of, fact, step as stepKind, job as jobKind, declared, all_new, all_declared}
use Rattle.outline.specs.Questions.{short, met4, met5, met6, within_counts}
use Rattle.outline.specs.Part.{part_of}
use Rattle.table.specs.Reading.{NameParts, name_parts_of, read_table, Reading, refused, passed, verdict, questions2to7, reading}
use Rattle.outline.specs.Outlined.{questions2to5, questions2to6}
use Rattle.rows.specs.Uses.{are_facts, uses_facts, uses_tasks, met7, facts_of, task_of}
use Rattle.rows.specs.Row.{read_step, read_method}
use Rattle.table.specs.Promises.{Promised, Promises, names_at, all_names}
use Rattle.table.proofs.RootLine.{deep_root, all_past}
use Rattle.table.proofs.Shown.{stands_lines, stands_leading, stands_past, stands_all}
use Rattle.rows.proofs.Counts.{number_lt}
use Rattle.lists.proofs.Every.{every_append, every_imp}
use Rattle.table.specs.Layout.{table_in, name_parts_in, reading_of}
use Rattle.table.proofs.Formed.{names_formed, begins_F, begins_S, begins_T}

-- Numbers of names -----------------------------------------------------------------------------------------------------------
among_append : (xs ys : List Name) (n : Name) → among (xs ++ ys) n ≡ (among xs n || among ys n)
unfolding among
among_append xs ys n = any_append (same_bytes n) xs ys

task_in : (t : Table) (steps jobs : List Name) → length t.steps ≡ length steps → t.jobs ≡ length jobs → (n : Name) → among (steps ++ jobs) n ≡ true → TaskIn t (task_of steps jobs n)
unfolding task_of
task_in t steps jobs p q n e = go (among steps n) refl (sym (among_append steps jobs n) ∙ e)
  where
    go : (b : Bool) → among steps n ≡ b → (b || among jobs n) ≡ true → TaskIn t (cond b (step (number_of steps n)) (job (number_of jobs n)))
    go true f e = omega (arith, number_lt steps n f)
    go false f e = omega (arith, number_lt jobs n e)

names_length : (ls : List Piece) → length (names_of ls) ≡ length ls
unfolding names_of
names_length ls = length-map ls (λ (l : Piece). name_in l.bytes)

facts_rising : (ls : List Piece) (ns : List Name) → Rising 0 (length ls) (facts_of (names_of ls) ns)
unfolding facts_of
facts_rising ls ns = subst (λ (m : ℕ). Rising 0 m (facts_of (names_of ls) ns)) (names_length ls) (rising_filter (has (map (number_of (names_of ls)) ns)) (length (names_of ls)))

every_read : {A B : Type 0} (p : A → Bool) (f : A → B) (Q : B → Type 0) → ((x : A) → p x ≡ true → Q (f x)) → (xs : List A) → all p xs ≡ true → Every Q (map f xs)
every_read p f Q h [] e = tt
every_read p f Q h (x ∷ xs) e = (h x (and_l (p x) (all p xs) e), every_read p f Q h xs (and_r (p x) (all p xs) e))

counts_small : (f st j m : ℕ) → within_counts f st j m ≡ true → (f ≤ 64) × (st ≤ 64) × (j ≤ 64) × (m ≤ 128)
counts_small f st j m e =
    let b = and_r (leb f 64) (leb st 64 && (leb j 64 && leb m 128)) e in
    let c = and_r (leb st 64) (leb j 64 && leb m 128) b in (
      leb_sound f 64 (and_l (leb f 64) (leb st 64 && (leb j 64 && leb m 128)) e),
      leb_sound st 64 (and_l (leb st 64) (leb j 64 && leb m 128) b),
      leb_sound j 64 (and_l (leb j 64) (leb m 128) c),
      leb_sound m 128 (and_r (leb j 64) (leb m 128) c),
    )

-- A table that passes --------------------------------------------------------------------------------------------------------
module _ (ls : List Piece) (e3 : met3 ls ≡ true) (e4 : met4 (sections ls) ≡ true) where
  abbrev p : Sections
  p = sections ls

  sound : met7 (sections ls) ≡ true → Sound (read_table (sections ls))
  unfolding met7 uses_facts uses_tasks read_table read_step read_method declared
  sound e7 =
      let t = read_table p in
      let facts = names_of p.facts in
      let steps = names_of p.steps in
      let jobs = names_of p.jobs in
      let rise : (ns : List Name) → Rising 0 (length p.facts) (facts_of facts ns) = λ ns. facts_rising p.facts ns in
      let uf : Piece → Bool = λ l. uses_facts facts l.bytes in
      let ut : Piece → Bool = λ l. uses_tasks jobs (steps ++ jobs) l.bytes in
      let st = are_facts facts (start_in (start_line p)) in
      let ro = among jobs (name_in (root_line p)) in
      let later = and_r (all uf p.steps) (all ut p.methods && (st && ro)) e7 in
      let nj = names_length p.jobs in
      let ns = names_length p.steps in
      record {
        steps = every_read uf (λ (l : Piece). read_step facts l.bytes) (StepIn t)
            (λ l e. record { needs = rise (needs_in l.bytes); sets = rise (sets_in l.bytes); clears = rise (clears_in l.bytes) })
            p.steps (and_l (all uf p.steps) (all ut p.methods && (st && ro)) e7);
        methods = every_read ut (λ (l : Piece). read_method steps jobs l.bytes) (MethodIn t)
            (λ l e. record {
              of = omega (arith, number_lt jobs (name_in l.bytes) (and_l (among jobs (name_in l.bytes)) (all (among (steps ++ jobs)) (body_in l.bytes)) e));
              body = every_read (among (steps ++ jobs)) (task_of steps jobs) (TaskIn t)
                  (task_in t steps jobs (length-map p.steps (λ (l : Piece). read_step facts l.bytes) ∙ sym ns) (sym nj))
                  (body_in l.bytes) (and_r (among jobs (name_in l.bytes)) (all (among (steps ++ jobs)) (body_in l.bytes)) e);
            })
            p.methods (and_l (all ut p.methods) (st && ro) later);
        start = rise (start_in (start_line p));
        root = omega (arith, number_lt jobs (name_in (root_line p)) (and_r st ro (and_r (all ut p.methods) (st && ro) later)));
        depth = (deep_root ls e3 e4).0;
      }

  limits : met5 (sections ls) ≡ true → Limits (read_table (sections ls))
  unfolding met5 short read_table read_method
  limits e5 =
      let facts = declared p fact in
      let steps = declared p stepKind in
      let jobs = declared p jobKind in
      let w = within_counts (length p.facts) (length p.steps) (length p.jobs) (length p.methods) in
      let b = all short p.methods in
      let c = counts_small (length p.facts) (length p.steps) (length p.jobs) (length p.methods) (and_l w b e5) in
      record {
        facts = c.0;
        steps = omega (arith, c.1, length-map p.steps (λ (l : Piece). read_step facts l.bytes));
        jobs = c.2;
        methods = omega (arith, c.3, length-map p.methods (λ (l : Piece). read_method steps jobs l.bytes));
        bodies = every_read short (λ (l : Piece). read_method steps jobs l.bytes) (λ (k : Method). length k.body ≤ 8)
            (λ l e. omega (arith, leb_sound (length (body_in l.bytes)) 8 e, length-map (body_in l.bytes) (task_of steps jobs)))
            p.methods (and_r w b e5);
        depth = (deep_root ls e3 e4).1;
      }

-- The verdict ----------------------------------------------------------------------------------------------------------------
-- what a reading that passes says
abbrev table_or : Table → Reading → Table
table_or d (refused n) = d
table_or d (passed t ns) = t

abbrev names_or : NameParts → Reading → NameParts
names_or d (refused n) = d
names_or d (passed t ns) = ns

abbrev number : Reading → ℕ
number (refused n) = suc n
number (passed t ns) = 0

verdict_passed : (q : ℕ) (t t' : Table) (ns ns' : NameParts) → verdict q t ns ≡ passed t' ns' → (0 ≡ q) × (t ≡ t') × (ns ≡ ns')
verdict_passed zero t t' ns ns' e = (refl, ap (table_or t) e, ap (names_or ns) e)
verdict_passed (suc q) t t' ns ns' e = absurd (omega (arith, ap number e))

verdict_refused : (q n : ℕ) (t : Table) (ns : NameParts) → verdict q t ns ≡ refused n → (q ≡ n) × (1 ≤ n)
verdict_refused zero n t ns e = absurd (omega (arith, ap number e))
verdict_refused (suc q) n t ns e = let z = ap number e in (omega (arith, z), omega (arith, z))

-- what is needed of the questions that are met
record Met (s : List ℕ) : Type 0 where
  third : met3 (lines_of s) ≡ true
  fourth : met4 (sections (lines_of s)) ≡ true
  fifth : met5 (sections (lines_of s)) ≡ true
  sixth : met6 (sections (lines_of s)) ≡ true
  seventh : met7 (sections (lines_of s)) ≡ true

met : (s : List ℕ) → 0 ≡ first_unmet (questions2to7 s) → Met s
unfolding questions2to7 questions2to6 questions2to5
met s e =
    let p = sections (lines_of s) in
    let r7 : List (ℕ × Bool) = (7, met7 p) ∷ [] in
    let r6 : List (ℕ × Bool) = (6, met6 p) ∷ r7 in
    let r5 : List (ℕ × Bool) = (5, met5 p) ∷ r6 in
    let r4 : List (ℕ × Bool) = (4, met4 p) ∷ r5 in
    let r3 : List (ℕ × Bool) = (3, met3 (lines_of s)) ∷ r4 in
    let a = all_met 2 (met2 s) r3 (lit< tt) e in
    let b = all_met 3 (met3 (lines_of s)) r4 (lit< tt) a.1 in
    let c = all_met 4 (met4 p) r5 (lit< tt) b.1 in
    let d = all_met 5 (met5 p) r6 (lit< tt) c.1 in
    let f = all_met 6 (met6 p) r7 (lit< tt) d.1 in
    let g = all_met 7 (met7 p) [] (lit< tt) f.1 in
    record { third = b.0; fourth = c.0; fifth = d.0; sixth = f.0; seventh = g.0 }

-- the number of an unmet question is one of 2 to 7
among_seven : (s : List ℕ) (n : ℕ) → first_unmet (questions2to7 s) ≡ n → 1 ≤ n → (2 ≤ n) × (n ≤ 7)
unfolding questions2to7 questions2to6 questions2to5
among_seven s n e h = let p = sections (lines_of s) in go (met2 s) (met3 (lines_of s)) (met4 p) (met5 p) (met6 p) (met7 p) e
  where
    go : (a b c d f g : Bool) → first_unmet ((2, a) ∷ (3, b) ∷ (4, c) ∷ (5, d) ∷ (6, f) ∷ (7, g) ∷ []) ≡ n → (2 ≤ n) × (n ≤ 7)
    go false b c d f g e = (omega arith, omega arith)
    go true false c d f g e = (omega arith, omega arith)
    go true true false d f g e = (omega arith, omega arith)
    go true true true false f g e = (omega arith, omega arith)
    go true true true true false g e = (omega arith, omega arith)
    go true true true true true false e = (omega arith, omega arith)
    go true true true true true true e = absurd (omega arith)

-- "A name is 1 to 12 characters"
name_short : (n : Name) → is_name n ≡ true → length n ≤ 12
unfolding is_name
name_short [] h = omega arith
name_short (b ∷ s) h = let k = leb_sound (length s) 11 (and_r (lower b && all of_name s) (leb (length s) 11) h) in omega arith

promised : (s : List ℕ) → 0 ≡ first_unmet (questions2to7 s) → Promised s (read_table (sections (lines_of s))) (name_parts_of (sections (lines_of s)))
unfolding sections name_parts_of read_table met3 met6 all_new all_declared declared
promised s e =
    let ls = lines_of s in
    let p = sections ls in
    let m = met s e in
    let r = stands_lines s in
    let ss = past 70 ls in
    let ts = past 83 ss in
    let rs = stands_past s 70 ls r in
    let rt = stands_past s 83 ss rs in
    let a = stands_all s p.facts (stands_leading s 70 ls r) in
    let b = stands_all s p.steps (stands_leading s 83 ss rs) in
    let c = stands_all s p.jobs (stands_leading s 84 ts rt) in
    let named : names_of p.facts ++ (names_of p.steps ++ names_of p.jobs) ≡ names_at s (map part_of p.facts) ++ (names_at s (map part_of p.steps) ++ names_at s (map part_of p.jobs))
    = sym (ap₂ ◌++◌ a (ap₂ ◌++◌ b c)) in
    let fs = m.third in
    let fss = all_past (λ l. is_line l.bytes) 70 ls fs in
    let fts = all_past (λ l. is_line l.bytes) 83 ss fss in
    let isN : Name → Type 0 = λ n. is_name n ≡ true in
    let every = every_append isN (names_of p.facts) (names_of p.steps ++ names_of p.jobs) (names_formed F [] refl (λ l. begins_F l) ls fs)
    (every_append isN (names_of p.steps) (names_of p.jobs) (names_formed S (list ∷ list ∷ list ∷ []) refl (λ l. begins_S l) ss fss) (names_formed T [] refl (λ l. begins_T l) ts fts)) in
    record {
      sound = sound ls m.third m.fourth m.seventh;
      limits = limits ls m.third m.fourth m.fifth;
      facts = length-map p.facts part_of;
      steps = length-map p.steps part_of ∙ sym (length-map p.steps (λ (l : Piece). read_step (declared p fact) l.bytes));
      jobs = length-map p.jobs part_of;
      formed = subst (Every isN) named every;
      short = every_imp isN (λ (n : Name). length n ≤ 12) name_short (all_names s (name_parts_of p)) (subst (Every isN) named every);
      new = sym (ap (none_twice same_bytes) named) ∙ m.sixth;
    }

taken : (s : List ℕ) (t : Table) (ns : NameParts) → reading s ≡ passed t ns → Promised s t ns
unfolding reading
taken s t ns e =
    let p = sections (lines_of s) in
    let r = verdict_passed (first_unmet (questions2to7 s)) (read_table p) t (name_parts_of p) ns e in
    rw (← r.1, ← r.2) (promised s r.0)

too_long : (s : List ℕ) → 65536 < length s → reading s ≡ refused 2
unfolding reading met2
too_long s h = rw (leb_no (length s) 65536 h)

pub promises : Promises
unfolding reading reading_of
promises = record {
  met = taken;
  too_long = too_long;
  unmet = λ s n e.
      let p = sections (lines_of s) in
      let r = verdict_refused (first_unmet (questions2to7 s)) n (read_table p) (name_parts_of p) e in
      among_seven s n r.0 r.1;
  read = λ s ws u. taken s (table_in ws) (name_parts_in ws) (sym u);
  read_as = λ s ws u. sym u;
  turned_down = λ s q u. sym u;
}
