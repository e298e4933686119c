-- Where names stand: the places and sizes put into the words are those of the lines.
-- The F, S and T lines are the first lines, in that order.
use mathlib.Core.Path.{◌≡◌, refl, sym, ap, ◌∙◌}
use mathlib.Core.List.{List, [], ◌++◌, map}
use mathlib.Core.Logic.{◌⊎◌, inl, inr}
use Prim.Native.Nat.{ℕ, ◌+◌, ◌*◌, ◌≤◌, ◌<◌}
use native.Mathlib.Omega.{arith}
use lib.ListN.{length, get_or, set, length-set, length-append, get_or-append}
use lib.Seq.{get_or-append-add, get_or-set_same, get_or-set_other}
use Rattle.std.proofs.Common.{append_assoc}
use Rattle.lists.specs.List.{from}
use Rattle.lists.proofs.Order.{le_or_lt}
use Rattle.lists.proofs.Place.{map_from}
use Rattle.lines.specs.Parts.{Piece, no_line, lines_of}
use Rattle.lines.specs.Part.{Part}
use Rattle.outline.specs.Sections.{Sections, sections}
use Rattle.outline.specs.Part.{part_of}
use Rattle.outline.specs.Index.{Shaped, Held, no_span, part_in}
use Rattle.outline.specs.declared.Span.{Span}
use Rattle.outline.proofs.Sections.{parts_lines}
use Rattle.table.specs.Reading.{name_parts_of}
use Rattle.table.specs.Layout.{facts_in, steps_in, jobs_in, part_at, name_parts_in}
use Rattle.table.specs.Code.{NamesPut}

-- A loop that puts name after name --------------------------------------------------------------------------------------------
pub naming_first : (ps : List Span) (o : List ℕ) → NamesPut 0 ps o
naming_first ps o = record { start = λ i h. absurd (omega arith); size = λ i h. absurd (omega arith) }

module _ {i : ℕ} {ps : List Span} {o : List ℕ} (u : NamesPut i ps o) (h : 2 * i + 1 < length o) (p : Span) (e : p ≡ get_or ps i no_span) where
  abbrev after : List ℕ
  after = set (set o (2 * i) p.start) (2 * i + 1) p.size

  other : (k : ℕ) → k < 2 * i → get_or after k 0 ≡ get_or o k 0
  other k g = get_or-set_other (set o (2 * i) p.start) (2 * i + 1) k p.size 0 (λ q. omega arith) ∙ get_or-set_other o (2 * i) k p.start 0 (λ q. omega arith)

  first : get_or after (2 * i) 0 ≡ p.start
  first = get_or-set_other (set o (2 * i) p.start) (2 * i + 1) (2 * i) p.size 0 (λ q. omega arith) ∙ get_or-set_same o (2 * i) p.start 0 (omega arith)

  second : get_or after (2 * i + 1) 0 ≡ p.size
  second = get_or-set_same (set o (2 * i) p.start) (2 * i + 1) p.size 0 (omega (arith, length-set o (2 * i) p.start))

  starts : (j : ℕ) → j < i + 1 → (i ≤ j) ⊎ (j < i) → get_or after (2 * j) 0 ≡ (get_or ps j no_span).start
  starts j g (inl q) = let d : j ≡ i = omega arith in rw d (first ∙ ap (λ (x : Span). x.start) e)
  starts j g (inr q) = other (2 * j) (omega arith) ∙ u.start j q

  sizes : (j : ℕ) → j < i + 1 → (i ≤ j) ⊎ (j < i) → get_or after (2 * j + 1) 0 ≡ (get_or ps j no_span).size
  sizes j g (inl q) = let d : j ≡ i = omega arith in rw d (second ∙ ap (λ (x : Span). x.size) e)
  sizes j g (inr q) = other (2 * j + 1) (omega arith) ∙ u.size j q

  pub naming_more : NamesPut (i + 1) ps after
  naming_more = record { start = λ j g. starts j g (le_or_lt i j); size = λ j g. sizes j g (le_or_lt i j) }

-- The names of a file -----------------------------------------------------------------------------------------------------------
-- the words have them from parts_at on
module _ {s : List ℕ} {f st j m : ℕ} {ss ms i r : List ℕ} (u : Shaped s f st j m ss ms i r) {ps : List Span} (w : Held s ps (f + st + j)) (o : List ℕ)
    (v : (i : ℕ) → i < f + st + j → ◌≡◌ {A = Part} (part_at o i) (part_in (get_or ps i no_span))) where
  abbrev p : Sections
  p = sections (lines_of s)

  held : (i : ℕ) → i < f + st + j → part_at o i ≡ part_of (get_or (lines_of s) i no_line)
  held i h = let e = w.at i h in v i h ∙ (λ k. record { start = e.start k; size = e.size k })

  -- lines that stand from place k on
  section : (k n : ℕ) (before ls after : List Piece) → lines_of s ≡ before ++ (ls ++ after) → k ≡ length before → n ≡ length ls → k + n ≤ f + st + j
      → map (part_at o) (from k n) ≡ map part_of ls
  section k n before ls after e d c h = map_from (part_at o) part_of no_line k n ls c (λ i l.
      held (k + i) (omega (arith, c))
      ∙ ap part_of (ap (λ (m : List Piece). get_or m (k + i) no_line) e ∙ ap (λ (m : ℕ). get_or (before ++ (ls ++ after)) (m + i) no_line) d
      ∙ get_or-append-add before (ls ++ after) i no_line ∙ get_or-append ls after no_line i l))

  pub names_held : facts_in o ≡ f → steps_in o ≡ st → jobs_in o ≡ j → name_parts_in o ≡ name_parts_of p
  unfolding name_parts_of name_parts_in
  names_held ef es ej =
      let a = section 0 f [] p.facts (p.steps ++ (p.jobs ++ (p.methods ++ p.ends))) (sym (parts_lines (lines_of s))) refl u.facts (omega arith) in
      let b = section f st p.facts p.steps (p.jobs ++ (p.methods ++ p.ends)) (sym (parts_lines (lines_of s))) u.facts u.steps (omega arith) in
      let c = section (f + st) j (p.facts ++ p.steps) p.jobs (p.methods ++ p.ends) (sym (parts_lines (lines_of s)) ∙ sym (append_assoc p.facts p.steps (p.jobs ++ (p.methods ++ p.ends))))
      (omega (arith, u.facts, u.steps, length-append p.facts p.steps)) u.jobs (omega arith) in
      rw (ef, es, ej) (λ i. record { facts = a i; steps = b i; jobs = c i })
