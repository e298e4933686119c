-- The I line and the R line.
-- Their fields together, and their two answers to question 7.
use mathlib.Core.Path.{◌≡◌}
use mathlib.Core.Bool.{Bool, true, ◌&&◌}
use mathlib.Core.List.{List}
use Prim.Native.Nat.{ℕ, ◌-◌}
use lib.ListN.{length, get_or}
use Rattle.std.specs.Prelude.{Result, Ok, Err, ⊤}
use Rattle.std.specs.Result.{result_and, result_unwrap_or}
use Rattle.unmet.specs.declared.Unmet.{Unmet}
use Rattle.lists.proofs.Bool.{and_l, clash}
use Rattle.bitset.specs.Set.{members}
use Rattle.grammar.specs.Name.{Name, names_in}
use Rattle.grammar.specs.Line.{field, name_in, start_in, depth_in}
use Rattle.outline.specs.Sections.{Sections, start_line, root_line}
use Rattle.outline.specs.Names.{among, number_of, fact, job, declared}
use Rattle.rows.specs.Uses.{are_facts, facts_of}
use Rattle.rows.specs.Words.{fact_words}
use Rattle.rows.specs.Answers.{Asked, FactsMean, EndsMean, EndsStand}
use Rattle.rows.specs.declared.Ends.{Ends}
use Rattle.rows.proofs.Counts.{asked_and}

-- what is kept of a list of facts: the set, where the list meets question 7
pub set_or : (facts ns : List Name) (ws : List ℕ) (r : Result (List ℕ) Unmet) → Asked (are_facts facts ns) (FactsMean fact_words facts ns) r
    → are_facts facts ns ≡ true → members (result_unwrap_or r ws) ≡ facts_of facts ns
set_or facts ns ws (Ok xs) h e = h.1.set
set_or facts ns ws (Err q) h e = absurd (clash e h.0)

pub wide_or : (facts ns : List Name) (ws : List ℕ) (r : Result (List ℕ) Unmet) → Asked (are_facts facts ns) (FactsMean fact_words facts ns) r
    → length ws ≡ fact_words → length (result_unwrap_or r ws) ≡ fact_words
wide_or facts ns ws (Ok xs) h e = h.1.wide
wide_or facts ns ws (Err q) h e = e

module _ (p : Sections) where
  -- question 7 of the two lines
  abbrev met : Bool
  met = are_facts (declared p fact) (start_in (start_line p)) && among (declared p job) (name_in (root_line p))

  pub ends_stand : (l m f g h ws : List ℕ) (j k : ℕ) → l ≡ start_line p → m ≡ root_line p → f ≡ field l 1 → g ≡ field m 1 → h ≡ field m 2
      → (are_facts (declared p fact) (names_in f) ≡ true → members ws ≡ facts_of (declared p fact) (names_in f)) → length ws ≡ fact_words
      → j ≡ number_of (declared p job) g → k ≡ get_or h 0 0 - 48 → EndsStand p (record { start = ws; root = j; depth = k })
  unfolding start_in name_in depth_in
  ends_stand l m f g h ws j k a b c d e u w v z =
      record { set = rw (← a, ← c) u; wide = w; root = rw (← b, ← d) v; depth = rw (← b, ← e) z }

  -- where both lines meet question 7, what stands is what they mean
  ends_mean : {A B : Type 0} {e : Ends} (r : Result A Unmet) (b : B) → EndsStand p e → Asked met (λ _. ⊤) r
      → Asked met (λ _. EndsMean p e) (result_and r (Ok b))
  ends_mean (Ok x) b u h =
      let s = and_l (are_facts (declared p fact) (start_in (start_line p))) (among (declared p job) (name_in (root_line p))) h.0 in
      (h.0, record { start = record { set = u.set s; wide = u.wide }; root = u.root; depth = u.depth })
  ends_mean (Err q) b u h = h

  pub ends_asked : (l m f g : List ℕ) {A B C : Type 0} (P : A → Type 0) (Q : B → Type 0) (r : Result A Unmet) (t : Result B Unmet) (x : C) {e : Ends}
      → l ≡ start_line p → m ≡ root_line p → f ≡ field l 1 → g ≡ field m 1 → Asked (are_facts (declared p fact) (names_in f)) P r
      → Asked (among (declared p job) g) Q t → EndsStand p e → Asked met (λ _. EndsMean p e) (result_and (result_and r t) (Ok x))
  unfolding start_in name_in
  ends_asked l m f g P Q r t x a b c d u v w = ends_mean (result_and r t) x w (rw (← a, ← b, ← c, ← d) (asked_and _ _ P Q r t u v))
