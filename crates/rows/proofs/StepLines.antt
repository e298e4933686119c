-- An S line: its three lists, one behind the other.
-- Each is a set in words of its own.
use mathlib.Core.Path.{◌≡◌, refl, ap, ◌∙◌}
use mathlib.Core.Bool.{Bool, true, false, ◌&&◌}
use mathlib.Core.List.{List, ◌++◌}
use Prim.Native.Nat.{ℕ, ◌+◌, ◌*◌, ◌≤◌}
use lib.ListN.{length}
use native.Mathlib.Omega.{arith}
use Rattle.bitset.specs.Set.{members}
use Rattle.grammar.specs.Name.{Name, names_in}
use Rattle.grammar.specs.Line.{field, needs_in, sets_in, clears_in}
use Rattle.rows.specs.Uses.{are_facts, uses_facts}
use Rattle.rows.specs.Row.{read_step}
use Rattle.rows.specs.Words.{fact_words, step_words, Kept}
use Rattle.rows.specs.Answers.{FactsMean, StepStands}
use Rattle.rows.proofs.Words.{Has, words_has, has_first, has_later, has_all, step_kept, step_in}

pub and_off : (b : Bool) → (b && false) ≡ false
and_off true = refl
and_off false = refl

-- a list of facts, read from the field f
abbrev pub Listed : List Name → List ℕ → List ℕ → Type 0
Listed fs f ws = (are_facts fs (names_in f) ≡ true) × FactsMean fact_words fs (names_in f) ws

module _ (fs : List Name) (l : List ℕ) where
  pub needs_out : (f : List ℕ) → f ≡ field l 2 → are_facts fs (names_in f) ≡ false → uses_facts fs l ≡ false
  unfolding uses_facts needs_in
  needs_out f e h = rw (← e, h)

  pub sets_out : (f : List ℕ) → f ≡ field l 3 → are_facts fs (names_in f) ≡ false → uses_facts fs l ≡ false
  unfolding uses_facts needs_in sets_in
  sets_out f e h = rw (← e, h) (and_off (are_facts fs (names_in (field l 2))))

  pub clears_out : (f : List ℕ) → f ≡ field l 4 → are_facts fs (names_in f) ≡ false → uses_facts fs l ≡ false
  unfolding uses_facts needs_in sets_in clears_in
  clears_out f e h =
      let a = are_facts fs (names_in (field l 2)) in
      rw (← e, h) (ap (λ (b : Bool). a && b) (and_off (are_facts fs (names_in (field l 3)))) ∙ and_off a)

  pub step_stands : (f g h x y z o : List ℕ) → f ≡ field l 2 → g ≡ field l 3 → h ≡ field l 4 → Listed fs f x → Listed fs g y → Listed fs h z
      → o ≡ x ++ (y ++ z) → (uses_facts fs l ≡ true) × StepStands fs l 0 o
  unfolding uses_facts needs_in sets_in clears_in read_step
  step_stands f g h x y z o a b c u v w e =
      let p = ap members (words_has x o 0 u.1.wide (rw e (has_first x (y ++ z)))) ∙ u.1.set in
      let q = ap members (words_has y o fact_words v.1.wide (rw e (has_later x (y ++ z) y 0 u.1.wide (omega arith) (has_first y z)))) ∙ v.1.set in
      let k = has_later y z z 0 {k = fact_words} v.1.wide (omega arith) (has_all z) in
      let r = ap members (words_has z o (2 * fact_words) w.1.wide (rw e (has_later x (y ++ z) z fact_words u.1.wide (omega arith) k))) ∙ w.1.set in
      (rw (← a, ← b, ← c, u.0, v.0, w.0), record { step = rw (← a, ← b, ← c) (λ i. record { needs = p i; sets = q i; clears = r i }) })

-- where the line meets question 7, its step stands; it stays as long as its words do, and stands in the whole where it stands in a part
abbrev pub Step : List Name → List ℕ → ℕ → List ℕ → Type 0
Step fs l k o = uses_facts fs l ≡ true → StepStands fs l k o

pub step_keeps : (fs : List Name) (l : List ℕ) (k n : ℕ) (o o' : List ℕ) → k + step_words ≤ n → Kept n o o' → Step fs l k o → Step fs l k o'
step_keeps fs l k n o o' h w u = λ e. record { step = step_kept k h w ∙ (u e).step }

pub step_whole : {fs : List Name} {l : List ℕ} (xs o : List ℕ) (k : ℕ) → Has xs k o → length xs ≡ step_words → StepStands fs l 0 xs → StepStands fs l k o
step_whole xs o k w h u = let z : k + 0 ≡ k = omega arith in record { step = rw z at (step_in xs o k 0 w (omega (arith, h))) ∙ u.step }
