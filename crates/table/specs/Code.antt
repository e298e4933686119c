-- Inside the reader, nothing to believe: what the read's parts put into the words, and what its look-ups read there.
-- Assumes nothing.
use Rattle.std.specs.Prelude.{◌≡◌, cond, List, [], ◌∷◌, ◌++◌, ℕ, ◌+◌, ◌*◌, ◌<◌, ltb, get_or, replicate}
use Rattle.outline.specs.Index.{no_span}
use Rattle.outline.specs.declared.Span.{Span}
use Rattle.rows.specs.Words.{fact_words, step_words, method_words, words_at}
use Rattle.table.specs.Layout.{steps_at, methods_at, steps_in, methods_in}

-- the counts, the root job, the depth and the start
abbrev pub front : (facts steps jobs methods root depth : ℕ) (start : List ℕ) → List ℕ
front a b c d e f ws = (a ∷ b ∷ c ∷ d ∷ e ∷ f ∷ []) ++ ws

-- where the first n names stand, a place and a size each
pub record NamesPut (n : ℕ) (names : List Span) (o : List ℕ) : Type 0 where
  pub start : (i : ℕ) → i < n → get_or o (2 * i) 0 ≡ (get_or names i no_span).start
  pub size : (i : ℕ) → i < n → get_or o (2 * i + 1) 0 ≡ (get_or names i no_span).size

-- set k of step s (0 what it needs, 1 what it sets, 2 what it clears); word k of method m; none where there is no such step or method
abbrev pub step_set : List ℕ → (s k : ℕ) → List ℕ
step_set ws s k = cond (ltb s (steps_in ws)) (words_at ws (steps_at + step_words * s + fact_words * k) fact_words) (replicate fact_words 0)

abbrev pub method_word : List ℕ → (m k : ℕ) → ℕ
method_word ws m k = cond (ltb m (methods_in ws)) (get_or ws (methods_at + method_words * m + k) 0) 0
