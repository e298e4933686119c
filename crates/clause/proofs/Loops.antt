-- Loops that push those of some variables that pass a test: how each starts, goes on and ends.
-- By the laws of lists.
use mathlib.Core.Path.{◌≡◌, refl, sym, ap, ◌∙◌}
use mathlib.Core.Bool.{Bool, true, false}
use mathlib.Core.List.{List, [], ◌∷◌, ◌++◌, append-nil}
use Prim.Native.Nat.{ℕ, zero, suc, ◌+◌, ◌≤◌, ◌<◌}
use native.Mathlib.Numerals.{add-one}
use native.Mathlib.Omega.{arith}
use lib.ListN.{length, get_or, take, length-append, length-map, length-take}
use lib.Seq.{take-suc, take_all}
use Rattle.std.proofs.lemmas.List.{append_assoc}
use Rattle.lists.specs.List.{cons_if, filter, number}
use Rattle.lists.proofs.Member.{length_filter}
use Rattle.lists.proofs.Place.{filter_append}
use Rattle.planning.specs.Clause.{pos, Clause, all_pos}
use Rattle.writer.specs.Literal.{code_of}
use Rattle.places.specs.Lookup.{lit_if}
use Rattle.clause.specs.Parts.{codes}
use Rattle.clause.proofs.Pushed.{codes_append}

module _ {A : Type 0} where
  pub number_get_d : (b x : ℕ) (xs : List A) (d : ℕ × A) → x < length xs → get_or (number b xs) x d ≡ (b + x, get_or xs x d.1)
  number_get_d b x [] d h = absurd (omega arith)
  number_get_d b zero (y ∷ xs) d h = let z : b + 0 ≡ b = omega arith in rw z
  number_get_d b (suc x) (y ∷ xs) d h = let z : suc b + x ≡ b + suc x = omega arith in rw (← z) (number_get_d (suc b) x xs d (omega arith))

  pub filter_all : (xs : List A) → filter (λ x. true) xs ≡ xs
  filter_all [] = refl
  filter_all (x ∷ xs) = ap (λ (l : List A). x ∷ l) (filter_all xs)

module _ {A : Type 0} (q : ℕ × A → Bool) (vs : List (ℕ × A)) where
  -- the first x of the variables have been looked at, and those that pass stand behind o₀
  abbrev pub Passed : (o₀ o : List ℕ) (x : ℕ) → Type 0
  Passed o₀ o x = o ≡ o₀ ++ codes (all_pos (filter q (take x vs)))

  pub passed_none : (o : List ℕ) → Passed o o 0
  passed_none o = sym (append-nil o)

  -- no more are pushed than have been looked at
  pushed : (x : ℕ) → length (codes (all_pos (filter q (take x vs)))) ≤ x
  pushed x = omega (
    arith,
    length-map (all_pos (filter q (take x vs))) code_of,
    length-map (filter q (take x vs)) (λ (y : ℕ × A). pos y.0),
    length_filter q (take x vs),
    length-take x vs,
  )

  one : (t : Bool) (v : ℕ × A) → codes (all_pos (cons_if t v [])) ≡ codes (lit_if t v.0)
  one true v = refl
  one false v = refl

  all_pos_append : (xs ys : List (ℕ × A)) → all_pos (xs ++ ys) ≡ all_pos xs ++ all_pos ys
  all_pos_append [] ys = refl
  all_pos_append (x ∷ xs) ys = ap (λ (c : Clause). pos x.0 ∷ c) (all_pos_append xs ys)

  more : (x : ℕ) (d : ℕ × A) → x < length vs
      → codes (all_pos (filter q (take (x + 1) vs))) ≡ codes (all_pos (filter q (take x vs))) ++ codes (lit_if (q (get_or vs x d)) (get_or vs x d).0)
  more x d h =
      rw (
        add-one x,
        take-suc vs x d h,
        filter_append q (take x vs) (get_or vs x d ∷ []),
        all_pos_append (filter q (take x vs)) (filter q (get_or vs x d ∷ [])),
      )
      (codes_append (all_pos (filter q (take x vs))) (all_pos (filter q (get_or vs x d ∷ [])))
      ∙ ap (λ (l : List ℕ). codes (all_pos (filter q (take x vs))) ++ l) (one (q (get_or vs x d)) (get_or vs x d)))

  module _ (o₀ : List ℕ) {o : List ℕ} (x : ℕ) (u : Passed o₀ o x) where
    pub passed_long : length o ≤ length o₀ + x
    passed_long = omega (arith, ap length u, length-append o₀ (codes (all_pos (filter q (take x vs)))), pushed x)

    -- one more, if it passes
    pub passed_more : {o' : List ℕ} {v : ℕ} {b : Bool} (d : ℕ × A) → x < length vs → v ≡ (get_or vs x d).0 → b ≡ q (get_or vs x d)
        → o' ≡ o ++ codes (lit_if b v) → Passed o₀ o' (x + 1)
    passed_more {o'} {v} {b} d h e f w =
        w ∙ rw (e, f, u, more x d h)
        (append_assoc o₀ (codes (all_pos (filter q (take x vs)))) (codes (lit_if (q (get_or vs x d)) (get_or vs x d).0)))

    pub passed_all : length vs ≤ x → o ≡ o₀ ++ codes (all_pos (filter q vs))
    passed_all h = u ∙ ap (λ (ys : List (ℕ × A)). o₀ ++ codes (all_pos (filter q ys))) (take_all x vs h)
