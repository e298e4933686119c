-- Literals as numbers, one behind the other.
-- By recursion on the clause.
use mathlib.Core.Path.{◌≡◌, refl, ap, ◌∙◌}
use mathlib.Core.Bool.{Bool, true, false}
use mathlib.Core.List.{List, [], ◌∷◌, ◌++◌}
use Prim.Native.Nat.{ℕ, ◌+◌, ◌≤◌}
use native.Mathlib.Omega.{arith}
use lib.ListN.{length}
use Rattle.std.proofs.lemmas.List.{append_assoc}
use Rattle.planning.specs.Clause.{Clause, literal}
use Rattle.writer.specs.Literal.{code_of}
use Rattle.places.specs.Lookup.{lit_if}
use Rattle.clause.specs.Parts.{codes}

pub codes_append : (c d : Clause) → codes (c ++ d) ≡ codes c ++ codes d
codes_append [] d = refl
codes_append (l ∷ c) d = ap (λ (k : List ℕ). code_of l ∷ k) (codes_append c d)

-- a variable that is wanted or not is one literal at most
pub lit_most : (b : Bool) (v : ℕ) → length (codes (lit_if b v)) ≤ 1
lit_most true v = omega arith
lit_most false v = omega arith

module _ (o : List ℕ) {b : List ℕ} where
  -- the same variable
  pub same_member : {t u : Bool} {p q : ℕ} (v : ℕ) → t ≡ u → p ≡ q → b ≡ o ++ codes (lit_if t (v + p)) → b ≡ o ++ codes (lit_if u (v + q))
  same_member v e f w = rw (← e, ← f) w

  -- the same literal
  pub same_literal : {t u : Bool} {v w : ℕ} → t ≡ u → v ≡ w → b ≡ o ++ codes (literal t v ∷ []) → b ≡ o ++ codes (literal u w ∷ [])
  same_literal e f h = rw (← e, ← f) h

  -- the same literals
  pub same_lits : {c d : Clause} → c ≡ d → b ≡ o ++ codes c → b ≡ o ++ codes d
  same_lits e w = w ∙ ap (λ (x : Clause). o ++ codes x) e

  -- some literals and others behind them
  pub then_lits : {a : List ℕ} (c d : Clause) → a ≡ o ++ codes c → b ≡ a ++ codes d → b ≡ o ++ codes (c ++ d)
  then_lits c d u w = w ∙ rw (u, codes_append c d) (append_assoc o (codes c) (codes d))

  -- nothing before them
  pub alone : (c : Clause) → o ≡ [] → b ≡ o ++ codes c → b ≡ codes c
  alone c e w = w ∙ ap (λ (x : List ℕ). x ++ codes c) e
