-- A clause's line, from the codes of its literals.
-- By the laws of codes.
use mathlib.Core.Path.{◌≡◌, sym, ap, ◌∙◌}
use mathlib.Core.Bool.{Bool, true, false}
use mathlib.Core.List.{List, map}
use Prim.Native.Nat.{ℕ, ◌≤◌, ◌<◌}
use native.Mathlib.Omega.{arith}
use lib.Dec.{leb}
use lib.ListN.{length}
use borrow.Author.Tests.{leb-true, leb-false}
use Rattle.lists.specs.Written.{Wrote}
use Rattle.lists.proofs.Written.{wrote_same}
use Rattle.planning.specs.Clause.{Clause}
use Rattle.planning.specs.Text.{clause_line}
use Rattle.writer.specs.Literal.{code_of, clause_in}
use Rattle.writer.proofs.Literals.{clause_code}

module _ (C : Clause) {l : List ℕ} (w : l ≡ map code_of C) where
  pub codes_line : clause_line (clause_in l) ≡ clause_line C
  codes_line = ap (λ (m : List ℕ). clause_line (clause_in m)) w ∙ ap clause_line (clause_code C)

  -- r tells whether the line fits in k bytes
  module _ (k : ℕ) {r : Bool} (told : r ≡ leb (length (clause_line (clause_in l))) k) where
    pub line_past : r ≡ false → k < length (clause_line C)
    line_past n = omega (arith, ap length codes_line, leb-false (length (clause_line (clause_in l))) k (sym told ∙ n))

    pub line_within : r ≡ true → length (clause_line (clause_in l)) ≤ k
    line_within y = leb-true (length (clause_line (clause_in l))) k (sym told ∙ y)

    pub line_short : r ≡ true → length (clause_line C) ≤ k
    line_short y = omega (arith, ap length codes_line, line_within y)

  pub line_put : {t t' : List ℕ} {a e : ℕ} → Wrote t a (clause_line (clause_in l)) t' e → Wrote t a (clause_line C) t' e
  line_put v = wrote_same codes_line v
