-- Inside the readers, nothing to believe: where the first byte c stands. Proofs cite it; it follows from the definitions of Parts.
-- Assumes nothing.
use Rattle.std.specs.Prelude.{List, ℕ, eqb}
use Rattle.lists.specs.List.{find_index}

-- how many bytes stand before the first c; all, where there is none
unfoldable pub before : ℕ → List ℕ → ℕ
before c s = find_index (λ b. eqb b c) s
