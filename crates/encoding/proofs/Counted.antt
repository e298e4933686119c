-- The clauses counted are those of the formula.
-- By the laws of the places.
use mathlib.Core.Path.{◌≡◌, sym, ◌∙◌}
use Prim.Native.Nat.{ℕ}
use lib.ListN.{length}
use Rattle.planning.specs.Table.{Table}
use Rattle.planning.specs.Clause.{formula}
use Rattle.places.specs.Total.{clause_count}
use Rattle.places.proofs.Total.{formula_count}
use Rattle.index.specs.Index.{source}

pub clauses_are : (T : Table) {k : ℕ} → k ≡ clause_count (source T) → k ≡ length (formula T)
clauses_are T e = e ∙ sym (formula_count T)
