use Prim.Native.Nat.{ℕ}
use mathlib.Core.List.{List}
use Rattle.std.proofs.Common.{Bor}
use Rattle.grammar.specs.Name.{names_in}
use Rattle.outline.specs.Names.{fact, declared}
use Rattle.rows.specs.Words.{fact_words}
use Rattle.rows.specs.Answers.{sections_of}
use Rattle.rows.proofs.FactList.{Adding}
use Rattle.rows.proofs.Names.{names_left, bytes_left}
use Rattle.rows.proofs.fact_set.Given as goal

abbrev pub invariant-loop-left : goal.invariant-loop-left
invariant-loop-left l = Adding fact_words (declared (sections_of l.o) fact) (names_in l.list) (names_left (λ (x : Bor (List ℕ)). x.now) l.left) l.set

abbrev pub decreases-loop-left : goal.decreases-loop-left
decreases-loop-left l = bytes_left (λ (x : Bor (List ℕ)). x.now) l.left
