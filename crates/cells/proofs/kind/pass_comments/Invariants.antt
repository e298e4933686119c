use mathlib.Core.Path.{◌≡◌}
use mathlib.Core.List.{List, ◌++◌}
use Prim.Native.Nat.{ℕ}
use lib.ListN.{length}
use Rattle.lists.specs.List.{drop_while}
use Rattle.lines.specs.Bytes.{LF}
use Rattle.lines.specs.Parts.{ended}
use Rattle.cells.specs.Kind.{is_comment}
use Rattle.cells.proofs.kind.pass_comments.Given as goal

abbrev pub invariant-loop-line : goal.invariant-loop-line
invariant-loop-line l =
    (drop_while is_comment (ended LF l.rest) ≡ drop_while is_comment (ended LF l.text)) × ((front : List ℕ) × (l.text ≡ front ++ l.rest))

abbrev pub decreases-loop-line : goal.decreases-loop-line
decreases-loop-line l = length l.rest
