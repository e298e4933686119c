-- A line behind the `s` line, by its kind.
use mathlib.Core.Path.{◌≡◌, refl}
use mathlib.Core.Bool.{Bool, true, false, cond}
use mathlib.Core.List.{List, [], ◌∷◌}
use mathlib.Core.Logic.{⊎_elim}
use mathlib.Core.Option.{Option, none, some}
use Prim.Native.Nat.{ℕ}
use lib.Dec.{eqb}
use Rattle.lists.proofs.Bool.{bool_cases, eqb_sound}
use Rattle.lines.specs.Parts.{split}
use Rattle.solver.specs.Line.{Word}
use Rattle.solver.specs.Scan.{Reading, read_parts, read_line}
use Rattle.cells.specs.declared.kind.Kind.{Kind}
use Rattle.cells.specs.declared.kind.Kind.TheVariants.{Comment, Word as WordKind, Values, Other as OtherKind}
use Rattle.cells.specs.Kind.{kind, behind_space}

abbrev pub line_by : Kind → Word → Reading → List ℕ → Option Reading
line_by Comment w r more = some r
line_by WordKind w r more = none
line_by Values w r more = read_parts w r (split 32 more)
line_by OtherKind w r more = none

pub line_is : (w : Word) (r : Reading) (l : List ℕ) → read_line w r l ≡ line_by (kind l) w r (behind_space l)
line_is w r [] = refl
line_is w r (b ∷ []) = go (eqb b 99) (eqb b 118)
  where
    go : (c v : Bool) → cond c (some r) (cond v none none) ≡ line_by (cond c Comment OtherKind) w r []
    go true v = refl
    go false true = refl
    go false false = refl
line_is w r (b ∷ d ∷ more) = ⊎_elim (λ y. rw (eqb_sound b 115 y) (word (eqb d 32))) (λ y. rw y (other (eqb b 99) (eqb b 118) (eqb d 32))) (bool_cases (eqb b 115))
  where
    word : (x : Bool) → none ≡ line_by (cond x WordKind OtherKind) w r more
    word true = refl
    word false = refl

    other : (c v x : Bool)
        → cond c (cond x (some r) none) (cond v (cond x (read_parts w r (split 32 more)) none) none) ≡ line_by (cond x (cond c Comment (cond v Values OtherKind)) OtherKind) w r more
    other true v true = refl
    other true v false = refl
    other false true true = refl
    other false true false = refl
    other false false true = refl
    other false false false = refl
