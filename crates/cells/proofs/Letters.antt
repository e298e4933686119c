-- The lines of an answer file by their kind, and the word of an `s` line, against the definitions of crate `solver`.
use mathlib.Core.Path.{◌≡◌, refl, sym, ap, ◌∙◌, subst}
use mathlib.Core.Bool.{Bool, true, false, cond}
use mathlib.Core.List.{List, [], ◌∷◌}
use mathlib.Core.Logic.{inl, inr}
use Prim.Native.Nat.{ℕ}
use native.Mathlib.Omega.{arith}
use lib.Dec.{eqb}
use lib.Pointwise.{pointwise}
use Rattle.std.specs.Prelude.{Option, Some, None}
use Rattle.lines.specs.Bytes.{same_bytes}
use Rattle.lines.proofs.Same.{same_is}
use Rattle.lines.specs.Parts.{split}
use Rattle.solver.specs.Number.{numbers_of}
use Rattle.solver.specs.Line.{Word as SolverWord, satisfiable, unsatisfiable, unknown, comment, says, unformed, word_line, numbers_line, line_of}
use Rattle.solver.specs.Line.{SATISFIABLE, UNSATISFIABLE, UNKNOWN}
use Rattle.cells.specs.declared.kind.Kind.TheVariants.{Comment, Word as WordKind, Values, Other as OtherKind}
use Rattle.cells.specs.declared.kind.Word.TheVariants.{Satisfiable, Other}
use Rattle.cells.specs.declared.kind.Word.{Word}
use Rattle.cells.specs.Kind.{kind, behind_space, line_from, Says, word_in, IsWordIn}

pub line_kind : (l : List ℕ) → line_of l ≡ line_from (kind l) (behind_space l)
line_kind [] = refl
line_kind (b ∷ []) = go (eqb b 99) (eqb b 115) (eqb b 118)
  where
    go : (c s v : Bool) → cond c comment (cond s unformed (cond v unformed unformed)) ≡ line_from (cond c Comment OtherKind) []
    go true s v = refl
    go false true v = refl
    go false false true = refl
    go false false false = refl
line_kind (b ∷ d ∷ more) = go (eqb b 99) (eqb b 115) (eqb b 118) (eqb d 32)
  where
    go : (c s v x : Bool)
        → cond c (cond x comment unformed) (cond s (cond x (word_line more) unformed) (cond v (cond x (numbers_line (numbers_of (split 32 more))) unformed) unformed))
        ≡ line_from (cond x (cond c Comment (cond s WordKind (cond v Values OtherKind))) OtherKind) more
    go true s v true = refl
    go true s v false = refl
    go false true v true = refl
    go false true v false = refl
    go false false true true = refl
    go false false true false = refl
    go false false false true = refl
    go false false false false = refl

-- The word -----------------------------------------------------------------------------------------------------------------------
-- what `==` of slices gives
pub compared : (bs s w : List ℕ) {r : Bool} → r ≡ pointwise eqb bs s → s ≡ w → r ≡ same_bytes bs w
compared bs s w e q = e ∙ same_is bs s ∙ ap (same_bytes bs) q

pub word_satisfiable : (bs : List ℕ) {r : Bool} → r ≡ same_bytes bs SATISFIABLE → r ≡ true → Some Satisfiable ≡ word_in bs
word_satisfiable bs e t = rw (← e, t)

module _ (bs : List ℕ) {r : Bool} (e : r ≡ same_bytes bs SATISFIABLE) (f : r ≡ false) where
  pub word_unsatisfiable : {t : Bool} → t ≡ same_bytes bs UNSATISFIABLE → t ≡ true → Some Other ≡ word_in bs
  word_unsatisfiable q t = rw (← e, f, ← q, t)

  module _ {r2 : Bool} (e2 : r2 ≡ same_bytes bs UNSATISFIABLE) (f2 : r2 ≡ false) where
    pub word_unknown : {t : Bool} → t ≡ same_bytes bs UNKNOWN → t ≡ true → Some Other ≡ word_in bs
    word_unknown q t = rw (← e, f, ← e2, f2, ← q, t)

    pub word_none : {t : Bool} → t ≡ same_bytes bs UNKNOWN → t ≡ false → None ≡ word_in bs
    word_none q t = rw (← e, f, ← e2, f2, ← q, t)

-- What the word says ---------------------------------------------------------------------------------------------------------------
unformed_unsaid : (w : SolverWord) → unformed ≡ says w → ⊥
unformed_unsaid w e = let z : ◌≡◌ {A = ℕ} 0 1 = cc in omega arith

word_says : (bs : List ℕ) → Says (word_in bs) (word_line bs)
word_says bs = go (same_bytes bs SATISFIABLE) (same_bytes bs UNSATISFIABLE) (same_bytes bs UNKNOWN)
  where
    go : (a b c : Bool) → Says (cond a (Some Satisfiable) (cond b (Some Other) (cond c (Some Other) None))) (cond a (says satisfiable) (cond b (says unsatisfiable) (cond c (says unknown) unformed)))
    go true b c = refl
    go false true c = inl refl
    go false false true = inr refl
    go false false false = unformed_unsaid

pub word_in_lem : {bs : List ℕ} {r : Option Word} → r ≡ word_in bs → IsWordIn bs r
word_in_lem {bs} {r} e = record { is = e; means = subst (λ (w : Option Word). Says w (word_line bs)) (sym e) (word_says bs) }
