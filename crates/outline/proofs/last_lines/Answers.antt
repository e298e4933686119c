use Rattle.std.proofs.Common.{◌≡◌, ◌∙◌, ◌&&◌, ◌∷◌, Bool, false, refl, ap, sym, is_some, List, ℕ}
use Rattle.grammar.specs.Line.{begins}
use Rattle.lines.specs.Bytes.{LF}
use Rattle.lines.specs.Parts.{ended}
use Rattle.outline.proofs.Texts.{end_none, end_one, end_said, nil_said, is_nil}
use Rattle.outline.proofs.last_lines.Goals as goal
use Rattle.outline.proofs.last_lines.Goals.{else-line_begins-via-then-line_begins+then-line_begins-2+else-is_none}
use Rattle.outline.proofs.last_lines.Goals.{else-line_begins-via-then-line_begins+else-line_begins-2, else-line_begins-via-else-line_begins}

pub returns-in_err-start-clause-asked : goal.returns-in_err-start-clause-asked
returns-in_err-start-clause-asked c = ap is_some c.from_residual.ensures ∙ sym (end_none c.args.text.now c.in_err-start.ensures.lines)

pub returns-in_err-root-clause-asked : goal.returns-in_err-root-clause-asked
returns-in_err-root-clause-asked c =
    ap is_some c.from_residual-in_err-root.ensures
    ∙ sym (end_one c.args.text.now c.in_ok-start.start.now c.in_ok-start.behind.now c.in_ok-start.ensures.lines c.in_err-root.ensures.lines)

pub returns-then-is_none-clause-asked : goal.returns-then-is_none-clause-asked
returns-then-is_none-clause-asked c =
    let xs = ended LF c.in_ok-root.behind.now in
    let e = c.in_ok-start.ensures.lines ∙ ap (λ (l : List (List ℕ)). c.in_ok-start.start.now ∷ l) c.in_ok-root.ensures.lines in
    let n = nil_said _ _ xs _ _ c.next_line-then-line_begins-2.ensures.lines c.is_none.ensures in
    end_said c.args.text.now c.in_ok-start.start.now c.in_ok-root.root.now xs _ e c.line_begins.ensures c.line_begins-then-line_begins.ensures n
    (rw (c.if-line_begins.true, c.if-line_begins-2.true, c.if-is_none.true))

pub returns-else-line_begins-clause-asked : goal.returns-else-line_begins-clause-asked
returns-else-line_begins-clause-asked c =
    let xs = ended LF c.in_ok-root.behind.now in
    let e = c.in_ok-start.ensures.lines ∙ ap (λ (l : List (List ℕ)). c.in_ok-start.start.now ∷ l) c.in_ok-root.ensures.lines in
    let said = λ (b n : Bool) (p : b ≡ begins 82 c.in_ok-root.root.now) (q : n ≡ is_nil xs) (d : false ≡ (c.line_begins.result && (b && n))).
    end_said c.args.text.now c.in_ok-start.start.now c.in_ok-root.root.now xs false e c.line_begins.ensures p q d in
    elim c.else-line_begins.branch [
      | else-line_begins-via-then-line_begins+then-line_begins-2+else-is_none w ↦
          said _ _ w.line_begins-then-line_begins.ensures (nil_said _ _ xs _ _ w.next_line-then-line_begins-2.ensures.lines w.is_none.ensures)
          (rw (w.if-line_begins.true, w.if-line_begins-2.true, w.if-is_none.false))
      | else-line_begins-via-then-line_begins+else-line_begins-2 w ↦
          said _ (is_nil xs) w.line_begins-then-line_begins.ensures refl (rw (w.if-line_begins.true, w.if-line_begins-2.false))
      | else-line_begins-via-else-line_begins w ↦
          said (begins 82 c.in_ok-root.root.now) (is_nil xs) refl refl (rw w.if-line_begins.false)
    ]
