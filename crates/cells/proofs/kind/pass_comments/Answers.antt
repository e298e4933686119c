-- A comment is passed: the lines behind it are those that are left, and what stands before them is longer by the comment and its LF.
use mathlib.Core.Path.{◌≡◌, sym, ap, ◌∙◌}
use mathlib.Core.Bool.{true, cond}
use mathlib.Core.List.{[], ◌∷◌, ◌++◌, append_assoc}
use Rattle.lists.specs.List.{drop_while}
use Rattle.lines.specs.Bytes.{LF}
use Rattle.lines.specs.Parts.{ended}
use Rattle.cells.specs.Kind.{is_comment}
use Rattle.cells.proofs.kind.pass_comments.Goals as goal

pub loop-line-preserved : goal.loop-line-preserved
loop-line-preserved c =
    let line = c.in-Some.line.now in
    let behind = c.in-Some.behind.now in
    let comment : is_comment line ≡ true = sym c.is_comment.ensures ∙ c.if-not-is_comment.false in
    let left : drop_while is_comment (ended LF c.loop-line.rest.now) ≡ drop_while is_comment (ended LF behind) =
    ap (drop_while is_comment) c.in-Some.ensures.lines ∙ ap (λ b. cond b (drop_while is_comment (ended LF behind)) (line ∷ ended LF behind)) comment in
    let front = c.loop-line.invariant.1.0 in (
      sym left ∙ c.loop-line.invariant.0,
      (
        front ++ (line ++ LF ∷ []),
        c.loop-line.invariant.1.1 ∙ ap (λ r. front ++ r) (c.in-Some.ensures.bytes ∙ sym (append_assoc line (LF ∷ []) behind))
            ∙ sym (append_assoc front (line ++ LF ∷ []) behind),
      ),
    )
