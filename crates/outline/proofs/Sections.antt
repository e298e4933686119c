-- The sections, one after the other, are the lines.
-- By cases on whether a line begins with the byte.
use mathlib.Core.Path.{◌≡◌, refl, ap, ◌∙◌}
use mathlib.Core.Bool.{Bool, true, false, cond}
use mathlib.Core.List.{List, [], ◌∷◌, ◌++◌}
use Prim.Native.Nat.{ℕ}
use Rattle.grammar.specs.Line.{F, M, S, T, begins, byte_of}
use Rattle.lines.specs.Parts.{Piece}
use Rattle.outline.specs.Sections.{leading, past, sections}

pub lead_past : (c : ℕ) (ls : List Piece) → leading c ls ++ past c ls ≡ ls
unfolding leading past
lead_past c [] = refl
lead_past c (l ∷ ls) = go (begins c l.bytes) (lead_past c ls)
  where
    go : (t : Bool) → leading c ls ++ past c ls ≡ ls → cond t (l ∷ leading c ls) [] ++ cond t (past c ls) (l ∷ ls) ≡ l ∷ ls
    go true e = ap (λ (m : List Piece). l ∷ m) e
    go false e = refl

-- "all F, all S, all T, all M, ..": the parts, one after the other, are the lines
pub parts_lines : (ls : List Piece) → let p = sections ls in p.facts ++ (p.steps ++ (p.jobs ++ (p.methods ++ p.ends))) ≡ ls
unfolding sections
parts_lines ls =
    let s = past (byte_of F) ls in
    let t = past (byte_of S) s in
    let m = past (byte_of T) t in
    ap (λ (x : List Piece). leading (byte_of F) ls ++ (leading (byte_of S) s ++ (leading (byte_of T) t ++ x))) (lead_past (byte_of M) m)
    ∙ ap (λ (x : List Piece). leading (byte_of F) ls ++ (leading (byte_of S) s ++ x)) (lead_past (byte_of T) t)
    ∙ ap (λ (x : List Piece). leading (byte_of F) ls ++ x) (lead_past (byte_of S) s)
    ∙ lead_past (byte_of F) ls
