-- The sections of a table file: its F lines, its S lines, its T lines, its M lines, and the lines that end it.
-- Assumes nothing.
use Rattle.std.specs.Prelude.{Bool, false, ◌&&◌, List, [], ◌∷◌, ℕ, get_or}
use Rattle.lists.specs.List.{take_while, drop_while}
use Rattle.lines.specs.Parts.{Piece, no_line}
use Rattle.grammar.specs.Line.{F, S, T, M, I, R, byte_of, begins}

-- the first lines, as long as they begin with the byte c
unfoldable pub leading : ℕ → List Piece → List Piece
unfolding begins
leading c ls = take_while (λ l. begins c l.bytes) ls

-- the others: from the first line on that does not begin with c
unfoldable pub past : ℕ → List Piece → List Piece
unfolding begins
past c ls = drop_while (λ l. begins c l.bytes) ls

-- "Order: all F, all S, all T, all M, one I, one R last. F, S, T and M may be missing."
pub record Sections : Type 0 where
  pub facts : List Piece
  pub steps : List Piece
  pub jobs : List Piece
  pub methods : List Piece
  pub ends : List Piece

unfoldable pub sections : List Piece → Sections
unfolding leading past
sections ls =
    let s = past (byte_of F) ls in
    let t = past (byte_of S) s in
    let m = past (byte_of T) t in
    record {
      facts = leading (byte_of F) ls;
      steps = leading (byte_of S) s;
      jobs = leading (byte_of T) t;
      methods = leading (byte_of M) m;
      ends = past (byte_of M) m;
    }

-- "one I, one R last"
unfoldable pub is_end : List Piece → Bool
unfolding begins
is_end [] = false
is_end (l ∷ []) = false
is_end (l ∷ m ∷ []) = begins (byte_of I) l.bytes && begins (byte_of R) m.bytes
is_end (l ∷ m ∷ n ∷ ls) = false

-- the I line and the R line
abbrev pub start_line : Sections → List ℕ
start_line p = (get_or p.ends 0 no_line).bytes

abbrev pub root_line : Sections → List ℕ
root_line p = (get_or p.ends 1 no_line).bytes
