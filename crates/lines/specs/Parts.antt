-- Splitting bytes at a byte c: the parts that c parts, and the parts that c ends.
-- Assumes nothing.
use Rattle.std.specs.Prelude.{Bool, true, false, List, [], ◌∷◌, ℕ, ◌+◌, eqb, length}
use Rattle.lines.specs.Bytes.{LF}

-- b in front of the first part; dropped where there is none, for then it stands after the last end
abbrev pub push : ℕ → List (List ℕ) → List (List ℕ)
push b [] = []
push b (p ∷ ps) = (b ∷ p) ∷ ps

-- the byte b in front of the parts: where it parts or ends them a new, empty one begins, and else it joins the first
abbrev pub put_byte : Bool → ℕ → List (List ℕ) → List (List ℕ)
put_byte true b ps = [] ∷ ps
put_byte false b ps = push b ps

-- "fields parted by one tab", "names parted by single commas": one part more than there are bytes c
unfoldable pub split : ℕ → List ℕ → List (List ℕ)
split c [] = [] ∷ []
split c (b ∷ s) = put_byte (eqb b c) b (split c s)

-- "each ended by LF": a part for each byte c. What stands after the last c is no part.
unfoldable pub ended : ℕ → List ℕ → List (List ℕ)
ended c [] = []
ended c (b ∷ s) = put_byte (eqb b c) b (ended c s)

-- a part of a file: its first byte's place, and its bytes
pub record Piece : Type 0 where
  pub start : ℕ
  pub bytes : List ℕ

-- what stands past the last line, so that look-up always has an answer
abbrev pub no_line : Piece
no_line = record { start = 0; bytes = [] }

-- parts as pieces: the first begins at k, and one byte stands after each
unfoldable pub placed : ℕ → List (List ℕ) → List Piece
placed k [] = []
placed k (p ∷ ps) = record { start = k; bytes = p } ∷ placed (k + length p + 1) ps

-- the lines of a file, each with its place
unfoldable pub lines_of : List ℕ → List Piece
unfolding ended placed
lines_of s = placed 0 (ended LF s)
