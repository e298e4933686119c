-- Questions 2 and 3, put to a whole file.
-- Assumes nothing.
use Rattle.std.specs.Prelude.{Bool, ◌&&◌, List, ℕ, ◌-◌, leb, eqb, length, get_or}
use Rattle.lists.specs.List.{all}
use Rattle.lines.specs.Bytes.{LF}
use Rattle.lines.specs.Parts.{Piece}
use Rattle.grammar.specs.Line.{is_line}

-- "2. Has the table at most 65,536 bytes, and is its last byte LF?"
unfoldable pub met2 : List ℕ → Bool
met2 s = leb (length s) 65536 && eqb (get_or s (length s - 1) 0) LF

-- "3. Is each line of a known letter, with its field count, names, lists and digit formed as above?"
unfoldable pub met3 : List Piece → Bool
unfolding is_line
met3 ls = all (λ l. is_line l.bytes) ls
