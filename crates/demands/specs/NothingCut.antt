-- Nothing is cut by how much the programs read and write at a time. The statement alone; proofs/Cut proves it.
-- Assumes nothing.
use Rattle.std.specs.Prelude.{◌≡◌, cond, List, [], ◌++◌, ℕ, zero, suc, ◌+◌, ◌≤◌, leb, length, take, drop}
use Rattle.lists.specs.List.{concat}
use Rattle.planning.specs.Text.{fitting}
use Rattle.programs.specs.Output.{formula_lines, formula_text, procedure_text}
use Rattle.programs.specs.Room.{file_room}

-- what is read of a file
abbrev pub read_of : (file : List ℕ) → List ℕ
read_of file = take file_room file

-- the parts of some lines with at most n bytes, from line j on: each has as many whole lines as fit, the next begins behind it, and the
-- last is the one behind which no line is left; k parts at most
abbrev pub parts_from : (n : ℕ) (ls : List (List ℕ)) (k j : ℕ) → List ℕ
parts_from n ls zero j = []
parts_from n ls (suc k) j =
    let part = fitting n (drop j ls) in
    let next = j + length part in
    concat part ++ cond (leb (length ls) next) [] (parts_from n ls k next)

pub record NothingCut : Type 0 where
  -- a file that is longer than was read is noticed: what is written is the same
  pub formula_read : (file : List ℕ) → formula_lines (read_of file) ≡ formula_lines file
  pub procedure_read : (file answer : List ℕ) → procedure_text (read_of file) (read_of answer) ≡ procedure_text file answer
  -- the parts are the whole output, and there are no more of them than lines
  pub formula_parts : (file : List ℕ) (n : ℕ) → 1024 ≤ n → parts_from n (formula_lines file) (length (formula_lines file)) 0 ≡ formula_text file
