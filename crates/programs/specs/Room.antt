-- How much the programs read and write at a time. That nothing is cut by it stands in crate `demands`, specs/NothingCut.
-- Assumes nothing.
use Rattle.std.specs.Prelude.{ℕ}

-- of a file so many bytes are read: one more than it may have
abbrev pub file_room : ℕ
file_room = 65537

-- a formula is written in parts of at most so many bytes
abbrev pub text_room : ℕ
text_room = 1048576
