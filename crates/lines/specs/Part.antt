-- A part of a file, by its place.
-- Assumes nothing.
use Rattle.std.specs.Prelude.{List, ℕ, take, drop}

-- where a part stands: the place of its first byte, and how many bytes it has
pub record Part : Type 0 where
  pub start : ℕ
  pub size : ℕ

-- its bytes
abbrev pub bytes_at : List ℕ → Part → List ℕ
bytes_at s p = take p.size (drop p.start s)
