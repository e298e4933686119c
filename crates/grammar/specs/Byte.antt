-- The bytes of a table file.
-- Assumes nothing.
use Rattle.std.specs.Prelude.{Bool, ◌||◌, ℕ, eqb}
use Rattle.lines.specs.Bytes.{within, digit}

-- "fields parted by one tab"; "names parted by single commas"; "a lone hyphen"
abbrev pub tab : ℕ
tab = 9

abbrev pub comma : ℕ
comma = 44

abbrev pub hyphen : ℕ
hyphen = 45

-- a lowercase letter, a to z
unfoldable pub lower : ℕ → Bool
unfolding within
lower b = within 97 122 b

-- "lowercase letters, digits or hyphens"
unfoldable pub of_name : ℕ → Bool
unfolding lower digit
of_name b = lower b || (digit b || eqb b hyphen)

-- "depth: one digit 1 to 8"
unfoldable pub of_depth : ℕ → Bool
unfolding within
of_depth b = within 49 56 b
