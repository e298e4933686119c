-- Names and lists of names.
-- Assumes nothing.
use Rattle.std.specs.Prelude.{Bool, false, cond, ◌&&◌, ◌||◌, List, [], ◌∷◌, ℕ, leb, length}
use Rattle.lists.specs.List.{all}
use Rattle.lines.specs.Bytes.{same_bytes}
use Rattle.lines.specs.Parts.{split}
use Rattle.grammar.specs.Byte.{lower, of_name, comma, hyphen}

-- a name is its bytes
abbrev pub Name : Type 0
Name = List ℕ

-- "A name is 1 to 12 characters: a lowercase letter, then lowercase letters, digits or hyphens": at most 11 after the first
unfoldable pub is_name : List ℕ → Bool
unfolding lower of_name
is_name [] = false
is_name (b ∷ s) = (lower b && all of_name s) && leb (length s) 11

-- "a lone hyphen"
unfoldable pub is_hyphen : List ℕ → Bool
unfolding same_bytes
is_hyphen f = same_bytes f (hyphen ∷ [])

-- "A list is names parted by single commas, or a lone hyphen for the empty list."
unfoldable pub is_list : List ℕ → Bool
unfolding is_hyphen is_name split
is_list f = is_hyphen f || all is_name (split comma f)

-- the names of a list
unfoldable pub names_in : List ℕ → List Name
unfolding is_hyphen split
names_in f = cond (is_hyphen f) [] (split comma f)
