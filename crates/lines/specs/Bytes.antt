-- Bytes and lists of bytes.
-- Assumes nothing.
use Rattle.std.specs.Prelude.{Bool, true, false, ◌&&◌, List, [], ◌∷◌, ℕ, leb, eqb}

-- "each ended by LF"
abbrev pub LF : ℕ
LF = 10

-- b lies from lo to hi
unfoldable pub within : ℕ → ℕ → ℕ → Bool
within lo hi b = leb lo b && leb b hi

-- a digit, 0 to 9
unfoldable pub digit : ℕ → Bool
unfolding within
digit b = within 48 57 b

-- are they the same bytes?
unfoldable pub same_bytes : List ℕ → List ℕ → Bool
same_bytes [] [] = true
same_bytes [] (b ∷ t) = false
same_bytes (a ∷ s) [] = false
same_bytes (a ∷ s) (b ∷ t) = eqb a b && same_bytes s t
