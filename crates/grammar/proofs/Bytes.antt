-- The classes of bytes and the fields of one byte, written out in tests of numbers.
-- By their definitions.
use mathlib.Core.Path.{◌≡◌, refl}
use mathlib.Core.Bool.{◌&&◌, ◌||◌}
use mathlib.Core.List.{List, [], ◌∷◌}
use Prim.Native.Nat.{ℕ}
use native.Mathlib.Omega.{arith}
use lib.Dec.{leb, eqb}
use borrow.Author.Tests.{ne_eqb}
use lib.ListN.{length, get_or}
use Rattle.lists.proofs.Bool.{and_on, and_off}
use Rattle.lines.specs.Bytes.{within, digit, same_bytes}
use Rattle.grammar.specs.Byte.{lower, of_name, of_depth}
use Rattle.grammar.specs.Name.{is_hyphen}
use Rattle.grammar.specs.Line.{is_depth}

pub lower_is : (b : ℕ) → lower b ≡ (leb 97 b && leb b 122)
unfolding lower within
lower_is b = refl

pub of_name_is : (b : ℕ) → of_name b ≡ ((leb 97 b && leb b 122) || ((leb 48 b && leb b 57) || eqb b 45))
unfolding of_name lower digit within
of_name_is b = refl

pub depth_is : (f : List ℕ) → is_depth f ≡ (eqb (length f) 1 && (leb 49 (get_or f 0 0) && leb (get_or f 0 0) 56))
unfolding is_depth of_depth within
depth_is f = refl

pub hyphen_is : (f : List ℕ) → is_hyphen f ≡ (eqb (length f) 1 && eqb (get_or f 0 0) 45)
unfolding is_hyphen same_bytes
hyphen_is [] = refl
hyphen_is (b ∷ []) = and_on (eqb b 45)
hyphen_is (b ∷ c ∷ f) = rw (and_off (eqb b 45), ne_eqb (length (b ∷ c ∷ f)) 1 (λ e. omega arith))
