-- The names of a list, name after name, as the code parts them.
-- What is left to part gives the names left.
use mathlib.Core.Path.{◌≡◌}
use mathlib.Core.List.{List, [], ◌∷◌}
use Prim.Native.Nat.{ℕ, suc, ◌+◌, ◌<◌}
use native.Mathlib.Omega.{arith}
use lib.ListN.{length}
use Rattle.std.specs.Prelude.{Option, Some, None, MatchOption, IfSome}
use Rattle.lines.specs.Parts.{split}
use Rattle.grammar.specs.Byte.{comma}
use Rattle.grammar.specs.Name.{Name}

-- the names that are left: f gives the bytes of what is still to be parted
abbrev pub names_left : {A : Type 0} → (A → List ℕ) → Option A → List Name
names_left f None = []
names_left f (Some x) = split comma (f x)

pub left_first : {A : Type 0} (f : A → List ℕ) (o : Option A) {ns : List Name} → MatchOption o (ns ≡ []) (λ x. ns ≡ split comma (f x)) → ns ≡ names_left f o
left_first f None h = h
left_first f (Some x) h = h

pub left_more : {A : Type 0} (f : A → List ℕ) (l o : Option A) (x : A) (n : Name) → l ≡ Some x
    → MatchOption o (split comma (f x) ≡ n ∷ []) (λ y. split comma (f x) ≡ n ∷ split comma (f y))
    → names_left f l ≡ n ∷ names_left f o
left_more f l None x n e h = rw e h
left_more f l (Some y) x n e h = rw e h

-- how much is left: one more than the bytes
abbrev pub bytes_left : {A : Type 0} → (A → List ℕ) → Option A → ℕ
bytes_left f None = 0
bytes_left f (Some x) = suc (length (f x))

pub left_less : {A : Type 0} (f : A → List ℕ) (o : Option A) (n m : ℕ) → IfSome o (λ x. n + 1 + length (f x) ≡ m) → bytes_left f o < suc m
left_less f None n m h = omega arith
left_less f (Some x) n m h = omega (arith, h)
