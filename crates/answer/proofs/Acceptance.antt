-- An accepted file's names are short.
-- By the promises of the reader.
use mathlib.Core.Path.{◌≡◌}
use mathlib.Core.List.{List, [], ◌∷◌, ◌++◌}
use Prim.Native.Nat.{ℕ, ◌≤◌}
use lib.ListN.{length}
use Rattle.lists.specs.List.{Every}
use Rattle.planning.specs.Table.{Table}
use Rattle.table.specs.Reading.{NameParts}
use Rattle.table.specs.Promises.{Promised, names_at}
use Rattle.listing.specs.Listing.{shown_names}
use Rattle.listing.specs.Walk.{ShortNames}
use Rattle.questions.specs.Questions.{accepted, accepting, names_of}
use Rattle.questions.proofs.Acceptance.{was_read, promised, names_are}

module _ (P : List ℕ → Type 0) where
  every_left : (xs ys : List (List ℕ)) → Every P (xs ++ ys) → Every P xs
  every_left [] ys h = tt
  every_left (x ∷ xs) ys h = (h.0, every_left xs ys h.1)

  every_right : (xs ys : List (List ℕ)) → Every P (xs ++ ys) → Every P ys
  every_right [] ys h = h
  every_right (x ∷ xs) ys h = every_right xs ys h.1

pub short_names : (file : List ℕ) (T : Table) → accepting file ≡ accepted T → ShortNames (shown_names file (names_of file))
short_names file T e = rw (names_are file T e) (go (was_read file T e).names (promised file T e))
  where
    go : (ns : NameParts) → Promised file T ns → ShortNames (shown_names file ns)
    go ns p =
        let N = shown_names file ns in
        let P : List ℕ → Type 0 = λ n. length n ≤ 12 in
        let rest = every_right P (names_at file ns.facts) (N.steps ++ N.jobs) p.short in
        record { steps = every_left P N.steps N.jobs rest; jobs = every_right P N.steps N.jobs rest }
