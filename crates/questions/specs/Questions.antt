-- Which table is accepted, and what comes of the questions that a call puts.
-- Assumes nothing.
use Rattle.std.specs.Prelude.{Bool, cond, List, [], ◌∷◌, ℕ, zero, suc, leb, Result, Ok, Err}
use Rattle.lists.specs.Question.{first_unmet}
use Rattle.unmet.specs.declared.Unmet.{Unmet}
use Rattle.unmet.specs.Number.{number_of}
use Rattle.planning.specs.Table.{Table}
use Rattle.planning.specs.Place.{root_place, nodes}
use Rattle.planning.specs.Variable.{variables}
use Rattle.table.specs.Reading.{NameParts, Reading, refused, passed, reading}

-- 8. "Has the tree at most 1,024 nodes?"
abbrev pub met8 : Table → Bool
met8 T = leb (nodes (root_place T)) 1024

-- 9. "Are there at most 8,191 variables?" (1 of the tree and 10 stand in crate `nodes`, beside the form of the records.)
abbrev pub met9 : Table → Bool
met9 T = leb (variables T) 8191

-- "A table is accepted if 2 to 9 are met": the number of the first question that a file does not meet, or its table
pub data Verdict : Type 0 where
  unmet : ℕ → Verdict
  accepted : Table → Verdict

-- what comes of questions: by the number of the first that is not met, or, where that is 0, what comes of all being met
abbrev pub by_number : {A : Type 0} → ℕ → (refuse : ℕ → A) → A → A
by_number zero refuse a = a
by_number (suc n) refuse a = refuse (suc n)

abbrev pub if_met : ℕ → Table → Verdict
if_met n T = by_number n unmet (accepted T)

abbrev pub after_reading : Reading → Verdict
after_reading (refused n) = unmet n
after_reading (passed T names) = if_met (first_unmet ((8, met8 T) ∷ (9, met9 T) ∷ [])) T

abbrev pub accepting : List ℕ → Verdict
accepting file = after_reading (reading file)

-- "Each name shown is the part of the table file where it was declared": these parts, of a file that was read
abbrev pub names_after : Reading → NameParts
names_after (refused n) = record { facts = []; steps = []; jobs = [] }
names_after (passed T names) = names

abbrev pub names_of : List ℕ → NameParts
names_of file = names_after (reading file)

-- Calls ------------------------------------------------------------------------------------------------------------------------
-- "Each call puts those that concern what it was lent", in sequence: 1, where there is a buffer, then 2 to 9, then those behind 9. What
-- comes of it: by the number of the first question that is not met, or by the table
module _ {A : Type 0} where
  abbrev pub by_verdict : Verdict → (behind9 : Table → List (ℕ × Bool)) → (refuse : ℕ → A) → (succeed : Table → A) → A
  by_verdict (unmet n) behind9 refuse succeed = refuse n
  by_verdict (accepted T) behind9 refuse succeed = by_number (first_unmet (behind9 T)) refuse (succeed T)

  abbrev pub asked : (enough : Bool) → (file : List ℕ) → (behind9 : Table → List (ℕ × Bool)) → (refuse : ℕ → A) → (succeed : Table → A) → A
  asked enough file behind9 refuse succeed = cond enough (by_verdict (accepting file) behind9 refuse succeed) (refuse 1)

-- What a call hands back: the number of the question alone, or its values in order
pub data HandedBack : Type 0 where
  turned_down : ℕ → HandedBack
  taken : List ℕ → HandedBack

-- and that as a call's result: the question, or what has these values
abbrev pub handed : {A : Type 0} → (A → List ℕ) → Result A Unmet → HandedBack
handed values (Ok a) = taken (values a)
handed values (Err q) = turned_down (number_of q)
