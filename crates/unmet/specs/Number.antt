-- The numbers of the questions.
-- Assumes nothing.
use Rattle.std.specs.Prelude.{ℕ, Result, Ok, Err}
use Rattle.unmet.specs.declared.Unmet.{Unmet}
use Rattle.unmet.specs.declared.Unmet.TheVariants.{Room, Ended, Formed, Ordered, Limits, New, Declared, Nodes, Variables, SameTree, Line}
use Rattle.unmet.specs.declared.Unmet.TheVariants.{AnswerFormed, Satisfiable, EachOnce, Satisfied}

-- "No: 1." and so on
abbrev pub number_of : Unmet → ℕ
number_of Room = 1
number_of Ended = 2
number_of Formed = 3
number_of Ordered = 4
number_of Limits = 5
number_of New = 6
number_of Declared = 7
number_of Nodes = 8
number_of Variables = 9
number_of SameTree = 10
number_of Line = 11
number_of AnswerFormed = 12
number_of Satisfiable = 13
number_of EachOnce = 14
number_of Satisfied = 15

-- the number of the first question that is not met, or 0 where all are
abbrev pub unmet_in : {A : Type 0} → Result A Unmet → ℕ
unmet_in (Ok a) = 0
unmet_in (Err q) = number_of q
