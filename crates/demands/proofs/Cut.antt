-- A file that is longer than what was read of it is turned down, and so is what was read: nothing is cut unnoticed.
-- By questions 2 and 12, which ask for the length before anything else is asked.
use mathlib.Core.Path.{◌≡◌, refl, ap, ap₂, ◌∙◌}
use mathlib.Core.Bool.{false}
use mathlib.Core.List.{List}
use mathlib.Core.Logic.{◌⊎◌, inl, inr}
use Prim.Native.Nat.{ℕ, ◌≤◌, ◌<◌}
use native.Mathlib.Omega.{arith}
use lib.ListN.{length}
use lib.Seq.{take_all, length-take-le}
use Rattle.lists.proofs.Bool.{leb_no}
use Rattle.lists.proofs.Order.{le_or_lt}
use Rattle.table.proofs.Promised.{promises}
use Rattle.solver.specs.Questions.{met12}
use Rattle.questions.specs.Questions.{Verdict, unmet, accepted, accepting, after_reading}
use Rattle.programs.specs.Output.{formula_lines, procedure_text}
use Rattle.programs.specs.Room.{file_room}
use Rattle.demands.specs.NothingCut.{read_of, NothingCut}
use Rattle.demands.proofs.Whole.{formula_parts}

-- what was read of a file is all of it, or both are too long
read_whole : (file : List ℕ) → length file ≤ 65536 → read_of file ≡ file
read_whole file h = take_all file_room file (omega arith)

read_length : (file : List ℕ) → 65536 < length file → 65536 < length (read_of file)
read_length file h = omega (arith, length-take-le file_room file (omega arith))

too_long : (file : List ℕ) → 65536 < length file → accepting file ≡ unmet 2
too_long file h = ap after_reading (promises.too_long file h)

answer_too_long : (answer : List ℕ) → 65536 < length answer → met12 answer ≡ false
answer_too_long answer h = rw (leb_no (length answer) 65536 h)

formula_read : (file : List ℕ) → formula_lines (read_of file) ≡ formula_lines file
formula_read file = go (le_or_lt (length file) 65536)
  where
    go : (length file ≤ 65536) ⊎ (65536 < length file) → formula_lines (read_of file) ≡ formula_lines file
    go (inl h) = ap formula_lines (read_whole file h)
    go (inr h) = rw (too_long (read_of file) (read_length file h), too_long file h)

-- an answer that is too long, whatever it holds
long_answer : (file answer other : List ℕ) → met12 answer ≡ false → met12 other ≡ false → procedure_text file answer ≡ procedure_text file other
long_answer file answer other p q = go (accepting file) refl
  where
    go : (v : Verdict) → accepting file ≡ v → procedure_text file answer ≡ procedure_text file other
    go (unmet n) e = rw e
    go (accepted T) e = rw (e, p, q)

procedure_read : (file answer : List ℕ) → procedure_text (read_of file) (read_of answer) ≡ procedure_text file answer
procedure_read file answer = go (le_or_lt (length file) 65536) (le_or_lt (length answer) 65536)
  where
    go : (length file ≤ 65536) ⊎ (65536 < length file) → (length answer ≤ 65536) ⊎ (65536 < length answer)
        → procedure_text (read_of file) (read_of answer) ≡ procedure_text file answer
    go (inr h) l = rw (too_long (read_of file) (read_length file h), too_long file h)
    go (inl h) (inl l) = ap₂ procedure_text (read_whole file h) (read_whole answer l)
    go (inl h) (inr l) =
        ap (λ (f : List ℕ). procedure_text f (read_of answer)) (read_whole file h)
        ∙ long_answer file (read_of answer) answer (answer_too_long (read_of answer) (read_length answer l)) (answer_too_long answer l)

pub nothing_cut : NothingCut
nothing_cut = record { formula_read = formula_read; procedure_read = procedure_read; formula_parts = formula_parts }
