-- Inside the programs, nothing to believe: a part of the output.
-- Assumes nothing.
use Rattle.std.specs.Prelude.{◌≡◌, cond, List, ◌++◌, ℕ, ◌+◌, leb, ltb, length, drop}
use Rattle.lists.specs.List.{concat}
use Rattle.planning.specs.Text.{fitting}
use Rattle.programs.specs.Room.{text_room}
use Rattle.programs.specs.declared.Part.{Part}

-- from line j of these lines on, as many whole lines as fit into the text were written into it; what comes behind them is line `next`
pub record PartOf (ls : List (List ℕ)) (j : ℕ) (text text' : List ℕ) (r : Part) : Type 0 where
  pub used : r.used ≡ length (concat (fitting (length text) (drop j ls)))
  pub left : text' ≡ concat (fitting (length text) (drop j ls)) ++ drop (length (concat (fitting (length text) (drop j ls)))) text
  pub next : r.next ≡ j + length (fitting (length text) (drop j ls))
  pub last : r.last ≡ leb (length ls) r.next

-- how long a part may be, where so much was asked for
abbrev pub room_of : ℕ → ℕ
room_of n = cond (ltb n 1024) 1024 (cond (ltb text_room n) text_room n)
