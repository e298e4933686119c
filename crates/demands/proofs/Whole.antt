-- The parts that `formula` writes, one behind the other, are its whole output.
-- By recursion on how many parts may still come: each has a line at least.
use mathlib.Core.Path.{◌≡◌, sym, ap, ◌∙◌}
use mathlib.Core.List.{List, [], ◌++◌}
use Prim.Native.Nat.{ℕ, zero, suc, ◌+◌, ◌≤◌}
use native.Mathlib.Omega.{arith}
use lib.ListN.{length, drop, drop_of_length-le}
use lib.Seq.{drop-drop}
use Rattle.lists.specs.List.{Every, concat}
use Rattle.lists.proofs.Bool.{leb_cases}
use Rattle.lists.proofs.Every.{every_imp}
use Rattle.planning.specs.Text.{fitting}
use Rattle.planning.proofs.Text.Call.{fitting_rest}
use Rattle.programs.specs.Output.{formula_lines, formula_text}
use Rattle.programs.proofs.Lines.{lines_short}
use Rattle.programs.proofs.GettingOn.{gets_on}
use Rattle.demands.specs.NothingCut.{parts_from}

module _ (n : ℕ) (ls : List (List ℕ)) (short : Every (λ (l : List ℕ). length l ≤ n) ls) where
  abbrev part : ℕ → List (List ℕ)
  part j = fitting n (drop j ls)

  -- what is left behind a part
  goes_on : (j : ℕ) → concat (drop j ls) ≡ concat (part j) ++ concat (drop (j + length (part j)) ls)
  goes_on j = fitting_rest n (drop j ls) ∙ ap (λ (xs : List (List ℕ)). concat (part j) ++ concat xs) (drop-drop (length (part j)) j ls)

  nothing_left : (j : ℕ) → length ls ≤ j → concat (drop j ls) ≡ []
  nothing_left j h = ap concat (drop_of_length-le ls h)

  all_parts : (k j : ℕ) → length ls ≤ j + k → parts_from n ls k j ≡ concat (drop j ls)
  all_parts zero j h = sym (nothing_left j (omega arith))
  all_parts (suc k) j h = leb_cases (parts_from n ls (suc k) j ≡ concat (drop j ls)) (length ls) (j + length (part j))
      (λ q e. rw e (ap (λ (xs : List ℕ). concat (part j) ++ xs) (sym (nothing_left (j + length (part j)) q)) ∙ sym (goes_on j)))
      (λ q e.
      let rest = all_parts k (j + length (part j)) (omega (arith, gets_on n ls short j (omega arith))) in
      rw e (ap (λ (xs : List ℕ). concat (part j) ++ xs) rest ∙ sym (goes_on j)))

pub formula_parts : (file : List ℕ) (n : ℕ) → 1024 ≤ n → parts_from n (formula_lines file) (length (formula_lines file)) 0 ≡ formula_text file
formula_parts file n h =
    all_parts n (formula_lines file) (every_imp (λ (l : List ℕ). length l ≤ 1024) (λ (l : List ℕ). length l ≤ n) (λ l k. omega arith) (formula_lines file) (lines_short file))
    (length (formula_lines file)) 0 (omega arith)
