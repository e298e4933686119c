-- Every line that `formula` writes has at most 1,024 bytes.
-- A refusal's by its number, which has one digit; the others by the laws of the text.
use mathlib.Core.Path.{◌≡◌, refl, sym, subst}
use mathlib.Core.List.{List, [], ◌∷◌, ◌++◌}
use Prim.Native.Nat.{ℕ, suc, ◌+◌, ◌≤◌}
use native.Mathlib.Omega.{arith}
use lib.ListN.{length, length-append}
use Rattle.lists.specs.List.{Every}
use Rattle.lists.specs.Text.{bytes}
use Rattle.lists.proofs.Every.{every_of}
use Rattle.unmet.specs.declared.Unmet.{Unmet}
use Rattle.unmet.specs.Number.{number_of}
use Rattle.planning.specs.Table.{Table}
use Rattle.planning.specs.Text.{decimal, lines}
use Rattle.planning.proofs.Text.Numeral.{decimal_length}
use Rattle.planning.proofs.Text.Length.{lines_of}
use Rattle.questions.specs.Questions.{Verdict, unmet, accepted, accepting}
use Rattle.questions.proofs.Acceptance.{accepted_table, unmet_range}
use Rattle.programs.specs.Output.{refused_line, formula_lines}

pub refused_length : (n j : ℕ) → length (decimal n) ≤ suc j → length (refused_line n) ≤ 10 + j
refused_length n j h = omega (arith, length-append (bytes "refused\t") (decimal n ++ (10 ∷ [])), length-append (decimal n) (10 ∷ []))

-- a question's number has two digits at most
few : (q : Unmet) → number_of q ≤ 15
few q = grind arith

pub number_length : (q : Unmet) → length (decimal (number_of q)) ≤ 20
number_length q = decimal_length (number_of q) 19 (omega (arith, few q))

-- what `formula` writes, by the verdict on the file
pub lines_refused : (file : List ℕ) {n : ℕ} → accepting file ≡ unmet n → formula_lines file ≡ refused_line n ∷ []
lines_refused file e = rw e

pub lines_accepted : (file : List ℕ) {T : Table} → accepting file ≡ accepted T → formula_lines file ≡ lines T
lines_accepted file e = rw e

pub lines_short : (file : List ℕ) → Every (λ (l : List ℕ). length l ≤ 1024) (formula_lines file)
lines_short file = go (accepting file) refl
  where
    go : (v : Verdict) → accepting file ≡ v → Every (λ (l : List ℕ). length l ≤ 1024) (formula_lines file)
    go (unmet n) e =
        let k = decimal_length n 0 (omega (arith, (unmet_range file n e).1)) in
        subst (Every (λ (l : List ℕ). length l ≤ 1024)) (sym (lines_refused file e)) (omega (arith, refused_length n 0 k), tt)
    go (accepted T) e =
        subst (Every (λ (l : List ℕ). length l ≤ 1024)) (sym (lines_accepted file e))
        (every_of (λ (l : List ℕ). length l ≤ 1024) (lines T) (λ l m. (lines_of T (accepted_table file T e)).short l m))
