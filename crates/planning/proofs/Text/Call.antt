-- What a text call writes: whole lines from the one asked for on, as many as fit, and the next does not.
-- By recursion on the lines.
use mathlib.Core.Path.{◌≡◌, refl, ap, ◌∙◌, sym}
use mathlib.Core.List.{List, [], ◌∷◌, ◌++◌}
use Prim.Native.Nat.{ℕ, suc, ◌+◌, ◌-◌, ◌≤◌, ◌<◌}
use native.Mathlib.Omega.{arith}
use lib.ListN.{length, take, drop, length-map, length-append, take-append-drop}
use lib.Seq.{drop-drop}
use Rattle.lists.specs.List.{concat}
use Rattle.lists.proofs.Bool.{leb_cases}
use Rattle.lists.proofs.Every.{concat_append}
use Rattle.planning.specs.Table.{Table}
use Rattle.planning.specs.Clause.{formula}
use Rattle.planning.specs.Text.{clause_line, lines, fitting, lines_from, written}
use Rattle.planning.specs.Promises.{AsManyAsFit, Call}

-- "line 0 is the header, line j the jth clause": clauses count from 0 here
pub lines_count : (T : Table) → length (lines T) ≡ 1 + length (formula T)
lines_count T = omega (arith, length-map (formula T) clause_line)

-- whole lines from the first on
pub fitting_first : (n : ℕ) (ls : List (List ℕ)) → fitting n ls ≡ take (length (fitting n ls)) ls
fitting_first n [] = refl
fitting_first n (l ∷ ls) = leb_cases (fitting n (l ∷ ls) ≡ take (length (fitting n (l ∷ ls))) (l ∷ ls)) (length l) n
    (λ h e. rw e (ap (λ (r : List (List ℕ)). l ∷ r) (fitting_first (n - length l) ls)))
    (λ h e. rw e)

-- no line, where the first does not fit; the first line and those that fit behind it, where it does
none_fits : (n : ℕ) (l : List ℕ) (ls : List (List ℕ)) → n < length l → AsManyAsFit n (l ∷ ls) 0
none_fits n l ls h = record { there = omega arith; fit = omega arith; no_more = λ q. omega (arith, length-append l []) }

one_fits : (n : ℕ) (l : List ℕ) (ls : List (List ℕ)) (k : ℕ) → length l ≤ n → AsManyAsFit (n - length l) ls k → AsManyAsFit n (l ∷ ls) (suc k)
one_fits n l ls k h a = record {
  there = omega (arith, a.there);
  fit = omega (arith, length-append l (concat (take k ls)), a.fit);
  no_more = λ q. omega (arith, length-append l (concat (take (suc k) ls)), a.no_more (omega arith));
}

pub fitting_most : (n : ℕ) (ls : List (List ℕ)) → AsManyAsFit n ls (length (fitting n ls))
fitting_most n [] = record { there = omega arith; fit = omega arith; no_more = λ q. absurd (omega arith) }
fitting_most n (l ∷ ls) = leb_cases (AsManyAsFit n (l ∷ ls) (length (fitting n (l ∷ ls)))) (length l) n
    (λ h e. rw e (one_fits n l ls (length (fitting (n - length l) ls)) h (fitting_most (n - length l) ls)))
    (λ h e. rw e (none_fits n l ls h))

-- those that fit, and behind them the rest
pub fitting_rest : (n : ℕ) (ls : List (List ℕ)) → concat ls ≡ concat (fitting n ls) ++ concat (drop (length (fitting n ls)) ls)
fitting_rest n ls =
    let k = length (fitting n ls) in
    ap concat (sym (take-append-drop k ls))
    ∙ (concat_append (take k ls) (drop k ls) ∙ ap (λ (xs : List (List ℕ)). concat xs ++ concat (drop k ls)) (sym (fitting_first n ls)))

pub call : (T : Table) (j n : ℕ) → Call T j n
call T j n = record {
  count = length (lines_from T j n);
  fitting = fitting_most n (drop j (lines T));
  writes = ap concat (fitting_first n (drop j (lines T)));
  next = refl;
  goes_on = fitting_rest n (drop j (lines T)) ∙ ap (λ (ls : List (List ℕ)). written T j n ++ concat ls) (drop-drop (length (lines_from T j n)) j (lines T));
}
