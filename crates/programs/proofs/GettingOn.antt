-- A part of what `formula` writes has a line at least, where one is left.
-- No line is longer than the least buffer.
use mathlib.Core.Path.{◌≡◌, ap, ◌∙◌}
use mathlib.Core.List.{List, []}
use Prim.Native.Nat.{ℕ, ◌≤◌, ◌<◌}
use native.Mathlib.Nat.{add-zero}
use native.Mathlib.Omega.{arith}
use lib.ListN.{length, get_or, drop, length-drop}
use lib.Seq.{get_or-drop}
use Rattle.lists.specs.List.{Every}
use Rattle.lists.proofs.Every.{every_out}
use Rattle.lists.proofs.Member.{in_get_d}
use Rattle.planning.specs.Text.{fitting}
use Rattle.planning.proofs.Text.Call.{fitting_most}
use Rattle.planning.proofs.Text.Length.{some_fits}

module _ (n : ℕ) (ls : List (List ℕ)) (short : Every (λ (l : List ℕ). length l ≤ n) ls) where
  abbrev part : ℕ → List (List ℕ)
  part j = fitting n (drop j ls)

  -- where a line is left, a part has one
  pub gets_on : (j : ℕ) → j < length ls → 1 ≤ length (part j)
  gets_on j h =
      let z : get_or (drop j ls) 0 [] ≡ get_or ls j [] = get_or-drop j ls 0 [] ∙ ap (λ (i : ℕ). get_or ls i []) (add-zero j) in
      let k : length (get_or (drop j ls) 0 []) ≤ n = rw z (every_out (λ (l : List ℕ). length l ≤ n) ls short (get_or ls j []) (in_get_d j ls [] h)) in
      some_fits n (drop j ls) (length (part j)) (omega (arith, length-drop j ls)) k (fitting_most n (drop j ls))
