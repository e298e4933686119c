-- Every line of an accepted table's text has at most 1,024 bytes, so that it fits into the smallest buffer that is taken.
-- The header by its two numerals, a clause's line literal by literal.
use mathlib.Core.Path.{◌≡◌, sym, subst}
use mathlib.Core.List.{List, [], ◌∷◌, ◌++◌}
use mathlib.Core.Logic.{inl, inr}
use Prim.Native.Nat.{ℕ, ◌*◌, ◌^◌, ◌≤◌, ◌<◌, suc, zero}
use native.Mathlib.Nat.{add-zero}
use native.Mathlib.Omega.{arith}
use lib.ListN.{length, length-append, get_or, drop, length-drop}
use lib.Seq.{get_or-drop}
use Rattle.lists.specs.List.{◌∈◌, Every, concat_map}
use Rattle.lists.proofs.Member.{in_map_out, in_get_d}
use Rattle.lists.proofs.Every.{every_out}
use Rattle.planning.specs.Table.{Table}
use Rattle.planning.specs.Variable.{variables}
use Rattle.planning.specs.Clause.{Lit, pos, neg, Clause, variable_of, formula}
use Rattle.planning.specs.Text.{decimal, lit_text, clause_line, header_line, lines, next_line}
use Rattle.planning.specs.Accepted.{Accepted}
use Rattle.planning.specs.Promises.{AsManyAsFit, Lines}
use Rattle.planning.proofs.Sizes.Sized.{root_sized}
use Rattle.planning.proofs.Sizes.Small.{LitIn, Small, Wide, formula_small}
use Rattle.planning.proofs.Sizes.Few.{formula_few}
use Rattle.planning.proofs.Text.Numeral.{decimal_length}
use Rattle.planning.proofs.Text.Call.{call}

lit_length : (l : Lit) → variable_of l < 10 ^ 4 → length (lit_text l) ≤ 5
lit_length (pos n) h = let k = decimal_length n 3 h in omega arith
lit_length (neg n) h = let k = decimal_length n 3 h in omega arith

lits_length : (N : ℕ) (c : Clause) → N < 10 ^ 4 → Every (LitIn N) c → length (concat_map (λ l. lit_text l ++ (32 ∷ [])) c) ≤ length c * 6
lits_length N [] h e = omega arith
lits_length N (l ∷ c) h e = omega (
  arith,
  length-append (lit_text l ++ (32 ∷ [])) (concat_map (λ l. lit_text l ++ (32 ∷ [])) c),
  length-append (lit_text l) (32 ∷ []),
  lit_length l (omega (arith, e.0)),
  lits_length N c h e.1,
)

header_length : (v c : ℕ) → v ≤ 8191 → c < 10 ^ 9 → length (header_line v c) ≤ 21
header_length v c h k = omega (
  arith,
  length-append (decimal v) (32 ∷ (decimal c ++ (10 ∷ []))),
  length-append (decimal c) (10 ∷ []),
  decimal_length v 3 (omega arith),
  decimal_length c 8 k,
)

-- where the first line fits, at least one is written
pub some_fits : (n : ℕ) (ls : List (List ℕ)) (k : ℕ) → 1 ≤ length ls → length (get_or ls 0 []) ≤ n → AsManyAsFit n ls k → 1 ≤ k
some_fits n [] k p q a = absurd (omega arith)
some_fits n (l ∷ ls) zero p q a = absurd (omega (arith, a.no_more (omega arith), length-append l []))
some_fits n (l ∷ ls) (suc k) p q a = omega arith

module _ (T : Table) (accepted : Accepted T) where
  -- a clause has at most 129 literals
  wide : Wide T 129
  wide = record {
    slots = omega (arith, accepted.limits.steps);
    tasks = omega (arith, accepted.limits.steps, accepted.limits.jobs);
    methods = omega (arith, accepted.limits.methods);
  }

  clause_length : (c : Clause) → c ∈ formula T → length (clause_line c) ≤ 1024
  clause_length c m =
      let fit = root_sized T 8 (omega arith) accepted.limits.bodies (omega (arith, accepted.sound.root)) in
      let s = every_out (Small (variables T) 129) (formula T) (formula_small T 129 8 wide fit) c m in
      omega (
        arith,
        length-append (concat_map (λ l. lit_text l ++ (32 ∷ [])) c) (48 ∷ 10 ∷ []),
        lits_length (variables T) c (omega (arith, accepted.few_variables)) s.inside,
        s.short,
      )

  line_length : (l : List ℕ) → l ∈ lines T → length l ≤ 1024
  line_length l (inl e) = rw e (omega (arith, header_length (variables T) (length (formula T)) accepted.few_variables (formula_few T accepted)))
  line_length l (inr m) =
      let k = in_map_out clause_line l (formula T) m in
      subst (λ (z : List ℕ). length z ≤ 1024) (sym k.2) (clause_length k.0 k.1)

  -- the first line of a call fits, so a call gets on
  gets_on : (j n : ℕ) → 1024 ≤ n → j < length (lines T) → j < next_line T j n
  gets_on j n h l =
      let e : get_or (drop j (lines T)) 0 [] ≡ get_or (lines T) j [] = rw (get_or-drop, add-zero) in
      let first : get_or (drop j (lines T)) 0 [] ∈ lines T = subst (λ (z : List ℕ). z ∈ lines T) (sym e) (in_get_d j (lines T) [] l) in
      let c = call T j n in
      let k = some_fits n (drop j (lines T)) c.count (omega (arith, length-drop j (lines T))) (omega (arith, line_length (get_or (drop j (lines T)) 0 []) first)) c.fitting in
      omega (arith, c.next)

  pub lines_of : Lines T
  lines_of = record { short = line_length; gets_on = gets_on }
