-- A cell for each variable tells whether each stood once and no other, and then has its value.
-- By recursion on the numbers, from cells that may be filled already.
use mathlib.Core.Path.{◌≡◌, refl, sym, ap, ap₂, ◌∙◌, subst}
use mathlib.Core.Bool.{Bool, true, false, not, ◌||◌}
use mathlib.Core.List.{List, [], ◌∷◌, map}
use mathlib.Core.Logic.{◌⊎◌, inl, inr}
use Prim.Native.Nat.{ℕ, zero, suc, ◌-◌, ◌≤◌, ◌<◌}
use native.Mathlib.Omega.{arith}
use native.Mathlib.Decide.{dec_lt}
use lib.ListN.{length, get_or, replicate, length-map, length-replicate, get_or-replicate, get_or-map, get_or-eq_default}
use lib.Seq.{ext_get_or}
use lib.Dec.{eqb, leb, ltb}
use Rattle.lists.specs.List.{any, all}
use Rattle.lists.proofs.Bool.{bool_cases, clash, and_l, and_r, and_in, or_r, eqb_sound, leb_sound, leb_in, not-true}
use Rattle.lists.proofs.Place.{all_at, get_d_map_from}
use Rattle.planning.specs.Clause.{Lit, variable_of}
use Rattle.solver.specs.Questions.{makes_true, times, once_each, truths}
use Rattle.planning.specs.Model.{bit, bits}
use Rattle.solver.specs.Scan.{Reading, begin, sign, free, set_if, put, placed}
use Rattle.solver.proofs.Once.{truths_length, times_own, once_out, once_in}
use Rattle.solver.proofs.Filling.{Cell, Good, Out, same_length, good_before, none_left, good_after, out_before}

-- Full cells -----------------------------------------------------------------------------------------------------------------
abbrev full : List ℕ → Bool
full cs = all (λ c. ltb c 2) cs

full_at : (cs : List ℕ) → full cs ≡ true → (k : ℕ) → k < length cs → get_or cs k 0 < 2
full_at cs h k l = leb_sound (suc (get_or cs k 0)) 2 (all_at (λ c. ltb c 2) cs k 0 h l)

full_of : (cs : List ℕ) → ((k : ℕ) → k < length cs → get_or cs k 0 < 2) → full cs ≡ true
full_of [] h = refl
full_of (c ∷ cs) h = and_in (ltb c 2) (full cs) (leb_in (suc c) 2 (h 0 (omega arith))) (full_of cs (λ k l. h (suc k) (omega arith)))

bit_of : (c : ℕ) → c < 2 → bit (eqb 1 c) ≡ c
bit_of zero h = refl
bit_of (suc zero) h = refl
bit_of (suc (suc c)) h = absurd (omega arith)

full_bits : (cs : List ℕ) → full cs ≡ true → bits (map (eqb 1) cs) ≡ cs
full_bits [] h = refl
full_bits (c ∷ cs) h =
    ap₂ (λ (x : ℕ) (xs : List ℕ). x ∷ xs) (bit_of c (leb_sound (suc c) 2 (and_l (ltb c 2) (full cs) h))) (full_bits cs (and_r (ltb c 2) (full cs) h))

-- All numbers put -----------------------------------------------------------------------------------------------------------
abbrev pub put_all : Reading → List Lit → Reading
put_all r [] = r
put_all r (l ∷ ls) = put_all (put r l) ls

free_out : (cs : List ℕ) (l : Lit) → free cs l ≡ true → (1 ≤ variable_of l) × (variable_of l ≤ length cs) × (get_or cs (variable_of l - 1) 0 ≡ 2)
free_out cs l h =
    let p = leb_sound 1 (variable_of l) (and_l (leb 1 (variable_of l)) (eqb (get_or cs (variable_of l - 1) 0) 2) h) in
    let e = eqb_sound (get_or cs (variable_of l - 1) 0) 2 (and_r (leb 1 (variable_of l)) (eqb (get_or cs (variable_of l - 1) 0) 2) h) in
    (p, range (dec_lt (variable_of l - 1) (length cs)) e, e)
  where
    range : Dec (variable_of l - 1 < length cs) → get_or cs (variable_of l - 1) 0 ≡ 2 → variable_of l ≤ length cs
    range (yes k) e = omega arith
    range (no u) e = absurd (omega (arith, get_or-eq_default cs 0 {n = variable_of l - 1} (omega arith)))

free_in : (cs : List ℕ) (l : Lit) → 1 ≤ variable_of l → get_or cs (variable_of l - 1) 0 ≡ 2 → free cs l ≡ true
free_in cs l p e = and_in (leb 1 (variable_of l)) (eqb (get_or cs (variable_of l - 1) 0) 2) (leb_in 1 (variable_of l) p) (rw e)

record Result (r : Reading) (ls : List Lit) : Type 0 where
  on : r.off ≡ false
  good : Good r.cells ls
  out : (k : ℕ) → k < length r.cells → Out r.cells ls k (eqb 1 (get_or (put_all r ls).cells k 0))
  long : length (put_all r ls).cells ≡ length r.cells

-- a number put, where it is told whether there is an empty cell for it
abbrev put_if : Bool → Reading → Lit → Reading
put_if c r l = record { ended = r.ended; off = r.off || not c; cells = set_if c r.cells (variable_of l - 1) (bit (sign l)) }

left_false : (a b : Bool) → (a || b) ≡ false → a ≡ false
left_false true b q = q
left_false false b q = refl

good_out : (ls : List Lit) (r : Reading) → placed (put_all r ls) ≡ true → Result r ls
good_out [] r h =
    let f = full_at r.cells (and_r (not r.off) (full r.cells) h) in record {
      on = not-true r.off (and_l (not r.off) (full r.cells) h);
      good = record { cell = λ k l. inr (f k l, refl); inside = tt };
      out = λ k l. record { empty = λ e. absurd (omega (arith, f k l)); filled = λ g. refl };
      long = refl;
    }
good_out (l ∷ ls) r h = go (free r.cells l) refl (good_out ls (put r l) h)
  where
    go : (c : Bool) → free r.cells l ≡ c → Result (put_if c r l) ls → Result r (l ∷ ls)
    go false f g = clash (or_r r.off true refl) g.on
    go true f g =
        let x = free_out r.cells l f in
        let b = good_before r.cells l ls x.0 x.1 x.2 g.good in
        let z = none_left r.cells l ls x.0 x.1 x.2 b in
        let n = same_length r.cells l ls x.0 x.1 x.2 in
        record {
          on = left_false r.off false g.on;
          good = b;
          out = λ k h. subst (λ (c : Bool). Out r.cells (l ∷ ls) k (eqb 1 (get_or (put_all (put_if c r l) ls).cells k 0))) (sym f)
              (out_before r.cells l ls x.0 x.1 x.2 k (eqb 1 (get_or (put_all (put_if true r l) ls).cells k 0)) z (g.out k (omega (arith, n))));
          long = subst (λ (c : Bool). length (put_all (put_if c r l) ls).cells ≡ length r.cells) (sym f) (g.long ∙ n);
        }

good_in : (ls : List Lit) (r : Reading) → r.off ≡ false → Good r.cells ls → placed (put_all r ls) ≡ true
good_in [] r o g = and_in (not r.off) (full r.cells) (ap not o) (full_of r.cells (λ k h. pick k (g.cell k h)))
  where
    pick : (k : ℕ) → Cell (get_or r.cells k 0) 0 → get_or r.cells k 0 < 2
    pick k (inl x) = absurd (omega (arith, x.1))
    pick k (inr x) = x.0
good_in (l ∷ ls) r o g =
    let p = g.inside.0.0 in
    let q = g.inside.0.1 in
    let e = pick (g.cell (variable_of l - 1) (omega arith)) p in
    let f = free_in r.cells l p e in
    good_in ls (put r l) (rw (f, o)) (rw f (good_after r.cells l ls p q e g))
  where
    pick : Cell (get_or r.cells (variable_of l - 1) 0) (times (suc (variable_of l - 1)) (l ∷ ls)) → 1 ≤ variable_of l → get_or r.cells (variable_of l - 1) 0 ≡ 2
    pick (inl x) p = x.0
    pick (inr x) p =
        let w : suc (variable_of l - 1) ≡ variable_of l = omega arith in
        absurd (omega (arith, subst (λ (j : ℕ). times j (l ∷ ls) ≡ 0) w x.1, times_own l ls))

-- From empty cells ---------------------------------------------------------------------------------------------------------
module _ (n : ℕ) (ls : List Lit) where
  all_empty : length {A = ℕ} (replicate n 2) ≡ n
  all_empty = length-replicate n 2

  good_of : once_each n ls ≡ true → Good (replicate n 2) ls
  good_of h = record {
    cell = λ k l. inl (get_or-replicate {A = ℕ} n k 2 0 (omega (arith, all_empty)), (once_out n ls h).0 (suc k) (omega arith) (omega (arith, all_empty)));
    inside = rw all_empty (once_out n ls h).1;
  }

  of_good : Good (replicate n 2) ls → once_each n ls ≡ true
  of_good g = once_in n ls (λ k p q. at k p q (g.cell (k - 1) (omega (arith, all_empty)))) (rw all_empty at g.inside)
    where
      at : (k : ℕ) → 1 ≤ k → k ≤ n → Cell (get_or (replicate n 2) (k - 1) 0) (times (suc (k - 1)) ls) → times k ls ≡ 1
      at k p q (inl x) = let w : suc (k - 1) ≡ k = omega arith in subst (λ (j : ℕ). times j ls ≡ 1) w x.1
      at k p q (inr x) = absurd (omega (arith, x.0, get_or-replicate {A = ℕ} n (k - 1) 2 0 (omega arith)))

  -- the cells are full and no number was off exactly if each variable stands once, and no other
  pub placed_once : placed (put_all (begin n) ls) ≡ once_each n ls
  placed_once = go (bool_cases (placed (put_all (begin n) ls))) (bool_cases (once_each n ls))
    where
      go : (placed (put_all (begin n) ls) ≡ true) ⊎ (placed (put_all (begin n) ls) ≡ false) → (once_each n ls ≡ true) ⊎ (once_each n ls ≡ false)
          → placed (put_all (begin n) ls) ≡ once_each n ls
      go (inl p) (inl q) = p ∙ sym q
      go (inr p) (inr q) = p ∙ sym q
      go (inl p) (inr q) = clash (of_good (good_out ls (begin n) p).good) q
      go (inr p) (inl q) = clash (good_in ls (begin n) refl (good_of q)) p

  -- and then they hold the values
  cells_true : placed (put_all (begin n) ls) ≡ true → map (eqb 1) (put_all (begin n) ls).cells ≡ truths n ls
  cells_true h =
      let r = good_out ls (begin n) h in
      let cs = (put_all (begin n) ls).cells in
      ext_get_or false (map (eqb 1) cs) (truths n ls)
      (length-map cs (eqb 1) ∙ (r.long ∙ (all_empty ∙ sym (truths_length n ls))))
      (λ k l.
      let m : k < n = omega (arith, length-map cs (eqb 1), r.long, all_empty) in
      get_or-map (eqb 1) cs k 0
      ∙ ((r.out k (omega (arith, all_empty))).empty (get_or-replicate {A = ℕ} n k 2 0 m)
      ∙ sym (get_d_map_from (λ k. any (makes_true k) ls) 1 n k false m ∙ ap (λ (j : ℕ). any (makes_true j) ls) (omega arith))))

  pub placed_values : placed (put_all (begin n) ls) ≡ true → (put_all (begin n) ls).cells ≡ bits (truths n ls)
  placed_values h =
      let r = put_all (begin n) ls in
      sym (full_bits r.cells (and_r (not r.off) (full r.cells) h)) ∙ ap bits (cells_true h)
