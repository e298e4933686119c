-- The fact variables as a grid, boundary by boundary; and the steps true at the slots depend on the nodes' variables alone.
-- By recursion on the grid's height, and on the slots.
use mathlib.Core.Path.{◌≡◌, refl, sym, ap, ◌∙◌}
use mathlib.Core.Bool.{Bool, true, false}
use mathlib.Core.List.{List, [], ◌∷◌, map}
use mathlib.Core.Logic.{inl, inr}
use Prim.Native.Nat.{ℕ, zero, suc, ◌+◌, ◌*◌, ◌/◌, ◌%◌, ◌≤◌, ◌<◌}
use native.Mathlib.Nat.{add-zero, zero-add, add-suc, suc-add, div-add-mod', mod-lt, div-lt_iff_lt-mul, suc-mul, mul-zero, zero-mul}
use native.Mathlib.Omega.{arith}
use lib.ListN.{length, get_or, take, length-map, length-append, get_or-append}
use lib.Seq.{get_or-append-add}
use Rattle.lists.specs.List.{cons_if, filter, ◌∈◌, concat_map, from, up_to}
use Rattle.lists.proofs.Bool.{clash}
use Rattle.lists.proofs.Member.{in_take}
use Rattle.lists.proofs.Every.{concat_map_same}
use Rattle.lists.proofs.Number.{length_from}
use Rattle.planning.specs.Table.{Table}
use Rattle.planning.specs.Place.{root_place}
use Rattle.planning.specs.Variable.{node_vars, slots}
use Rattle.planning.specs.Model.{Valuation}
use Rattle.planning.proofs.Range.{slot_range}
use Rattle.planning.proofs.Satisfy.{true_ones, slot_steps}

-- n rows of F values, row i of g i, from i = k on
abbrev pub grid : (ℕ → ℕ → Bool) → (F k n : ℕ) → List Bool
grid g F k n = concat_map (λ i. map (g i) (up_to F)) (from k n)

pub grid_length : (g : ℕ → ℕ → Bool) (F k n : ℕ) → length (grid g F k n) ≡ n * F
grid_length g F k zero = sym (zero-mul F)
grid_length g F k (suc n) =
    length-append (map (g k) (up_to F)) (grid g F (suc k) n)
    ∙ omega (arith, length-map (up_to F) (g k), length_from 0 F, grid_length g F (suc k) n, suc-mul n F)

map_from_get : (h : ℕ → Bool) (F k f : ℕ) → f < F → get_or (map h (from k F)) f false ≡ h (k + f)
map_from_get h zero k f l = absurd (omega arith)
map_from_get h (suc F) k zero l = ap h (sym (add-zero k))
map_from_get h (suc F) k (suc f) l = map_from_get h F (suc k) f (omega arith) ∙ ap h (suc-add k f ∙ sym (add-suc k f))

pub grid_get : (g : ℕ → ℕ → Bool) (F k n i f : ℕ) → i < n → f < F → get_or (grid g F k n) (i * F + f) false ≡ g (k + i) f
grid_get g F k zero i f h l = absurd (omega arith)
grid_get g F k (suc n) zero f h l =
    let z : 0 * F + f ≡ f = omega (arith, zero-mul F) in
    let w : length (map (g k) (up_to F)) ≡ F = length-map (up_to F) (g k) ∙ length_from 0 F in
    rw (z, add-zero k) (get_or-append (map (g k) (up_to F)) (grid g F (suc k) n) false f (omega arith) ∙ (map_from_get (g k) F 0 f l ∙ ap (g k) (zero-add f)))
grid_get g F k (suc n) (suc i) f h l =
    let w : length (map (g k) (up_to F)) ≡ F = length-map (up_to F) (g k) ∙ length_from 0 F in
    let z : suc i * F + f ≡ length (map (g k) (up_to F)) + (i * F + f) = omega (arith, suc-mul i F) in
    let q : k + suc i ≡ suc k + i = omega arith in
    rw (z, q) (get_or-append-add (map (g k) (up_to F)) (grid g F (suc k) n) (i * F + f) false ∙ grid_get g F (suc k) n i f (omega arith) l)

-- every place of the grid is in some row
pub grid_at : (n F k : ℕ) → k < n * F → (i : ℕ) × (f : ℕ) × (i < n) × (f < F) × (k ≡ i * F + f)
grid_at n zero k h = absurd (omega (arith, mul-zero n))
grid_at n (suc F) k h = (k / suc F, k % suc F, (div-lt_iff_lt-mul {k = suc F} {x = k} {y = n} (omega arith)).1 h, mod-lt k (omega arith), sym (div-add-mod' k (suc F)))

-- so the steps true at the slots depend on the nodes' variables alone
module _ (v w : Valuation) where
  ones_agree : (xs : List (ℕ × ℕ)) → ((x : ℕ × ℕ) → x ∈ xs → v x.0 ≡ w x.0) → true_ones v xs ≡ true_ones w xs
  ones_agree [] h = refl
  ones_agree (x ∷ xs) h = go (v x.0) (w x.0) (h x (inl refl)) (ones_agree xs (λ y m. h y (inr m)))
    where
      go : (a c : Bool) → a ≡ c → true_ones v xs ≡ true_ones w xs
          → map (λ (y : ℕ × ℕ). y.1) (cons_if a x (filter (λ y. v y.0) xs)) ≡ map (λ (y : ℕ × ℕ). y.1) (cons_if c x (filter (λ y. w y.0) xs))
      go true true e r = ap (λ (l : List ℕ). x.1 ∷ l) r
      go false false e r = r
      go true false e r = clash refl e
      go false true e r = clash e refl

  pub slot_steps_agree : (xss : List (List (ℕ × ℕ))) → ((xs : List (ℕ × ℕ)) → xs ∈ xss → (x : ℕ × ℕ) → x ∈ xs → v x.0 ≡ w x.0)
      → slot_steps v xss ≡ slot_steps w xss
  slot_steps_agree xss h = concat_map_same (true_ones v) (true_ones w) xss (λ xs m. ones_agree xs (h xs m))

pub taken_steps_agree : (T : Table) (v w : Valuation) → ((n : ℕ) → 1 ≤ n → n < 1 + node_vars T → v n ≡ w n)
    → (i : ℕ) → slot_steps v (take i (slots T)) ≡ slot_steps w (take i (slots T))
taken_steps_agree T v w h i = slot_steps_agree v w (take i (slots T))
    (λ xs m x k. let r = slot_range T (root_place T) 1 xs (in_take i (slots T) xs m) x k in h x.0 r.0 r.1)
