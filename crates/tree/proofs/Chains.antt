-- The methods of some jobs as a chain over the table's methods gives them: kept by their job, counted, and their bodies' sizes.
-- By recursion on the methods.
use mathlib.Core.Path.{◌≡◌, refl, ap, ◌∙◌}
use mathlib.Core.Bool.{Bool, true, false, cond}
use mathlib.Core.List.{List, [], ◌∷◌, map}
use Prim.Native.Nat.{ℕ, zero, suc, ◌+◌, ◌≤◌, max}
use native.Mathlib.Numerals.{add-one}
use native.Mathlib.Omega.{arith}
use lib.ListN.{length}
use Rattle.std.specs.Prelude.{unwrap_or}
use Rattle.std.specs.List.{filter as kept, range_with_len, reduce, fold}
use Rattle.lists.specs.List.{cons_if, filter, from, up_to, has}
use Rattle.bitset.specs.Set.{contains}
use Rattle.planning.specs.Table.{Table, job_of, body_of}
use Rattle.planning.specs.Place.{methods_of, longest}
use Rattle.tree.specs.Visit.{members_in, Known}
use Rattle.tree.proofs.Methods.{word_has, count_most}

range_from : (a n : ℕ) → range_with_len a n ≡ from a n
range_from a zero = refl
range_from a (suc n) = ap (λ (l : List ℕ). a ∷ l) (range_from (a + 1) n ∙ ap (λ (k : ℕ). from k n) (add-one a))

kept_one : (p : ℕ → Bool) (b : Bool) (x : ℕ) (xs ys : List ℕ) → p x ≡ b → xs ≡ ys → cond (p x) (x ∷ xs) xs ≡ cons_if b x ys
kept_one p true x xs ys f e = rw f (ap (λ (l : List ℕ). x ∷ l) e)
kept_one p false x xs ys f e = rw f e

kept_filter : (p q : ℕ → Bool) → ((m : ℕ) → p m ≡ q m) → (xs : List ℕ) → kept p xs ≡ filter q xs
kept_filter p q e [] = refl
kept_filter p q e (x ∷ xs) = kept_one p (q x) x (kept p xs) (filter q xs) (e x) (kept_filter p q e xs)

-- is method m one of these jobs'?
abbrev pub one_of : Table → ℕ → ℕ → Bool
one_of T w m = contains (w ∷ []) (job_of T m)

pub kept_methods : (T : Table) (w : ℕ) {n : ℕ} → n ≡ length T.methods → kept (one_of T w) (range_with_len 0 n) ≡ methods_of T (members_in w)
kept_methods T w {n} e =
    ap (kept (one_of T w)) (range_from 0 n ∙ ap (from 0) e)
    ∙ kept_filter (one_of T w) (λ m. has (members_in w) (job_of T m)) (λ m. word_has w (job_of T m)) (up_to (length T.methods))

pub few_methods : (T : Table) → Known T → (w : ℕ) → length (methods_of T (members_in w)) ≤ 128
few_methods T known w = omega (arith, count_most T (members_in w) (length T.methods), known.limits.methods)

-- the longest body
most : (T : Table) (x : ℕ) (ms : List ℕ) → fold max x (map (λ m. length (body_of T m)) ms) ≡ max x (longest T ms)
most T x [] = omega arith
most T x (m ∷ ms) = omega (arith, most T (max x (length (body_of T m))) ms)

pub most_of : (T : Table) (ms : List ℕ) → unwrap_or (reduce max (map (λ m. length (body_of T m)) ms)) 0 ≡ longest T ms
most_of T [] = refl
most_of T (m ∷ ms) = most T (length (body_of T m)) ms
