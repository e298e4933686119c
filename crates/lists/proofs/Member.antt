-- Members of lists: of joined, filtered and mapped lists, of lists in which none stands twice, and by tests.
-- By recursion on the list.
use mathlib.Core.Path.{◌≡◌, refl, sym, ap, ◌∙◌, subst}
use mathlib.Core.Bool.{Bool, true, false, ◌&&◌, ◌||◌}
use mathlib.Core.List.{List, [], ◌∷◌, ◌++◌, map}
use mathlib.Core.Logic.{◌⊎◌, inl, inr}
use Prim.Native.Nat.{ℕ, zero, suc, ◌≤◌, ◌<◌}
use native.Mathlib.Omega.{arith}
use lib.ListN.{length, get_or, take}
use lib.Dec.{eqb}
use Rattle.lists.specs.List.{cons_if, filter, any, all, ◌∈◌, Distinct, has}
use Rattle.lists.proofs.Bool.{clash, false_of, and_l, and_r, and_in, or_out, or_l, or_r, and_assoc, or_assoc, eqb_sound, eqb_same}

-- Joined lists ---------------------------------------------------------------------------------------------------------
module _ {A : Type 0} where
  pub in_left : (a : A) (xs ys : List A) → a ∈ xs → a ∈ (xs ++ ys)
  in_left a (x ∷ xs) ys (inl e) = inl e
  in_left a (x ∷ xs) ys (inr m) = inr (in_left a xs ys m)
  in_left a [] ys m = absurd m

  pub in_right : (a : A) (xs ys : List A) → a ∈ ys → a ∈ (xs ++ ys)
  in_right a [] ys m = m
  in_right a (x ∷ xs) ys m = inr (in_right a xs ys m)

  pub in_append : (a : A) (xs ys : List A) → a ∈ (xs ++ ys) → (a ∈ xs) ⊎ (a ∈ ys)
  in_append a [] ys m = inr m
  in_append a (x ∷ xs) ys (inl e) = inl (inl e)
  in_append a (x ∷ xs) ys (inr m) = go (in_append a xs ys m)
    where
      go : (a ∈ xs) ⊎ (a ∈ ys) → (a ∈ (x ∷ xs)) ⊎ (a ∈ ys)
      go (inl k) = inl (inr k)
      go (inr k) = inr k

  pub in_take : (i : ℕ) (xs : List A) (x : A) → x ∈ take i xs → x ∈ xs
  in_take zero xs x m = absurd m
  in_take (suc i) [] x m = absurd m
  in_take (suc i) (y ∷ ys) x (inl e) = inl e
  in_take (suc i) (y ∷ ys) x (inr m) = inr (in_take i ys x m)

  pub in_get_d : (i : ℕ) (xs : List A) (d : A) → i < length xs → get_or xs i d ∈ xs
  in_get_d i [] d h = absurd (omega arith)
  in_get_d zero (x ∷ xs) d h = inl refl
  in_get_d (suc i) (x ∷ xs) d h = inr (in_get_d i xs d (omega arith))

-- Filtered lists -------------------------------------------------------------------------------------------------------
module _ {A : Type 0} (p : A → Bool) where
  cons_if_out : (b : Bool) (a x : A) (xs : List A) → p x ≡ b → a ∈ cons_if b x xs → ((a ≡ x) × (p x ≡ true)) ⊎ (a ∈ xs)
  cons_if_out true a x xs e (inl q) = inl (q, e)
  cons_if_out true a x xs e (inr m) = inr m
  cons_if_out false a x xs e m = inr m

  pub in_filter_out : (a : A) (xs : List A) → a ∈ filter p xs → (a ∈ xs) × (p a ≡ true)
  in_filter_out a [] m = absurd m
  in_filter_out a (x ∷ xs) m = go (cons_if_out (p x) a x (filter p xs) refl m) (λ k. in_filter_out a xs k)
    where
      go : ((a ≡ x) × (p x ≡ true)) ⊎ (a ∈ filter p xs) → (a ∈ filter p xs → (a ∈ xs) × (p a ≡ true)) → (a ∈ (x ∷ xs)) × (p a ≡ true)
      go (inl q) f = (inl q.0, ap p q.0 ∙ q.1)
      go (inr k) f = (inr (f k).0, (f k).1)

  cons_if_head : (b : Bool) (a x : A) (xs : List A) → b ≡ true → a ≡ x → a ∈ cons_if b x xs
  cons_if_head true a x xs e q = inl q
  cons_if_head false a x xs e q = clash e refl

  cons_if_tail : (b : Bool) (a x : A) (xs : List A) → a ∈ xs → a ∈ cons_if b x xs
  cons_if_tail true a x xs m = inr m
  cons_if_tail false a x xs m = m

  pub in_filter_in : (a : A) (xs : List A) → a ∈ xs → p a ≡ true → a ∈ filter p xs
  in_filter_in a [] m h = absurd m
  in_filter_in a (x ∷ xs) (inl e) h = cons_if_head (p x) a x (filter p xs) (ap p (sym e) ∙ h) e
  in_filter_in a (x ∷ xs) (inr m) h = cons_if_tail (p x) a x (filter p xs) (in_filter_in a xs m h)

  pub length_filter : (xs : List A) → length (filter p xs) ≤ length xs
  length_filter [] = omega arith
  length_filter (x ∷ xs) = go (p x) (length_filter xs)
    where
      go : (b : Bool) → length (filter p xs) ≤ length xs → length (cons_if b x (filter p xs)) ≤ suc (length xs)
      go true h = omega arith
      go false h = omega arith

pub filter_same : {A : Type 0} (p q : A → Bool) (xs : List A) → ((x : A) → x ∈ xs → p x ≡ q x) → filter p xs ≡ filter q xs
filter_same p q [] h = refl
filter_same p q (x ∷ xs) h = cc (h x (inl refl), filter_same p q xs (λ y m. h y (inr m)))

-- Mapped lists ---------------------------------------------------------------------------------------------------------
module _ {A B : Type 0} (f : A → B) where
  pub in_map_out : (b : B) (xs : List A) → b ∈ map f xs → (a : A) × (a ∈ xs) × (b ≡ f a)
  in_map_out b [] m = absurd m
  in_map_out b (x ∷ xs) (inl e) = (x, inl refl, e)
  in_map_out b (x ∷ xs) (inr m) = let r = in_map_out b xs m in (r.0, inr r.1, r.2)

  pub in_map_in : (a : A) (xs : List A) → a ∈ xs → f a ∈ map f xs
  in_map_in a [] m = absurd m
  in_map_in a (x ∷ xs) (inl e) = inl (ap f e)
  in_map_in a (x ∷ xs) (inr m) = inr (in_map_in a xs m)

-- None stands twice ------------------------------------------------------------------------------------------------------
module _ {A : Type 0} where
  distinct_cons_if : (b : Bool) (x : A) (xs : List A) → (x ∈ xs → ⊥) → Distinct xs → Distinct (cons_if b x xs)
  distinct_cons_if true x xs u d = (u, d)
  distinct_cons_if false x xs u d = d

  pub distinct_filter : (p : A → Bool) (xs : List A) → Distinct xs → Distinct (filter p xs)
  distinct_filter p [] d = tt
  distinct_filter p (x ∷ xs) d = distinct_cons_if (p x) x (filter p xs) (λ m. d.0 (in_filter_out p x xs m).0) (distinct_filter p xs d.1)

  pub distinct_append : (xs ys : List A) → Distinct xs → Distinct ys → ((a : A) → a ∈ xs → a ∈ ys → ⊥) → Distinct (xs ++ ys)
  distinct_append [] ys d e u = e
  distinct_append (x ∷ xs) ys d e u = (λ m. go (in_append x xs ys m), distinct_append xs ys d.1 e (λ a m k. u a (inr m) k))
    where
      go : (x ∈ xs) ⊎ (x ∈ ys) → ⊥
      go (inl m) = d.0 m
      go (inr m) = u x (inl refl) m

pub distinct_map : {A B : Type 0} (f : A → B) → ((a b : A) → f a ≡ f b → a ≡ b) → (xs : List A) → Distinct xs → Distinct (map f xs)
distinct_map f inj [] d = tt
distinct_map {A} f inj (x ∷ xs) d =
    (λ m. let r = in_map_out f (f x) xs m in d.0 (subst (λ (a : A). a ∈ xs) (sym (inj x r.0 r.2)) r.1), distinct_map f inj xs d.1)

-- Tests ----------------------------------------------------------------------------------------------------------------
module _ {A : Type 0} (p : A → Bool) where
  pub any_out : (xs : List A) → any p xs ≡ true → (x : A) × (x ∈ xs) × (p x ≡ true)
  any_out [] h = clash h refl
  any_out (x ∷ xs) h = go (or_out (p x) (any p xs) h) (λ k. any_out xs k)
    where
      go : (p x ≡ true) ⊎ (any p xs ≡ true) → (any p xs ≡ true → (y : A) × (y ∈ xs) × (p y ≡ true)) → (y : A) × (y ∈ (x ∷ xs)) × (p y ≡ true)
      go (inl q) f = (x, inl refl, q)
      go (inr q) f = let r = f q in (r.0, inr r.1, r.2)

  pub any_in : (xs : List A) (x : A) → x ∈ xs → p x ≡ true → any p xs ≡ true
  any_in [] x m h = absurd m
  any_in (y ∷ ys) x (inl e) h = or_l (p y) (any p ys) (ap p (sym e) ∙ h)
  any_in (y ∷ ys) x (inr m) h = or_r (p y) (any p ys) (any_in ys x m h)

  pub all_out : (xs : List A) → all p xs ≡ true → (x : A) → x ∈ xs → p x ≡ true
  all_out [] h x m = absurd m
  all_out (y ∷ ys) h x (inl e) = ap p e ∙ and_l (p y) (all p ys) h
  all_out (y ∷ ys) h x (inr m) = all_out ys (and_r (p y) (all p ys) h) x m

  pub all_in : (xs : List A) → ((x : A) → x ∈ xs → p x ≡ true) → all p xs ≡ true
  all_in [] h = refl
  all_in (x ∷ xs) h = and_in (p x) (all p xs) (h x (inl refl)) (all_in xs (λ y m. h y (inr m)))

  pub any_append : (xs ys : List A) → any p (xs ++ ys) ≡ (any p xs || any p ys)
  any_append [] ys = refl
  any_append (x ∷ xs) ys = ap (λ (b : Bool). p x || b) (any_append xs ys) ∙ sym (or_assoc (p x) (any p xs) (any p ys))

  pub all_append : (xs ys : List A) → all p (xs ++ ys) ≡ (all p xs && all p ys)
  all_append [] ys = refl
  all_append (x ∷ xs) ys = ap (λ (b : Bool). p x && b) (all_append xs ys) ∙ sym (and_assoc (p x) (all p xs) (all p ys))

pub has_out : (xs : List ℕ) (n : ℕ) → has xs n ≡ true → n ∈ xs
has_out xs n h = let r = any_out (eqb n) xs h in go r.0 r.1 (eqb_sound n r.0 r.2)
  where
    go : (m : ℕ) → m ∈ xs → n ≡ m → n ∈ xs
    go m k e = rw e k

pub has_in : (xs : List ℕ) (n : ℕ) → n ∈ xs → has xs n ≡ true
has_in xs n m = any_in (eqb n) xs n m (eqb_same n)

pub has_not : (xs : List ℕ) (n : ℕ) → (n ∈ xs → ⊥) → has xs n ≡ false
has_not xs n u = false_of (has xs n) (λ h. u (has_out xs n h))
