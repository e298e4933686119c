-- A property of every member, and what each member gives, one after the other.
-- By recursion on the list.
use mathlib.Core.Path.{◌≡◌, refl, sym, ap, ◌∙◌, subst}
use mathlib.Core.List.{List, [], ◌∷◌, ◌++◌, map, append_assoc}
use mathlib.Core.Logic.{inl, inr}
use Prim.Native.Nat.{ℕ, zero, suc, ◌*◌, ◌≤◌}
use native.Mathlib.Nat.{suc-mul}
use native.Mathlib.Omega.{arith}
use lib.ListN.{length, get_or, length-append}
use Rattle.lists.specs.List.{◌∈◌, Every, concat, concat_map}

module _ {A : Type 0} (P : A → Type 0) where
  pub every_of : (xs : List A) → ((x : A) → x ∈ xs → P x) → Every P xs
  every_of [] h = tt
  every_of (x ∷ xs) h = (h x (inl refl), every_of xs (λ y m. h y (inr m)))

  pub every_out : (xs : List A) → Every P xs → (x : A) → x ∈ xs → P x
  every_out [] p x m = absurd m
  every_out (y ∷ ys) p x (inl e) = subst P (sym e) p.0
  every_out (y ∷ ys) p x (inr m) = every_out ys p.1 x m

  pub every_imp : (Q : A → Type 0) → ((x : A) → P x → Q x) → (xs : List A) → Every P xs → Every Q xs
  every_imp Q f [] p = tt
  every_imp Q f (x ∷ xs) p = (f x p.0, every_imp Q f xs p.1)

  pub every_get_d : (xs : List A) (d : A) → Every P xs → P d → (i : ℕ) → P (get_or xs i d)
  every_get_d [] d h k i = k
  every_get_d (x ∷ xs) d h k zero = h.0
  every_get_d (x ∷ xs) d h k (suc i) = every_get_d xs d h.1 k i

  pub every_append : (xs ys : List A) → Every P xs → Every P ys → Every P (xs ++ ys)
  every_append [] ys p q = q
  every_append (x ∷ xs) ys p q = (p.0, every_append xs ys p.1 q)

module _ {A B : Type 0} (P : B → Type 0) where
  pub every_map : (f : A → B) (xs : List A) → ((x : A) → x ∈ xs → P (f x)) → Every P (map f xs)
  every_map f [] h = tt
  every_map f (x ∷ xs) h = (h x (inl refl), every_map f xs (λ y m. h y (inr m)))

  pub every_concat_map : (f : A → List B) (xs : List A) → ((x : A) → x ∈ xs → Every P (f x)) → Every P (concat_map f xs)
  every_concat_map f [] h = tt
  every_concat_map f (x ∷ xs) h = every_append P (f x) (concat_map f xs) (h x (inl refl)) (every_concat_map f xs (λ y m. h y (inr m)))

-- Lists one after the other, and what each member gives ---------------------------------------------------------------------
pub concat_append : {A : Type 0} (xss yss : List (List A)) → concat (xss ++ yss) ≡ concat xss ++ concat yss
concat_append [] yss = refl
concat_append (xs ∷ xss) yss = ap (λ l. xs ++ l) (concat_append xss yss) ∙ sym (append_assoc xs (concat xss) (concat yss))

module _ {A B : Type 0} where
  pub concat_map_append : (f : A → List B) (xs ys : List A) → concat_map f (xs ++ ys) ≡ concat_map f xs ++ concat_map f ys
  concat_map_append f [] ys = refl
  concat_map_append f (x ∷ xs) ys = ap (λ l. f x ++ l) (concat_map_append f xs ys) ∙ sym (append_assoc (f x) (concat_map f xs) (concat_map f ys))

  pub concat_map_same : (f g : A → List B) (xs : List A) → ((x : A) → x ∈ xs → f x ≡ g x) → concat_map f xs ≡ concat_map g xs
  concat_map_same f g [] h = refl
  concat_map_same f g (x ∷ xs) h = cc (h x (inl refl), concat_map_same f g xs (λ y m. h y (inr m)))

  pub length_concat_map_le : (f : A → List B) (xs : List A) (k : ℕ) → ((x : A) → x ∈ xs → length (f x) ≤ k) → length (concat_map f xs) ≤ length xs * k
  length_concat_map_le f [] k h = omega arith
  length_concat_map_le f (x ∷ xs) k h =
      omega (arith, length-append (f x) (concat_map f xs), h x (inl refl), length_concat_map_le f xs k (λ y m. h y (inr m)), suc-mul (length xs) k)
