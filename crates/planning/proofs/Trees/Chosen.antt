-- Variables of which that of one thing, or none, is true: the chosen one, the true ones, and two valuations of the kind.
-- By recursion on the variables.
use mathlib.Core.Path.{◌≡◌, refl, sym, ap, ◌∙◌, subst}
use mathlib.Core.Bool.{Bool, true, false}
use mathlib.Core.List.{List, [], ◌∷◌, map}
use mathlib.Core.Logic.{◌⊎◌, inl, inr}
use mathlib.Core.Option.{Option, none, some}
use Prim.Native.Nat.{ℕ, suc}
use Rattle.lists.specs.List.{cons_if, filter, number, ◌∈◌, Distinct}
use Rattle.lists.proofs.Bool.{bool_cases, clash, some_inj, false_of}
use Rattle.lists.proofs.Number.{number_thing, number_in}
use Rattle.planning.specs.Model.{Valuation, or_else, chosen}
use Rattle.planning.proofs.Satisfy.{true_ones, list_of}
use Rattle.planning.proofs.Trees.Hold.{Hot, Held}

module _ {A : Type 0} where
  abbrev Present : List (ℕ × A) → Option A → Type 0
  Present ys none = Unit {0}
  Present ys (some a) = (n : ℕ) × ((n, a) ∈ ys)

  present : (b : ℕ) (xs : List A) (o : Option A) → Held xs o → Present (number b xs) o
  present b xs none h = tt
  present b xs (some a) h = number_in b xs a h

  chosen_is : (v : Valuation) (ys : List (ℕ × A)) (o : Option A) → Hot v ys o → Present ys o → chosen v ys ≡ o
  chosen_is v [] none h p = refl
  chosen_is v [] (some a) h p = absurd p.1
  chosen_is v (y ∷ ys) o h p = go (v y.0) refl (λ r. chosen_is v ys o (λ x m. h x (inr m)) r)
    where
      still : (o : Option A) → v y.0 ≡ false → Hot v (y ∷ ys) o → Present (y ∷ ys) o → Present ys o
      still none e h p = tt
      still (some a) e h p = pick p.1
        where
          pick : (◌≡◌ {A = ℕ × A} (p.0, a) y) ⊎ ((p.0, a) ∈ ys) → Present ys (some a)
          pick (inl q) = clash ((h y (inl refl)).1 (ap (λ (z : ℕ × A). some z.1) q)) e
          pick (inr m) = (p.0, m)

      go : (c : Bool) → v y.0 ≡ c → (Present ys o → chosen v ys ≡ o) → or_else c y.1 (chosen v ys) ≡ o
      go true e f = sym ((h y (inl refl)).0 e)
      go false e f = f (still o e h p)

  pub chosen_hot : (v : Valuation) (b : ℕ) (xs : List A) (o : Option A) → Hot v (number b xs) o → Held xs o → chosen v (number b xs) ≡ o
  chosen_hot v b xs o h p = chosen_is v (number b xs) o h (present b xs o p)

  pub hot_agree : (v w : Valuation) (xs : List (ℕ × A)) (o : Option A) → ((x : ℕ × A) → x ∈ xs → v x.0 ≡ w x.0) → Hot v xs o → Hot w xs o
  hot_agree v w xs o a h x m = (λ e. (h x m).0 (a x m ∙ e), λ e. sym (a x m) ∙ (h x m).1 e)

  pub hot_same : (v w : Valuation) (xs : List (ℕ × A)) (o : Option A) → Hot v xs o → Hot w xs o → (x : ℕ × A) → x ∈ xs → v x.0 ≡ w x.0
  hot_same v w xs o h k x m = go (bool_cases (v x.0)) (bool_cases (w x.0))
    where
      go : (v x.0 ≡ true) ⊎ (v x.0 ≡ false) → (w x.0 ≡ true) ⊎ (w x.0 ≡ false) → v x.0 ≡ w x.0
      go (inl p) (inl q) = p ∙ sym q
      go (inr p) (inr q) = p ∙ sym q
      go (inl p) (inr q) = clash ((k x m).1 ((h x m).0 p)) q
      go (inr p) (inl q) = clash ((h x m).1 ((k x m).0 q)) p

-- Those of a list that are true -------------------------------------------------------------------------------------------
module _ {A : Type 0} where
  ones_none : (v : Valuation) (ys : List (ℕ × A)) → ((x : ℕ × A) → x ∈ ys → v x.0 ≡ false) → true_ones v ys ≡ []
  ones_none v [] f = refl
  ones_none v (y ∷ ys) f = rw (f y (inl refl)) (ones_none v ys (λ x m. f x (inr m)))

  pub ones_hot : (v : Valuation) (b : ℕ) (xs : List A) (o : Option A) → Distinct xs → Hot v (number b xs) o → Held xs o → true_ones v (number b xs) ≡ list_of o
  ones_hot v b [] none d h p = refl
  ones_hot v b [] (some a) d h p = absurd p
  ones_hot v b (x ∷ xs) o d h p = go (v b) refl (λ k. ones_hot v (suc b) xs o d.1 (λ y m. h y (inr m)) k)
    where
      others : v b ≡ true → (y : ℕ × A) → y ∈ number (suc b) xs → v y.0 ≡ false
      others t y m = false_of (v y.0)
          (λ q. d.0 (subst (λ (z : A). z ∈ xs) (some_inj (sym ((h y (inr m)).0 q) ∙ (h (b, x) (inl refl)).0 t)) (number_thing (suc b) xs y m)))

      still : (o : Option A) → v b ≡ false → Hot v (number b (x ∷ xs)) o → Held (x ∷ xs) o → Held xs o
      still none e h p = tt
      still (some a) e h (inl q) = clash ((h (b, x) (inl refl)).1 (ap (λ (z : A). some z) q)) e
      still (some a) e h (inr m) = m

      go : (c : Bool) → v b ≡ c → (Held xs o → true_ones v (number (suc b) xs) ≡ list_of o) → map (λ y. y.1) (cons_if c (b, x) (filter (λ y. v y.0) (number (suc b) xs))) ≡ list_of o
      go true e f = ap (λ (r : List A). x ∷ r) (ones_none v (number (suc b) xs) (others e)) ∙ ap list_of (sym ((h (b, x) (inl refl)).0 e))
      go false e f = f (still o e h p)
