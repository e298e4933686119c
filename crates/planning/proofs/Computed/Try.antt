-- The models of a table counted: every list of values is tried, and the test of a list is the definition's own.
-- By recursion on the number of variables.
use mathlib.Core.Path.{◌≡◌, refl, sym, ap, ◌∙◌, subst}
use mathlib.Core.Bool.{Bool, true, false}
use mathlib.Core.List.{List, [], ◌∷◌, ◌++◌, map}
use mathlib.Core.Logic.{◌⊎◌, inl, inr}
use mathlib.Core.Option.{Option, some}
use Prim.Native.Nat.{ℕ, zero, suc}
use native.Mathlib.Omega.{arith}
use lib.ListN.{length}
use Rattle.lists.specs.List.{filter, ◌∈◌, Distinct, Every}
use Rattle.lists.proofs.Bool.{some_inj}
use Rattle.lists.proofs.Member.{in_left, in_right, in_append, in_filter_out, in_filter_in, distinct_filter, distinct_append, in_map_out, in_map_in, distinct_map}
use Rattle.lists.proofs.Every.{every_of, every_out}
use Rattle.planning.specs.Table.{Table}
use Rattle.planning.specs.Tree.{Tree}
use Rattle.planning.specs.Variable.{variables}
use Rattle.planning.specs.Clause.{formula}
use Rattle.planning.specs.Model.{satisfies, value, Model}
use Rattle.planning.specs.Marked.{Models}

-- every list of n values
abbrev all_lists : ℕ → List (List Bool)
all_lists zero = [] ∷ []
all_lists (suc n) = map (λ vs. false ∷ vs) (all_lists n) ++ map (λ vs. true ∷ vs) (all_lists n)

in_all : (n : ℕ) (vs : List Bool) → length vs ≡ n → vs ∈ all_lists n
in_all zero [] e = inl refl
in_all zero (b ∷ vs) e = absurd (omega arith)
in_all (suc n) [] e = absurd (omega arith)
in_all (suc n) (false ∷ vs) e = in_left (false ∷ vs) (map (λ us. false ∷ us) (all_lists n)) (map (λ us. true ∷ us) (all_lists n)) (in_map_in (λ us. false ∷ us) vs (all_lists n) (in_all n vs (omega arith)))
in_all (suc n) (true ∷ vs) e = in_right (true ∷ vs) (map (λ us. false ∷ us) (all_lists n)) (map (λ us. true ∷ us) (all_lists n)) (in_map_in (λ us. true ∷ us) vs (all_lists n) (in_all n vs (omega arith)))

all_length : (n : ℕ) (vs : List Bool) → vs ∈ all_lists n → length vs ≡ n
all_length zero vs (inl e) = ap length e
all_length zero vs (inr m) = absurd m
all_length (suc n) vs m = go (in_append vs (map (λ us. false ∷ us) (all_lists n)) (map (λ us. true ∷ us) (all_lists n)) m) (λ us k. all_length n us k)
  where
    go : (vs ∈ map (λ us. false ∷ us) (all_lists n)) ⊎ (vs ∈ map (λ us. true ∷ us) (all_lists n)) → ((us : List Bool) → us ∈ all_lists n → length us ≡ n) → length vs ≡ suc n
    go (inl k) f = let r = in_map_out (λ us. false ∷ us) vs (all_lists n) k in ap length r.2 ∙ ap suc (f r.0 r.1)
    go (inr k) f = let r = in_map_out (λ us. true ∷ us) vs (all_lists n) k in ap length r.2 ∙ ap suc (f r.0 r.1)

cons_inj : (b : Bool) (us vs : List Bool) → ◌≡◌ {A = List Bool} (b ∷ us) (b ∷ vs) → us ≡ vs
cons_inj b us vs e = cc

all_distinct : (n : ℕ) → Distinct (all_lists n)
all_distinct zero = (λ m. m, tt)
all_distinct (suc n) =
    distinct_append (map (λ us. false ∷ us) (all_lists n)) (map (λ us. true ∷ us) (all_lists n))
    (distinct_map (λ us. false ∷ us) (cons_inj false) (all_lists n) (all_distinct n)) (distinct_map (λ us. true ∷ us) (cons_inj true) (all_lists n) (all_distinct n)) apart
  where
    apart : (vs : List Bool) → vs ∈ map (λ us. false ∷ us) (all_lists n) → vs ∈ map (λ us. true ∷ us) (all_lists n) → ⊥
    apart vs m k =
        let r = in_map_out (λ us. false ∷ us) vs (all_lists n) m in
        let q = in_map_out (λ us. true ∷ us) vs (all_lists n) k in
        let h : ◌≡◌ {A = List Bool} (false ∷ r.0) (true ∷ q.0) = sym r.2 ∙ q.2 in
        let z : ◌≡◌ {A = ℕ} 0 1 = cc in omega arith

-- those that satisfy the formula
abbrev pub found : Table → List (List Bool)
found T = filter (λ vs. satisfies (value vs) (formula T)) (all_lists (variables T))

module _ (T : Table) where
  found_model : (vs : List Bool) → vs ∈ found T → Model T vs
  found_model vs m =
      let k = in_filter_out (λ us. satisfies (value us) (formula T)) vs (all_lists (variables T)) m in
      record { whole = all_length (variables T) vs k.0; true_clauses = k.1 }

  model_found : (vs : List Bool) → Model T vs → vs ∈ found T
  model_found vs m = in_filter_in (λ us. satisfies (value us) (formula T)) vs (all_lists (variables T)) (in_all (variables T) vs m.whole) m.true_clauses

  pub tried : (n : ℕ) → length (found T) ≡ n → Models T n
  tried n e = record {
    list = found T;
    number = e;
    models = every_of (Model T) (found T) found_model;
    different = distinct_filter (λ us. satisfies (value us) (formula T)) (all_lists (variables T)) (all_distinct (variables T));
    every = model_found;
  }

  -- what holds of those that were found holds of every model
  pub of_found : (P : List Bool → Type 0) → Every P (found T) → (vs : List Bool) → Model T vs → P vs
  of_found P h vs m = every_out P (found T) h vs (model_found vs m)

-- where the tree that was found is t₀
pub of_tree : (P : Tree → Type 0) (t₀ t : Tree) → ◌≡◌ {A = Option Tree} (some t₀) (some t) → P t₀ → P t
of_tree P t₀ t e p = subst P (some_inj e) p
