-- What it takes to satisfy each shape of clause: for each a law `-out`, what follows where it is satisfied, and one `-in`, what suffices.
-- By recursion on the lists.
use mathlib.Core.Path.{◌≡◌, refl, sym, ap, ◌∙◌, subst}
use mathlib.Core.Bool.{true, false, not}
use mathlib.Core.List.{List, [], ◌∷◌, ◌++◌, map}
use mathlib.Core.Logic.{⊎_elim, inl, inr}
use mathlib.Core.Option.{Option, none, some}
use Prim.Native.Nat.{ℕ}
use Rattle.lists.specs.List.{filter, ◌∈◌, concat_map}
use Rattle.lists.proofs.Bool.{bool_cases, clash, and_l, and_r, and_in, or_out, or_l, or_r, false_of}
use Rattle.lists.proofs.Member.{in_filter_out, in_filter_in, in_map_out, in_map_in, all_append, any_append, all_out, any_out, any_in}
use Rattle.planning.specs.Table.{Task, step, same}
use Rattle.planning.specs.Clause.{Lit, neg, Clause, all_pos, not_both, pairs, var_of, body_clauses, pass_clauses, pos, up_clause}
use Rattle.planning.specs.Model.{Valuation, lit_true, clause_true, satisfies}
use Rattle.planning.proofs.Task.{same_sound, same_refl}

module _ {A : Type 0} where
  -- those of these whose variables are true
  abbrev pub true_ones : Valuation → List (ℕ × A) → List A
  true_ones v xs = map (λ x. x.1) (filter (λ x. v x.0) xs)

  abbrev pub list_of : Option A → List A
  list_of none = []
  list_of (some a) = a ∷ []

-- the steps true at these slots, in order
abbrev pub slot_steps : Valuation → List (List (ℕ × ℕ)) → List ℕ
slot_steps v xss = concat_map (true_ones v) xss

-- (f) is (e) for a body of that step alone
pub pass_body : (n s : ℕ) (cs : List (List (ℕ × Task))) → pass_clauses n s cs ≡ body_clauses n (step s ∷ []) cs
pass_body n s [] = refl
pass_body n s (c ∷ cs) = ap (λ l. (neg n ∷ var_of (step s) c) ∷ l) (go cs)
  where
    go : (cs : List (List (ℕ × Task))) → concat_map (λ d. not_both n d) cs ≡ body_clauses n [] cs
    go [] = refl
    go (d ∷ ds) = ap (λ l. not_both n d ++ l) (go ds)

module _ (v : Valuation) where
  -- Clauses one after the other --------------------------------------------------------------------------------------------
  pub sat_l : (cs ds : List Clause) → satisfies v (cs ++ ds) ≡ true → satisfies v cs ≡ true
  sat_l cs ds h = and_l (satisfies v cs) (satisfies v ds) (sym (all_append (clause_true v) cs ds) ∙ h)

  pub sat_r : (cs ds : List Clause) → satisfies v (cs ++ ds) ≡ true → satisfies v ds ≡ true
  sat_r cs ds h = and_r (satisfies v cs) (satisfies v ds) (sym (all_append (clause_true v) cs ds) ∙ h)

  pub sat_in : (cs ds : List Clause) → satisfies v cs ≡ true → satisfies v ds ≡ true → satisfies v (cs ++ ds) ≡ true
  sat_in cs ds h k = all_append (clause_true v) cs ds ∙ and_in (satisfies v cs) (satisfies v ds) h k

  module _ {A : Type 0} where
    pub map_out : (f : A → Clause) (xs : List A) → satisfies v (map f xs) ≡ true → (x : A) → x ∈ xs → clause_true v (f x) ≡ true
    map_out f xs h x m = all_out (clause_true v) (map f xs) h (f x) (in_map_in f x xs m)

    pub map_in : (f : A → Clause) (xs : List A) → ((x : A) → x ∈ xs → clause_true v (f x) ≡ true) → satisfies v (map f xs) ≡ true
    map_in f [] h = refl
    map_in f (y ∷ ys) h = and_in (clause_true v (f y)) (satisfies v (map f ys)) (h y (inl refl)) (map_in f ys (λ x m. h x (inr m)))

    pub concat_map_out : (f : A → List Clause) (xs : List A) → satisfies v (concat_map f xs) ≡ true → (x : A) → x ∈ xs → satisfies v (f x) ≡ true
    concat_map_out f [] h x m = absurd m
    concat_map_out f (y ∷ ys) h x (inl e) = rw e (sat_l (f y) (concat_map f ys) h)
    concat_map_out f (y ∷ ys) h x (inr m) = concat_map_out f ys (sat_r (f y) (concat_map f ys) h) x m

    pub concat_map_in : (f : A → List Clause) (xs : List A) → ((x : A) → x ∈ xs → satisfies v (f x) ≡ true) → satisfies v (concat_map f xs) ≡ true
    concat_map_in f [] h = refl
    concat_map_in f (y ∷ ys) h = sat_in (f y) (concat_map f ys) (h y (inl refl)) (concat_map_in f ys (λ x m. h x (inr m)))

  -- One literal, and a literal before others -------------------------------------------------------------------------------
  pub unit_out : (l : Lit) → clause_true v (l ∷ []) ≡ true → lit_true v l ≡ true
  unit_out l h = ⊎_elim (λ p. p) (λ p. clash p refl) (or_out (lit_true v l) false h)

  pub unit_in : (l : Lit) → lit_true v l ≡ true → clause_true v (l ∷ []) ≡ true
  unit_in l h = or_l (lit_true v l) false h

  pub imp_out : (n : ℕ) (c : Clause) → clause_true v (neg n ∷ c) ≡ true → v n ≡ true → clause_true v c ≡ true
  imp_out n c h p = ⊎_elim (λ q. clash q (ap not p)) (λ q. q) (or_out (not (v n)) (clause_true v c) h)

  pub imp_in : (n : ℕ) (c : Clause) → (v n ≡ true → clause_true v c ≡ true) → clause_true v (neg n ∷ c) ≡ true
  imp_in n c f = ⊎_elim (λ q. or_r (not (v n)) (clause_true v c) (f q)) (λ q. or_l (not (v n)) (clause_true v c) (ap not q)) (bool_cases (v n))

  -- Numbered variables -----------------------------------------------------------------------------------------------------
  module _ {A : Type 0} where
    pub all_pos_out : (xs : List (ℕ × A)) → clause_true v (all_pos xs) ≡ true → (x : ℕ × A) × (x ∈ xs) × (v x.0 ≡ true)
    all_pos_out xs h =
        let r = any_out (lit_true v) (all_pos xs) h in
        let k = in_map_out (λ (x : ℕ × A). pos x.0) r.0 xs r.1 in
        (k.0, k.1, subst (λ (l : Lit). lit_true v l ≡ true) k.2 r.2)

    pub all_pos_in : (xs : List (ℕ × A)) (x : ℕ × A) → x ∈ xs → v x.0 ≡ true → clause_true v (all_pos xs) ≡ true
    all_pos_in xs x m h = any_in (lit_true v) (all_pos xs) (pos x.0) (in_map_in (λ (y : ℕ × A). pos y.0) x xs m) h

    pub not_both_out : (n : ℕ) (xs : List (ℕ × A)) → satisfies v (not_both n xs) ≡ true → v n ≡ true → (x : ℕ × A) → x ∈ xs → v x.0 ≡ false
    not_both_out n xs h p x m = false_of (v x.0)
        (λ q. clash (imp_out x.0 [] (imp_out n (neg x.0 ∷ []) (map_out (λ (y : ℕ × A). neg n ∷ neg y.0 ∷ []) xs h x m) p) q) refl)

    pub not_both_in : (n : ℕ) (xs : List (ℕ × A)) → (v n ≡ true → (x : ℕ × A) → x ∈ xs → v x.0 ≡ false) → satisfies v (not_both n xs) ≡ true
    not_both_in n xs f = map_in (λ (y : ℕ × A). neg n ∷ neg y.0 ∷ []) xs
        (λ x m. imp_in n (neg x.0 ∷ []) (λ p. imp_in x.0 [] (λ q. clash q (f p x m))))

    -- of two true ones each is the other
    pub pairs_out : (xs : List (ℕ × A)) → satisfies v (pairs xs) ≡ true → (x y : ℕ × A) → x ∈ xs → y ∈ xs → v x.0 ≡ true → v y.0 ≡ true → x ≡ y
    pairs_out [] h x y m k p q = absurd m
    pairs_out (z ∷ zs) h x y (inl e) (inl g) p q = e ∙ sym g
    pairs_out (z ∷ zs) h x y (inl e) (inr k) p q =
        clash q (not_both_out z.0 zs (sat_l (not_both z.0 zs) (pairs zs) h) (rw e at p) y k)
    pairs_out (z ∷ zs) h x y (inr m) (inl g) p q =
        clash p (not_both_out z.0 zs (sat_l (not_both z.0 zs) (pairs zs) h) (rw g at q) x m)
    pairs_out (z ∷ zs) h x y (inr m) (inr k) p q = pairs_out zs (sat_r (not_both z.0 zs) (pairs zs) h) x y m k p q

    pub ones_out : (a : A) (xs : List (ℕ × A)) → a ∈ true_ones v xs → (n : ℕ) × ((n, a) ∈ xs) × (v n ≡ true)
    ones_out a xs m =
        let r = in_map_out (λ (x : ℕ × A). x.1) a (filter (λ x. v x.0) xs) m in
        let k = in_filter_out (λ (x : ℕ × A). v x.0) r.0 xs r.1 in
        (r.0.0, subst (λ (z : A). (r.0.0, z) ∈ xs) (sym r.2) k.0, k.1)

    pub ones_in : (x : ℕ × A) (xs : List (ℕ × A)) → x ∈ xs → v x.0 ≡ true → x.1 ∈ true_ones v xs
    ones_in x xs m p = in_map_in (λ (y : ℕ × A). y.1) x (filter (λ y. v y.0) xs) (in_filter_in (λ (y : ℕ × A). v y.0) x xs m p)

  -- Task variables ---------------------------------------------------------------------------------------------------------
  pub var_of_out : (t : Task) (xs : List (ℕ × Task)) → clause_true v (var_of t xs) ≡ true → (n : ℕ) × ((n, t) ∈ xs) × (v n ≡ true)
  var_of_out t xs h =
      let r = all_pos_out (filter (λ (x : ℕ × Task). same t x.1) xs) h in
      let k = in_filter_out (λ (x : ℕ × Task). same t x.1) r.0 xs r.1 in
      (r.0.0, subst (λ (u : Task). (r.0.0, u) ∈ xs) (sym (same_sound t r.0.1 k.1)) k.0, r.2)

  pub var_of_in : (t : Task) (xs : List (ℕ × Task)) (n : ℕ) → (n, t) ∈ xs → v n ≡ true → clause_true v (var_of t xs) ≡ true
  var_of_in t xs n m h = all_pos_in (filter (λ (x : ℕ × Task). same t x.1) xs) (n, t) (in_filter_in (λ (x : ℕ × Task). same t x.1) (n, t) xs m (same_refl t)) h

  pub up_out : (xs : List (ℕ × Task)) (x : ℕ × Task) → clause_true v (up_clause xs x) ≡ true → v x.0 ≡ true → (y : ℕ × Task) × (y ∈ xs) × (v y.0 ≡ true)
  up_out xs x h p =
      ⊎_elim (all_pos_out xs) (λ q. clash (imp_out x.0 [] q p) refl)
      (or_out (clause_true v (all_pos xs)) (clause_true v (neg x.0 ∷ [])) (sym (any_append (lit_true v) (all_pos xs) (neg x.0 ∷ [])) ∙ h))

  pub up_in : (xs : List (ℕ × Task)) (x : ℕ × Task) → (v x.0 ≡ true → (y : ℕ × Task) × (y ∈ xs) × (v y.0 ≡ true)) → clause_true v (up_clause xs x) ≡ true
  up_in xs x f =
      any_append (lit_true v) (all_pos xs) (neg x.0 ∷ [])
      ∙ ⊎_elim (λ q. let r = f q in or_l (clause_true v (all_pos xs)) (clause_true v (neg x.0 ∷ [])) (all_pos_in xs r.0 r.1 r.2))
      (λ q. or_r (clause_true v (all_pos xs)) (clause_true v (neg x.0 ∷ [])) (imp_in x.0 [] (λ p. clash p q))) (bool_cases (v x.0))
