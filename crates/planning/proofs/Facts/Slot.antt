-- Rule 4 at one slot where at most one step is true: its clauses say that the step can be done with the facts before it, and what it leaves.
-- Clause by clause, and fact by fact.
use mathlib.Core.Path.{◌≡◌, refl, sym, ap, ◌∙◌, subst}
use mathlib.Core.Bool.{Bool, true, false, not, ◌&&◌, ◌||◌}
use mathlib.Core.List.{List, [], ◌∷◌, ◌++◌, map}
use mathlib.Core.Logic.{inl, inr, ⊎_elim}
use Prim.Native.Nat.{ℕ, suc, ◌≤◌, ◌<◌}
use native.Mathlib.Omega.{arith}
use lib.ListN.{length}
use Rattle.lists.specs.List.{filter, ◌∈◌, concat_map, up_to, has}
use Rattle.lists.proofs.Bool.{bool_cases, clash, and_l, and_r, and_in, or_out, or_l, or_r, not-true}
use Rattle.lists.proofs.Member.{in_filter_out, in_filter_in, has_out, has_in, all_in, all_out}
use Rattle.lists.proofs.Number.{up_to_range, up_to_in}
use Rattle.planning.specs.Table.{Step, Table, step_of}
use Rattle.planning.specs.Tree.{State, ready, run, can}
use Rattle.planning.specs.Variable.{fact_var}
use Rattle.planning.specs.Clause.{Lit, pos, neg, Clause, all_pos, facts_that, drops, effect_clauses, fall_clause, rise_clause, frame_clauses}
use Rattle.planning.specs.Model.{Valuation, lit_true, clause_true, satisfies}
use Rattle.planning.proofs.Satisfy.{true_ones, sat_l, sat_r, sat_in, imp_out, imp_in, map_out, map_in, concat_map_out, concat_map_in, all_pos_out, all_pos_in, unit_out, unit_in, ones_out, ones_in}
use Rattle.planning.proofs.Facts.Run.{NeedsIn}

-- Booleans of one fact: c, the step clears it; s, it sets it; b, it is true before; a, it is true after ----------------
-- after one step, from its clauses
one_eq : (c s b a : Bool) → (s ≡ true → a ≡ true) → ((c && not s) ≡ true → a ≡ false) → (b ≡ true → a ≡ false → (c && not s) ≡ true)
    → (b ≡ false → a ≡ true → s ≡ true) → a ≡ (s || (b && not c))
one_eq c true b true p q r u = refl
one_eq c true b false p q r u = p refl
one_eq true false true true p q r u = q refl
one_eq true false true false p q r u = refl
one_eq true false false true p q r u = sym (u refl refl)
one_eq true false false false p q r u = refl
one_eq false false true true p q r u = refl
one_eq false false true false p q r u = r refl refl
one_eq false false false true p q r u = sym (u refl refl)
one_eq false false false false p q r u = refl

-- after none
none_eq : (b a : Bool) → (b ≡ true → a ≡ false → ⊥) → (b ≡ false → a ≡ true → ⊥) → a ≡ b
none_eq true true p q = refl
none_eq true false p q = absurd (p refl refl)
none_eq false true p q = absurd (q refl refl)
none_eq false false p q = refl

-- and back
gone_of : (c s b : Bool) → (c && not s) ≡ true → (s || (b && not c)) ≡ false
gone_of true true b t = sym t
gone_of true false true t = refl
gone_of true false false t = refl
gone_of false s b t = clash t refl

falls_of : (c s b : Bool) → b ≡ true → (s || (b && not c)) ≡ false → (c && not s) ≡ true
falls_of c true b t u = clash refl u
falls_of true false b t u = refl
falls_of false false true t u = sym u
falls_of false false false t u = t

rises_of : (c s b : Bool) → b ≡ false → (s || (b && not c)) ≡ true → s ≡ true
rises_of c true b t u = refl
rises_of c false true t u = sym t
rises_of c false false t u = u

-- Effects and frames ---------------------------------------------------------------------------------------------------
-- the facts at boundary i
abbrev pub boundary : Table → Valuation → (b i : ℕ) → State
boundary T v b i f = v (fact_var T b i f)

-- what the clauses of a true step say of the facts before it, b, and after it, a
pub record Effect (T : Table) (b a : State) (s : Step) : Type 0 where
  pub needed : (f : ℕ) → f < T.facts → has s.needs f ≡ true → b f ≡ true
  pub made : (f : ℕ) → f < T.facts → has s.sets f ≡ true → a f ≡ true
  pub gone : (f : ℕ) → f < T.facts → drops s f ≡ true → a f ≡ false

-- what the clauses of the facts say, with these steps true
pub record Frame (T : Table) (b a : State) (ss : List ℕ) : Type 0 where
  pub falls : (f : ℕ) → f < T.facts → b f ≡ true → a f ≡ false → (s : ℕ) × (s ∈ ss) × (drops (step_of T s) f ≡ true)
  pub rises : (f : ℕ) → f < T.facts → b f ≡ false → a f ≡ true → (s : ℕ) × (s ∈ ss) × (has (step_of T s).sets f ≡ true)

-- One slot -----------------------------------------------------------------------------------------------------------
module _ (T : Table) (v : Valuation) (b i : ℕ) where
  abbrev before : State
  before = boundary T v b i

  abbrev later : State
  later = boundary T v b (suc i)

  abbrev need_clauses : ℕ × ℕ → List Clause
  need_clauses x = map (λ f. neg x.0 ∷ pos (fact_var T b i f) ∷ []) (facts_that T (has (step_of T x.1).needs))

  abbrev set_clauses : ℕ × ℕ → List Clause
  set_clauses x = map (λ f. neg x.0 ∷ pos (fact_var T b (suc i) f) ∷ []) (facts_that T (has (step_of T x.1).sets))

  abbrev drop_clauses : ℕ × ℕ → List Clause
  drop_clauses x = map (λ f. neg x.0 ∷ neg (fact_var T b (suc i) f) ∷ []) (facts_that T (drops (step_of T x.1)))

  fact_in : (p : ℕ → Bool) (f : ℕ) → f < T.facts → p f ≡ true → f ∈ facts_that T p
  fact_in p f l h = in_filter_in p f (up_to T.facts) (up_to_in f T.facts l) h

  fact_out : (p : ℕ → Bool) (f : ℕ) → f ∈ facts_that T p → (f < T.facts) × (p f ≡ true)
  fact_out p f m = let k = in_filter_out p f (up_to T.facts) m in (up_to_range f T.facts k.0, k.1)

  -- a clause of two literals, the first a negated variable, for each of some facts
  gates_out : (n : ℕ) (l : ℕ → Lit) (fs : List ℕ) → satisfies v (map (λ f. neg n ∷ l f ∷ []) fs) ≡ true → v n ≡ true → (f : ℕ) → f ∈ fs → lit_true v (l f) ≡ true
  gates_out n l fs h t f m = unit_out v (l f) (imp_out v n (l f ∷ []) (map_out v (λ g. neg n ∷ l g ∷ []) fs h f m) t)

  gates_in : (n : ℕ) (l : ℕ → Lit) (fs : List ℕ) → (v n ≡ true → (f : ℕ) → f ∈ fs → lit_true v (l f) ≡ true) → satisfies v (map (λ f. neg n ∷ l f ∷ []) fs) ≡ true
  gates_in n l fs h = map_in v (λ g. neg n ∷ l g ∷ []) fs (λ f m. imp_in v n (l f ∷ []) (λ t. unit_in v (l f) (h t f m)))

  effect_out : (x : ℕ × ℕ) → satisfies v (effect_clauses T b i x) ≡ true → v x.0 ≡ true → Effect T before later (step_of T x.1)
  effect_out x h t =
      let s = step_of T x.1 in
      let hs = sat_r v (need_clauses x) (set_clauses x ++ drop_clauses x) h in
      record {
        needed = λ f l p. gates_out x.0 (λ g. pos (fact_var T b i g)) (facts_that T (has s.needs)) (sat_l v (need_clauses x) (set_clauses x ++ drop_clauses x) h) t f (fact_in (has s.needs) f l p);
        made = λ f l p. gates_out x.0 (λ g. pos (fact_var T b (suc i) g)) (facts_that T (has s.sets)) (sat_l v (set_clauses x) (drop_clauses x) hs) t f (fact_in (has s.sets) f l p);
        gone = λ f l p. not-true (later f) (gates_out x.0 (λ g. neg (fact_var T b (suc i) g)) (facts_that T (drops s)) (sat_r v (set_clauses x) (drop_clauses x) hs) t f (fact_in (drops s) f l p));
      }

  effect_in : (x : ℕ × ℕ) → (v x.0 ≡ true → Effect T before later (step_of T x.1)) → satisfies v (effect_clauses T b i x) ≡ true
  effect_in x h =
      let s = step_of T x.1 in
      sat_in v (need_clauses x) (set_clauses x ++ drop_clauses x)
      (gates_in x.0 (λ g. pos (fact_var T b i g)) (facts_that T (has s.needs)) (λ t f m. let r = fact_out (has s.needs) f m in (h t).needed f r.0 r.1))
      (sat_in v (set_clauses x) (drop_clauses x)
      (gates_in x.0 (λ g. pos (fact_var T b (suc i) g)) (facts_that T (has s.sets)) (λ t f m. let r = fact_out (has s.sets) f m in (h t).made f r.0 r.1))
      (gates_in x.0 (λ g. neg (fact_var T b (suc i) g)) (facts_that T (drops s)) (λ t f m. let r = fact_out (drops s) f m in ap not ((h t).gone f r.0 r.1))))

  pub effects_out : (xs : List (ℕ × ℕ)) → satisfies v (concat_map (effect_clauses T b i) xs) ≡ true → (s : ℕ) → s ∈ true_ones v xs → Effect T before later (step_of T s)
  effects_out xs h s m = let r = ones_out v s xs m in effect_out (r.0, s) (concat_map_out v (effect_clauses T b i) xs h (r.0, s) r.1) r.2

  pub effects_in : (xs : List (ℕ × ℕ)) → ((s : ℕ) → s ∈ true_ones v xs → Effect T before later (step_of T s)) → satisfies v (concat_map (effect_clauses T b i) xs) ≡ true
  effects_in xs h = concat_map_in v (effect_clauses T b i) xs (λ x m. effect_in x (λ t. h x.1 (ones_in v x xs m t)))

  -- the steps here that pass a test, as literals: one of the true steps passes it
  those_out : (p : ℕ → Bool) (xs : List (ℕ × ℕ)) → clause_true v (all_pos (filter (λ x. p x.1) xs)) ≡ true → (s : ℕ) × (s ∈ true_ones v xs) × (p s ≡ true)
  those_out p xs h =
      let r = all_pos_out v (filter (λ (x : ℕ × ℕ). p x.1) xs) h in
      let k = in_filter_out (λ (x : ℕ × ℕ). p x.1) r.0 xs r.1 in
      (r.0.1, ones_in v r.0 xs k.0 r.2, k.1)

  those_in : (p : ℕ → Bool) (xs : List (ℕ × ℕ)) (s : ℕ) → s ∈ true_ones v xs → p s ≡ true → clause_true v (all_pos (filter (λ x. p x.1) xs)) ≡ true
  those_in p xs s m h =
      let r = ones_out v s xs m in
      all_pos_in v (filter (λ (x : ℕ × ℕ). p x.1) xs) (r.0, s) (in_filter_in (λ (x : ℕ × ℕ). p x.1) (r.0, s) xs r.1 h) r.2

  -- -n m rest, and n -m rest
  fall_out : (n m : ℕ) (c : Clause) → clause_true v (neg n ∷ pos m ∷ c) ≡ true → v n ≡ true → v m ≡ false → clause_true v c ≡ true
  fall_out n m c h p q = ⊎_elim (λ r. clash r q) (λ r. r) (or_out (v m) (clause_true v c) (imp_out v n (pos m ∷ c) h p))

  fall_in : (n m : ℕ) (c : Clause) → (v n ≡ true → v m ≡ false → clause_true v c ≡ true) → clause_true v (neg n ∷ pos m ∷ c) ≡ true
  fall_in n m c h = imp_in v n (pos m ∷ c) (λ p. ⊎_elim (or_l (v m) (clause_true v c)) (λ q. or_r (v m) (clause_true v c) (h p q)) (bool_cases (v m)))

  rise_out : (n m : ℕ) (c : Clause) → clause_true v (pos n ∷ neg m ∷ c) ≡ true → v n ≡ false → v m ≡ true → clause_true v c ≡ true
  rise_out n m c h p q = ⊎_elim (λ r. clash r p) (λ r. imp_out v m c r q) (or_out (v n) (clause_true v (neg m ∷ c)) h)

  rise_in : (n m : ℕ) (c : Clause) → (v n ≡ false → v m ≡ true → clause_true v c ≡ true) → clause_true v (pos n ∷ neg m ∷ c) ≡ true
  rise_in n m c h =
      ⊎_elim (or_l (v n) (clause_true v (neg m ∷ c))) (λ q. or_r (v n) (clause_true v (neg m ∷ c)) (imp_in v m c (λ p. h q p))) (bool_cases (v n))

  module _ (xs : List (ℕ × ℕ)) where
    abbrev two : ℕ → List Clause
    two f = fall_clause T b i xs f ∷ rise_clause T b i xs f ∷ []

    pub frame_out : satisfies v (frame_clauses T b i xs) ≡ true → Frame T before later (true_ones v xs)
    frame_out h = record {
      falls = λ f l p q. those_out (λ s. drops (step_of T s) f) xs
          (fall_out (fact_var T b i f) (fact_var T b (suc i) f) (all_pos (filter (λ x. drops (step_of T x.1) f) xs)) (and_l (clause_true v (fall_clause T b i xs f)) (satisfies v (rise_clause T b i xs f ∷ [])) (at_fact f l)) p q);
      rises = λ f l p q. those_out (λ s. has (step_of T s).sets f) xs
          (rise_out (fact_var T b i f) (fact_var T b (suc i) f) (all_pos (filter (λ x. has (step_of T x.1).sets f) xs))
          (and_l (clause_true v (rise_clause T b i xs f)) true (and_r (clause_true v (fall_clause T b i xs f)) (satisfies v (rise_clause T b i xs f ∷ [])) (at_fact f l))) p q);
    }
      where
        at_fact : (f : ℕ) → f < T.facts → satisfies v (two f) ≡ true
        at_fact f l = concat_map_out v two (up_to T.facts) h f (up_to_in f T.facts l)

    pub frame_in : Frame T before later (true_ones v xs) → satisfies v (frame_clauses T b i xs) ≡ true
    frame_in h = concat_map_in v two (up_to T.facts) (λ f m. let l = up_to_range f T.facts m in
        and_in (clause_true v (fall_clause T b i xs f)) (satisfies v (rise_clause T b i xs f ∷ []))
        (fall_in (fact_var T b i f) (fact_var T b (suc i) f) (all_pos (filter (λ x. drops (step_of T x.1) f) xs)) (λ p q. let r = h.falls f l p q in those_in (λ s. drops (step_of T s) f) xs r.0 r.1 r.2))
        (and_in (clause_true v (rise_clause T b i xs f)) true
        (rise_in (fact_var T b i f) (fact_var T b (suc i) f) (all_pos (filter (λ x. has (step_of T x.1).sets f) xs)) (λ p q. let r = h.rises f l p q in those_in (λ s. has (step_of T s).sets f) xs r.0 r.1 r.2))
        refl))

-- At most one step: the clauses say that it can be done, and what it leaves -----------------------------------------------
module _ (T : Table) (needed : NeedsIn T) (b a : State) where
  abbrev pub Does : List ℕ → Type 0
  Does l = (can T l b ≡ true) × ((f : ℕ) → f < T.facts → a f ≡ run T l b f)

  only : (P : ℕ → Type 0) (s : ℕ) → (r : ℕ) × (r ∈ (s ∷ [])) × P r → P s
  only P s (r, inl e, p) = subst P e p
  only P s (r, inr m, p) = absurd m

  pub does_out : (l : List ℕ) → length l ≤ 1 → ((s : ℕ) → s ∈ l → Effect T b a (step_of T s)) → Frame T b a l → Does l
  does_out [] h e r = (refl, λ f u. none_eq (b f) (a f) (λ p q. (r.falls f u p q).1) (λ p q. (r.rises f u p q).1))
  does_out (s ∷ []) h e r =
      let k = e s (inl refl) in (
        and_in (ready (step_of T s) b) true (all_in b (step_of T s).needs (λ f m. k.needed f (needed s f m) (has_in (step_of T s).needs f m))) refl,
        λ f u. one_eq (has (step_of T s).clears f) (has (step_of T s).sets f) (b f) (a f) (k.made f u) (k.gone f u)
            (λ p q. only (λ t. drops (step_of T t) f ≡ true) s (r.falls f u p q)) (λ p q. only (λ t. has (step_of T t).sets f ≡ true) s (r.rises f u p q)),
      )
  does_out (s ∷ t ∷ l) h e r = absurd (omega arith)

  pub does_effect : (l : List ℕ) → length l ≤ 1 → Does l → (s : ℕ) → s ∈ l → Effect T b a (step_of T s)
  does_effect [] h d s m = absurd m
  does_effect (t ∷ []) h d s (inr m) = absurd m
  does_effect (t ∷ []) h d s (inl e) = subst (λ (z : ℕ). Effect T b a (step_of T z)) (sym e) (record {
    needed = λ f u p. all_out b (step_of T t).needs (and_l (ready (step_of T t) b) true d.0) f (has_out (step_of T t).needs f p);
    made = λ f u p. d.1 f u ∙ or_l (has (step_of T t).sets f) (b f && not (has (step_of T t).clears f)) p;
    gone = λ f u p. d.1 f u ∙ gone_of (has (step_of T t).clears f) (has (step_of T t).sets f) (b f) p;
  })
  does_effect (t ∷ r ∷ l) h d s m = absurd (omega arith)

  pub does_frame : (l : List ℕ) → length l ≤ 1 → Does l → Frame T b a l
  does_frame [] h d = record {
    falls = λ f u p q. clash p (sym (d.1 f u) ∙ q);
    rises = λ f u p q. clash (sym (d.1 f u) ∙ q) p;
  }
  does_frame (s ∷ []) h d = record {
    falls = λ f u p q. (s, inl refl, falls_of (has (step_of T s).clears f) (has (step_of T s).sets f) (b f) p (sym (d.1 f u) ∙ q));
    rises = λ f u p q. (s, inl refl, rises_of (has (step_of T s).clears f) (has (step_of T s).sets f) (b f) p (sym (d.1 f u) ∙ q));
  }
  does_frame (s ∷ t ∷ l) h d = absurd (omega arith)
