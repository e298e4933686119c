-- Demand 3, for every sound table. Two promises are used: the root is a job of the table, and a step needs facts of the table alone.
-- Rules 1 and 2 give the tree, rules 3 and 4 the states; they meet in the steps at the slots.
use mathlib.Core.Path.{◌≡◌, refl, sym, ap, ◌∙◌, subst}
use mathlib.Core.Bool.{Bool, true, false}
use mathlib.Core.List.{List, ◌∷◌, ◌++◌}
use mathlib.Core.Logic.{◌↔◌}
use mathlib.Core.Option.{Option, none, some}
use Prim.Native.Nat.{ℕ, suc, ◌+◌, ◌-◌, ◌*◌, ◌≤◌, ◌<◌}
use native.Mathlib.Nat.{zero-add}
use native.Mathlib.Omega.{arith}
use native.Mathlib.Decide.{dec_lt}
use lib.ListN.{length, take, length-append, get_or-append}
use lib.Seq.{ext_get_or, get_or-append-add}
use Rattle.lists.proofs.Bool.{some_inj}
use Rattle.planning.specs.Table.{job, Table}
use Rattle.planning.specs.Tree.{Tree, top, height, TreeOf, State, initial, run, can}
use Rattle.planning.specs.Variable.{node_vars, slots, fact_var, first_fact_var}
use Rattle.planning.specs.Clause.{Clause, rule3, rule4}
use Rattle.planning.specs.Model.{Valuation, satisfies, value, Model, chosen, given, Gives}
use Rattle.planning.specs.Demand3.{Wanted, Demand3, EqualAtEvery, GiveSame, GivenByAModel, ForEverySoundTable}
use Rattle.planning.proofs.Tree.{same_tree_equal}
use Rattle.planning.proofs.Satisfy.{list_of, slot_steps, sat_l, sat_r, sat_in}
use Rattle.planning.proofs.Trees.Whole.{tree_formula, tree_of, gives_a_tree, same_tree, every_tree, steps_in_order, one_at_a_slot}
use Rattle.planning.proofs.Facts.Run.{NeedsIn, needs_in}
use Rattle.planning.proofs.Facts.Whole.{AtMostOne, States, facts_out, facts_in_lem}
use Rattle.planning.proofs.Facts.Boundaries.{grid, grid_length, grid_get, grid_at, taken_steps_agree}

module _ (T : Table) (needed : NeedsIn T) where
  abbrev b : ℕ
  b = first_fact_var T

  abbrev fact_formula : List Clause
  fact_formula = rule3 T b ++ rule4 T b 0 (slots T)

  tree_part : (vs : List Bool) → Model T vs → satisfies (value vs) (tree_formula T) ≡ true
  tree_part vs m = sat_l (value vs) (tree_formula T) fact_formula m.true_clauses

  one_at_each : (v : Valuation) → satisfies v (tree_formula T) ≡ true → AtMostOne v (slots T)
  one_at_each v s xs m = rw (one_at_a_slot T v s xs m).1 (at_most_one (chosen v xs))
    where
      at_most_one : (o : Option ℕ) → length (list_of o) ≤ 1
      at_most_one none = omega arith
      at_most_one (some s) = omega arith

  -- a model does the steps at its slots, and its boundaries are the states passed through
  does : (vs : List Bool) → Model T vs → (can T (slot_steps (value vs) (slots T)) (initial T) ≡ true) × States T (value vs) b (slots T)
  does vs m =
      facts_out T needed (value vs) b (slots T) (one_at_each (value vs) (tree_part vs m))
      (sat_r (value vs) (tree_formula T) fact_formula m.true_clauses)

  -- the tree that a model gives, with what rule 1 and the depth add
  gives_all : T.root < T.jobs → (vs : List Bool) → Model T vs
      → (t : Tree) × Gives T vs t × (top t ≡ job T.root) × TreeOf T t × (height t ≤ T.depth)
  gives_all h vs m = gives_a_tree T h (value vs) (tree_part vs m)

  -- Two models that give one tree ------------------------------------------------------------------------------------------
  module _ (vs ws : List Bool) (m : Model T vs) (k : Model T ws) where
    nodes_agree : given T vs ≡ given T ws → (n : ℕ) → 1 ≤ n → n < 1 + node_vars T → value vs n ≡ value ws n
    nodes_agree e = (same_tree T (value vs) (value ws) (tree_part vs m) (tree_part ws k)).1 e

    facts_agree : given T vs ≡ given T ws → (i f : ℕ) → i ≤ length (slots T) → f < T.facts → value vs (fact_var T b i f) ≡ value ws (fact_var T b i f)
    facts_agree e i f h l =
        (does vs m).1 i f h l
        ∙ (ap (λ (ss : List ℕ). run T ss (initial T) f) (taken_steps_agree T (value vs) (value ws) (nodes_agree e) i) ∙ sym ((does ws k).1 i f h l))

    -- a variable is a node's, or a fact's at some boundary
    agree : given T vs ≡ given T ws → EqualAtEvery T vs ws
    agree e n h l = go (dec_lt n (1 + node_vars T))
      where
        at_fact : (i f : ℕ) → i < suc (length (slots T)) → f < T.facts → n - 1 - node_vars T ≡ i * T.facts + f → node_vars T < n → value vs n ≡ value ws n
        at_fact i f p q z u = let y : n ≡ fact_var T b i f = omega arith in rw y (facts_agree e i f (omega arith) q)

        go : Dec (n < 1 + node_vars T) → value vs n ≡ value ws n
        go (yes q) = nodes_agree e n h q
        go (no u) =
            let r = grid_at (suc (length (slots T))) T.facts (n - 1 - node_vars T) (omega arith) in
            at_fact r.0 r.1 r.2 r.3 r.4 (omega arith)

    -- and equal values give equal trees, since there are no others
    equal_lists : EqualAtEvery T vs ws → vs ≡ ws
    equal_lists e = ext_get_or false vs ws (m.whole ∙ sym k.whole) (λ i h. e (suc i) (omega arith) (omega (arith, m.whole)))

    apart_of : T.root < T.jobs → EqualAtEvery T vs ws ↔ GiveSame T vs ws
    apart_of h = (
      λ e. let r = gives_all h vs m in
          record { one = r.0; other = r.0; gives_one = r.1; gives_other = ap (given T) (sym (equal_lists e)) ∙ r.1; same = (same_tree_equal r.0 r.0).1 refl },
      λ g. agree (g.gives_one ∙ (ap (λ (t : Tree). some t) ((same_tree_equal g.one g.other).0 g.same) ∙ sym g.gives_other)),
    )

  -- The trees that are given -----------------------------------------------------------------------------------------------
  wanted : T.root < T.jobs → (t : Tree) (vs : List Bool) → Model T vs → Gives T vs t → Wanted T t
  wanted h t vs m g =
      let r = gives_all h vs m in
      let z : r.0 ≡ t = some_inj (sym r.1 ∙ g) in
      record {
        starts = ap top (sym z) ∙ r.2;
        low = subst (λ (u : Tree). height u ≤ T.depth) z r.4;
        doable = subst (λ (ss : List ℕ). can T ss (initial T) ≡ true) (steps_in_order T (value vs) (tree_part vs m) t g) (does vs m).0;
      }

  -- for a tree that is wanted: the values of the nodes, us, and behind them the states passed through
  module _ (us : List Bool) (len : length us ≡ node_vars T) where
    state : ℕ → State
    state i f = run T (slot_steps (value us) (take i (slots T))) (initial T) f

    more : List Bool
    more = grid state T.facts 0 (suc (length (slots T)))

    v : Valuation
    v = value (us ++ more)

    before : (n : ℕ) → 1 ≤ n → n < 1 + node_vars T → value us n ≡ v n
    unfolding v
    before n h l = sym (get_or-append (false ∷ us) more false n (omega arith))

    behind : (i f : ℕ) → i ≤ length (slots T) → f < T.facts → v (fact_var T b i f) ≡ state i f
    unfolding v more
    behind i f h l =
        let z : fact_var T b i f ≡ length (false ∷ us) + (i * T.facts + f) = omega arith in
        rw z (get_or-append-add (false ∷ us) more (i * T.facts + f) false ∙ (grid_get state T.facts 0 (suc (length (slots T))) i f (omega arith) l ∙ ap (λ (k : ℕ). state k f) (zero-add i)))

    states : States T v b (slots T)
    unfolding state
    states i f h l = behind i f h l ∙ ap (λ (ss : List ℕ). run T ss (initial T) f) (taken_steps_agree T (value us) v before i)

    more_length : length more ≡ suc (length (slots T)) * T.facts
    unfolding more
    more_length = grid_length state T.facts 0 (suc (length (slots T)))

    model : (t : Tree) → Wanted T t → satisfies v (tree_formula T) ≡ true → tree_of T v ≡ some t → Model T (us ++ more)
    unfolding v
    model t h s g = record {
      whole = length-append us more ∙ omega (arith, more_length);
      true_clauses = sat_in v (tree_formula T) fact_formula s
          (facts_in_lem T needed v b (slots T) (one_at_each v s) (subst (λ (ss : List ℕ). can T ss (initial T) ≡ true) (sym (steps_in_order T v s t g)) h.doable) states);
    }

  model_of : (t : Tree) → TreeOf T t → Wanted T t → GivenByAModel T t
  unfolding v
  model_of t w h =
      let r = every_tree T t w h.starts h.low in
      let k = r.2 (more r.0 r.1) in
      record { values = r.0 ++ more r.0 r.1; model = model r.0 r.1 t h k.0 k.1; gives = k.1 }

  demand3_of : T.root < T.jobs → Demand3 T
  demand3_of h = record {
    gives = λ vs m. let r = gives_all h vs m in (r.0, r.1, r.3);
    apart = λ vs ws m k. apart_of vs ws m k h;
    exact = λ t w. (λ r. wanted h t r.values r.model r.gives, model_of t w);
  }

pub demand3 : ForEverySoundTable
demand3 T s = demand3_of T (needs_in T s.steps) s.root
