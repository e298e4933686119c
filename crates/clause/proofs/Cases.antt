-- Which clause stands at a place, rule by rule and letter by letter, and what is there.
-- By cases on rule and letter.
use mathlib.Core.Path.{◌≡◌, refl, sym, ap, ◌∙◌, subst}
use mathlib.Core.Bool.{Bool, true, false, not}
use mathlib.Core.List.{List, [], ◌∷◌}
use Prim.Native.Nat.{ℕ, zero, suc, ◌+◌, ◌<◌}
use native.Mathlib.Numerals.{add-one}
use native.Mathlib.Omega.{arith}
use lib.Dec.{eqb}
use lib.ListN.{length, get_or}
use borrow.Author.Tests.{ltb-true}
use Rattle.lists.proofs.Bool.{eqb_other}
use Rattle.planning.specs.Table.{job, Table, body_of}
use Rattle.planning.specs.Place.{Place, slot, inner, root_place, nodes}
use Rattle.planning.specs.Variable.{fact_var}
use Rattle.planning.specs.Clause.{pos, neg, Clause, all_pos, var_of, literal}
use Rattle.lists.specs.List.{filter}
use Rattle.clause.specs.Parts.{moves, moved}
use Rattle.places.specs.Nest.{at}
use Rattle.places.specs.Flat.{tasks_at}
use Rattle.places.specs.ClausePlace.{root, both, body_task, inherited, start, child_at, method_at, method_var, slot_at, named_at, effect_facts, effect_place, group_at, groups_in, row_len, place_at, literals}
use Rattle.places.proofs.Valid.{Inside, inside}
use Rattle.index.specs.Index.{source}
use Rattle.index.proofs.Known.{nodes_count}
use Rattle.shape.specs.Shape.{node, Indexed, InNode, HasLetter}
use Rattle.shape.specs.Views.{source_of}
use Rattle.shape.specs.declared.encoded.Encoded.{Encoded}
use Rattle.shape.specs.declared.node.Node.{Node}
use Rattle.shape.proofs.Groups.{sizes_of}

-- there is a root
some_node : (p : Place) → 0 < nodes p
some_node (slot L) = omega arith
some_node (inner L ps) = omega arith

module _ {T : Table} {ix : List ℕ} (i : Indexed T ix) where
  pub root_there : InNode T ix 0
  root_there = record { indexed = i; there = omega (arith, nodes_count T, some_node (root_place T)) }

-- what the place names is there, and loops are short
module _ {T : Table} {ix : List ℕ} (d : Indexed T ix) {r n g : ℕ} (k : HasLetter (source T) r n g) (x y i : ℕ) (h : i < row_len (source T) r n g x y) where
  pub there : Inside (source T) r n g x y i
  there = inside (source T) r n g x y i h

  pub small : (x < 128) × (i < 128)
  small = let s = sizes_of d r n g in (omega (arith, there.in_x, s.xs), omega (arith, there.in_row, s.len x y))

-- Rule 2, at the struct of node k ------------------------------------------------------------------------------------------------
module _ {e : Encoded} {k : ℕ} (n : Node) (p : n.encoded ≡ e) (q : n.number ≡ k) (g : ℕ) where
  pub letter_there : HasLetter (source_of e) 1 k g → HasLetter (source_of n.encoded) 1 n.number g
  letter_there h = subst (λ (d : Encoded). HasLetter (source_of d) 1 n.number g) (sym p) (subst (λ (m : ℕ). HasLetter (source_of e) 1 m g) (sym q) h)

  module _ (x y i : ℕ) where
    pub row_there : i < row_len (source_of e) 1 k g x y → i < row_len (source_of n.encoded) 1 n.number g x y
    row_there h = subst (λ (d : Encoded). i < row_len (source_of d) 1 n.number g x y) (sym p) (subst (λ (m : ℕ). i < row_len (source_of e) 1 m g x y) (sym q) h)

    pub node_lits : literals (source_of n.encoded) (place_at (source_of n.encoded) (at 1 n.number g x y i))
        ≡ literals (source_of e) (place_at (source_of e) (at 1 k g x y i))
    node_lits =
        ap (λ (d : Encoded). literals (source_of d) (place_at (source_of d) (at 1 n.number g x y i))) p
        ∙ ap (λ (m : ℕ). literals (source_of e) (place_at (source_of e) (at 1 m g x y i))) q

-- Rules 1 and 3 -----------------------------------------------------------------------------------------------------------------
module _ (T : Table) (n x y i : ℕ) where
  root_at : (g : ℕ) → g < groups_in 0 → root ≡ place_at (source T) (at 0 n g x y i)
  root_at zero h = refl
  root_at (suc g) h = absurd (omega arith)

  start_at_lem : (g : ℕ) → g < groups_in 2 → start i ≡ place_at (source T) (at 2 n g x y i)
  start_at_lem zero h = refl
  start_at_lem (suc g) h = absurd (omega arith)

  fact_at : (g : ℕ) → g < groups_in 2 → i < (group_at (source T) 2 n g).len x y → i < T.facts
  fact_at zero h l = l
  fact_at (suc g) h l = absurd (omega arith)

  module _ {r g : ℕ} (h : g < groups_in r) where
    pub root_lits : {j : ℕ} → r ≡ 0 → j ≡ T.root → var_of (job j) (tasks_at (node T 0)) ≡ literals (source T) (place_at (source T) (at r n g x y i))
    root_lits e q = rw (q, e) (ap (literals (source T)) (root_at g (rw e at h)))

    pub start_lits : r ≡ 2 → literals (source T) (start i) ≡ literals (source T) (place_at (source T) (at r n g x y i))
    start_lits e = rw e (ap (literals (source T)) (start_at_lem g (rw e at h)))

    pub start_fact : r ≡ 2 → i < (group_at (source T) r n g).len x y → i < T.facts
    start_fact e l = fact_at g (rw e at h) (rw e at l)

-- the last rule
pub rule_four : (r : ℕ) → r < 4 → (r ≡ 0 → ⊥) → (r ≡ 1 → ⊥) → (r ≡ 2 → ⊥) → r ≡ 3
rule_four zero h a b c = absurd (a refl)
rule_four (suc zero) h a b c = absurd (b refl)
rule_four (suc (suc zero)) h a b c = absurd (c refl)
rule_four (suc (suc (suc zero))) h a b c = refl
rule_four (suc (suc (suc (suc r)))) h a b c = absurd (omega arith)

-- (a) and (b): the variable that comes i + 1 behind another
pub behind : {w : ℕ} (b x i : ℕ) → w ≡ b + (x + (i + 1)) → w ≡ b + (x + suc i)
behind b x i e = omega (arith, e)

-- (e) and (f) -------------------------------------------------------------------------------------------------------------------
module _ (T : Table) (n x y i : ℕ) where
  pub body_named : {b : Bool} → b ≡ named_at T (node T n) x y → b ≡ true → body_task n x y ≡ place_at (source T) (at 1 n 4 x y i)
  body_named e t = rw (← e, t)

  pub body_name : {b : Bool} → b ≡ named_at T (node T n) x y → b ≡ true → y < length (body_of T (method_at (node T n) x))
  body_name e t = ltb-true y (length (body_of T (method_at (node T n) x))) (sym e ∙ t)

  pub body_other : {b : Bool} → b ≡ named_at T (node T n) x y → b ≡ false
      → both (method_var (node T n) x) ((child_at (node T n) y).first + i) ≡ place_at (source T) (at 1 n 4 x y i)
  body_other e t = rw (← e, t)

  pub pass_first : y ≡ 0 → inherited n x ≡ place_at (source T) (at 1 n 5 x y i)
  pass_first e = rw e

  pub pass_other : (y ≡ 0 → ⊥) → both ((node T n).first + x) ((child_at (node T n) y).first + i) ≡ place_at (source T) (at 1 n 5 x y i)
  pass_other u = rw (eqb_other y 0 u)

-- Rule 4 ------------------------------------------------------------------------------------------------------------------------
before_at : (T : Table) (n v f y : ℕ) → y ≡ 0 → neg v ∷ pos (fact_var T (source T).facts n f) ∷ []
    ≡ literals (source T) (effect_place T (source T).facts n v y f)
before_at T n v f zero e = refl
before_at T n v f (suc y) e = absurd (omega arith)

after_at : (T : Table) (n v f y : ℕ) → y < 3 → (y ≡ 0 → ⊥)
    → neg v ∷ literal (eqb y 1) (fact_var T (source T).facts (suc n) f) ∷ [] ≡ literals (source T) (effect_place T (source T).facts n v y f)
after_at T n v f zero h u = absurd (u refl)
after_at T n v f (suc zero) h u = refl
after_at T n v f (suc (suc zero)) h u = refl
after_at T n v f (suc (suc (suc y))) h u = absurd (omega arith)

module _ (T : Table) (n x y i : ℕ) {v s f w : ℕ} (p : v ≡ (get_or (slot_at (source T) n) x (0, 0)).0) (q : s ≡ (get_or (slot_at (source T) n) x (0, 0)).1)
    (e : f ≡ get_or (effect_facts T s y) i 0) where
  pub effect_before : y ≡ 0 → w ≡ fact_var T (source T).facts n f → neg v ∷ pos w ∷ [] ≡ literals (source T) (place_at (source T) (at 3 n 0 x y i))
  effect_before h l = rw (l, e, p, q) (before_at T n (get_or (slot_at (source T) n) x (0, 0)).0
      (get_or (effect_facts T (get_or (slot_at (source T) n) x (0, 0)).1 y) i 0) y h)

  pub effect_after : y < 3 → (y ≡ 0 → ⊥) → w ≡ fact_var T (source T).facts (n + 1) f
      → neg v ∷ literal (eqb y 1) w ∷ [] ≡ literals (source T) (place_at (source T) (at 3 n 0 x y i))
  effect_after h u l = rw (l, add-one n, e, p, q) (after_at T n (get_or (slot_at (source T) n) x (0, 0)).0
      (get_or (effect_facts T (get_or (slot_at (source T) n) x (0, 0)).1 y) i 0) y h u)

-- a fact before and after the slot, then the steps
module _ (T : Table) (n f : ℕ) where
  abbrev pub movers : Bool → Clause
  movers up = all_pos (filter (λ (x : ℕ × ℕ). moves T up f x.1) (slot_at (source T) n))

  same_frame : (up : Bool) → literal up (fact_var T (source T).facts n f) ∷ literal (not up) (fact_var T (source T).facts (suc n) f) ∷ movers up
      ≡ literals (source T) (moved up n f)
  same_frame true = refl
  same_frame false = refl

  pub frame_lits : {v w : ℕ} (up : Bool) → v ≡ fact_var T (source T).facts n f → w ≡ fact_var T (source T).facts (n + 1) f
      → literal up v ∷ literal (not up) w ∷ movers up ≡ literals (source T) (moved up n f)
  frame_lits up p q = rw (p, q, add-one n) (same_frame up)
