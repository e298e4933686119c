-- Rows that values satisfy whole: what a few variables tell of every clause of a row.
-- By the literals of the clause, letter by letter.
use mathlib.Core.Path.{◌≡◌, refl, sym, ap, ◌∙◌}
use mathlib.Core.Bool.{Bool, true, false, ◌||◌, beq, cond}
use mathlib.Core.List.{List, [], ◌∷◌, map, ◌++◌}
use mathlib.Core.Logic.{◌⊎◌, inl, inr}
use Prim.Native.Nat.{ℕ, zero, suc, ◌+◌, ◌<◌}
use native.Mathlib.Numerals.{add-one}
use native.Mathlib.Omega.{arith}
use lib.Dec.{eqb}
use lib.ListN.{length, get_or}
use Rattle.lists.specs.List.{any, number, from}
use Rattle.lists.proofs.Bool.{or_l, or_r}
use Rattle.lists.proofs.Member.{any_append}
use Rattle.planning.specs.Table.{step, job, Table}
use Rattle.planning.specs.Variable.{fact_var}
use Rattle.planning.specs.Clause.{neg, all_pos}
use Rattle.planning.specs.Model.{Valuation, lit_true, clause_true}
use Rattle.planning.proofs.Task.{length_tasks}
use Rattle.places.specs.Flat.{Child, Node, tasks_at}
use Rattle.places.specs.Nest.{at}
use Rattle.places.specs.ClausePlace.{Source, both, body_task, inherited, fall, rise, child_at, width as childWidth, tasks_n, method_var, named_at, slot_at, effect_place, up_lits, literals, place_at, node_at, row_len}
use Rattle.places.proofs.Valid.{Inside, inside}
use Rattle.index.specs.Index.{source}
use Rattle.shape.specs.Shape.{node, Indexed, InNode}
use Rattle.shape.proofs.Groups.{part_two}
use Rattle.shape.proofs.Nodes.{child_known, few_slots}
use Rattle.cursor.specs.Cursor.{Holds}
use Rattle.cursor.specs.declared.Cursor.{Cursor}
use Rattle.model.specs.Clauses.{RowTrue}
use Rattle.model.proofs.Values.{each_off}

-- What is there at a clause's place --------------------------------------------------------------------------------------------------
module _ {T : Table} {ix : List ℕ} {c : Cursor} (i : Indexed T ix) (h : Holds T c) where
  within : Inside (source T) c.rule c.node c.group c.x c.y c.i
  within = inside (source T) c.rule c.node c.group c.x c.y c.i h.clause

  pub node_of : c.rule ≡ 1 → c.node < length (source T).nodes
  node_of r = rw r at h.stands.node

  pub child_of : c.rule ≡ 1 → c.group ≡ 6 → c.x < length (node T c.node).children
  child_of r g = rw (r, g) at within.in_x

  module _ (r : c.rule ≡ 3) where
    pub slot_of : c.node < length (source T).slots
    slot_of = rw r at h.stands.node

    pub slot_low : c.node < 1024
    slot_low = omega (arith, slot_of, few_slots T i.accepted)

    pub step_of : c.group ≡ 0 → c.x < length (slot_at (source T) c.node)
    step_of g = rw (r, g) at within.in_x

    pub effect_of : c.group ≡ 0 → c.y < 3
    effect_of g = rw (r, g) at within.in_y

    pub frame_of : (c.group ≡ 0 → ⊥) → c.group ≡ 1
    frame_of u = part_two c.group (rw r at h.stands.group) u

    pub fact_of : (c.group ≡ 0 → ⊥) → c.x < 64
    fact_of u = omega (arith, rw (r, frame_of u) at within.in_x, i.accepted.limits.facts)

-- what `a == b` tells of two values
pub same_values : {a b s t : Bool} → a ≡ s → b ≡ t → beq a b ≡ true → s ≡ t
same_values {a} {b} p q e = sym p ∙ go a b e ∙ q
  where
    go : (a b : Bool) → beq a b ≡ true → a ≡ b
    go true true e = refl
    go true false e = sym e
    go false true e = e
    go false false e = refl

-- One clause -----------------------------------------------------------------------------------------------------------------------
module _ (S : Source) (v : Valuation) (n x : ℕ) where
  -- (f) and (e): all begin with the step's variable, or with the method's
  pass_clause : v ((node_at S n).first + x) ≡ false → (b : Bool) (w : ℕ) → clause_true v (literals S (cond b (inherited n x) (both ((node_at S n).first + x) w))) ≡ true
  pass_clause off true w = rw off
  pass_clause off false w = rw off

  body_clause : v (method_var (node_at S n) x) ≡ false → (b : Bool) (y w : ℕ) → clause_true v (literals S (cond b (body_task n x y) (both (method_var (node_at S n) x) w))) ≡ true
  body_clause off true y w = rw off
  body_clause off false y w = rw off

  -- effects begin with the step's variable
  effect_clause : (u f : ℕ) → v u ≡ false → (y : ℕ) → y < 3 → clause_true v (literals S (effect_place S.table S.facts n u y f)) ≡ true
  effect_clause u f off zero h = rw off
  effect_clause u f off (suc zero) h = rw off
  effect_clause u f off (suc (suc zero)) h = rw off
  effect_clause u f off (suc (suc (suc y))) h = absurd (omega arith)

  -- a fact that is the same before and after neither falls nor rises
  frame_clause : (t : Bool) → v (fact_var S.table S.facts n x) ≡ t → v (fact_var S.table S.facts (suc n) x) ≡ t → (b : Bool) → clause_true v (literals S (cond b (fall n x) (rise n x))) ≡ true
  frame_clause true p q true = rw (p, q)
  frame_clause true p q false = rw p
  frame_clause false p q true = rw p
  frame_clause false p q false = rw (p, q)

-- (g): the node's tasks, then one that is negated
module _ (v : Valuation) where
  any_pos : {A : Type 0} (b : ℕ) (xs : List A) → clause_true v (all_pos (number b xs)) ≡ any v (from b (length xs))
  any_pos b [] = refl
  any_pos b (x ∷ xs) = ap (λ (t : Bool). v b || t) (any_pos (suc b) xs)

  up_clause : (N : Node) (w : ℕ) → clause_true v (up_lits N w) ≡ (any v (from N.first (tasks_n N)) || clause_true v (neg w ∷ []))
  up_clause N w =
      any_append (lit_true v) (all_pos (tasks_at N)) (neg w ∷ [])
      ∙ ap (λ (t : Bool). t || clause_true v (neg w ∷ [])) (any_pos N.first (map step N.steps ++ map job N.jobs) ∙ ap (λ (k : ℕ). any v (from N.first k)) (length_tasks N.steps N.jobs))

-- A row ------------------------------------------------------------------------------------------------------------------------------
module _ {T : Table} {v : Valuation} {c : Cursor} where
  -- u begins every clause
  module _ {u : ℕ} (off : v u ≡ false) where
    pub own_row : c.rule ≡ 1 → (c.group ≡ 0) ⊎ (c.group ≡ 5) → u ≡ (node T c.node).first + c.x → RowTrue T v c
    own_row r g e = record { satisfied = λ j h. go j g (rw e at off) }
      where
        go : (j : ℕ) → (c.group ≡ 0) ⊎ (c.group ≡ 5) → v ((node T c.node).first + c.x) ≡ false
            → clause_true v (literals (source T) (place_at (source T) (at c.rule c.node c.group c.x c.y j))) ≡ true
        go j (inl z) o = rw (r, z, o)
        go j (inr z) o = rw (r, z) (pass_clause (source T) v c.node c.x o (eqb c.y 0) _)

    pub method_row : c.rule ≡ 1 → (c.group ≡ 1) ⊎ (c.group ≡ 4) → u ≡ method_var (node T c.node) c.x → RowTrue T v c
    method_row r g e = record { satisfied = λ j h. go j g (rw e at off) }
      where
        go : (j : ℕ) → (c.group ≡ 1) ⊎ (c.group ≡ 4) → v (method_var (node T c.node) c.x) ≡ false
            → clause_true v (literals (source T) (place_at (source T) (at c.rule c.node c.group c.x c.y j))) ≡ true
        go j (inl z) o = rw (r, z, o)
        go j (inr z) o = rw (r, z) (body_clause (source T) v c.node c.x o (named_at T (node T c.node) c.x c.y) c.y _)

    pub effect_row : c.rule ≡ 3 → c.group ≡ 0 → c.y < 3 → u ≡ (get_or (slot_at (source T) c.node) c.x (0, 0)).0 → RowTrue T v c
    effect_row r g l e = record { satisfied = λ j h. rw (r, g) (effect_clause (source T) v c.node c.x (get_or (slot_at (source T) c.node) c.x (0, 0)).0 _ (rw e at off) c.y l) }

  pub frame_row : {a b : ℕ} → c.rule ≡ 3 → c.group ≡ 1 → a ≡ fact_var T (source T).facts c.node c.x → b ≡ fact_var T (source T).facts (c.node + 1) c.x → v a ≡ v b
      → RowTrue T v c
  frame_row {a} {b} r g p q e = record {
    satisfied = λ j h.
        rw (r, g) (frame_clause (source T) v c.node c.x (v b) (ap v (sym p) ∙ e) (ap v (sym (rw (add-one c.node) at q))) (eqb j 0));
  }

  module _ (r : c.rule ≡ 1) (g : c.group ≡ 6) where
    pub up_node : any v (from (node T c.node).first (tasks_n (node T c.node))) ≡ true → RowTrue T v c
    up_node e = record { satisfied = λ j h. rw (r, g) (up_clause v (node T c.node) _ ∙ or_l _ _ e) }

    pub up_child : {ix : List ℕ} {m : ℕ} → Indexed T ix → c.node < length (source T).nodes → c.x < length (node T c.node).children → m ≡ (child_at (node T c.node) c.x).node
        → any v (from (node T m).first (tasks_n (node T m))) ≡ false → RowTrue T v c
    up_child {ix} {m} i t l q e = record { satisfied = λ j h. rw (r, g) (up_clause v (node T c.node) (C.first + j) ∙ or_r (any v (from (node T c.node).first (tasks_n (node T c.node)))) (clause_true v (neg (C.first + j) ∷ [])) (rw (off j (width j h)))) }
      where
        C : Child
        C = child_at (node T c.node) c.x

        width : (j : ℕ) → j < row_len (source T) c.rule c.node c.group c.x c.y → j < childWidth C
        width j h = (inside (source T) 1 c.node 6 c.x c.y j (rw (r, g) at h)).in_row

        off : (j : ℕ) → j < childWidth C → v (C.first + j) ≡ false
        off j h = let n : InNode T ix c.node = record { indexed = i; there = t } in let k = child_known n c.x l in each_off v C.first (childWidth C) (rw (k.first, k.steps, k.jobs, ← q) e) j h
