-- Nodes, slots and children by number, and the literal of a task at a node.
-- By recursion on the records before it.
use mathlib.Core.Path.{◌≡◌, refl, sym, ap, ap₂, ◌∙◌}
use mathlib.Core.Bool.{Bool, true, false, cond}
use mathlib.Core.List.{List, [], ◌∷◌, map}
use mathlib.Core.Logic.{◌⊎◌, inl, inr}
use Prim.Native.Nat.{ℕ, zero, suc, ◌+◌, ◌<◌}
use native.Mathlib.Omega.{arith}
use lib.ListN.{length, get_or, take, drop}
use lib.Dec.{eqb}
use Rattle.lists.specs.List.{cons_if, filter, number, has, Every, Rising}
use Rattle.lists.proofs.Bool.{bool_cases, eqb_sound}
use Rattle.planning.specs.Table.{Task, step, job, same, Table}
use Rattle.planning.specs.Record.{Record}
use Rattle.planning.specs.Clause.{pos, all_pos, var_of}
use Rattle.places.specs.Flat.{inner, own, own_all, child_of, children_from, node_of, nodes_from, tasks_from, slots_from, Node}
use Rattle.places.specs.ClausePlace.{no_node, no_child, child_at}
use Rattle.places.specs.Lookup.{record_at, first_var, slots_in, ChildIn, rank, lit_if}
use Rattle.places.proofs.Rank.{one_if, filter_number}
use Rattle.lists.proofs.Member.{in_get_d}
use Rattle.lists.proofs.Every.{every_out}
use Rattle.planning.proofs.Record.{LabelIn}

module _ (T : Table) where
  same_node : (r : Record) (rs : List Record) {n n' b b' : ℕ} → n ≡ n' → b ≡ b' → node_of T n b r rs ≡ node_of T n' b' r rs
  same_node r rs p q = rw (p, q)

  node_from : (rs : List Record) (k n b : ℕ) → k < length rs → get_or (nodes_from T n b rs) k no_node ≡ node_of T (n + k) (b + own_all T (take k rs)) (record_at rs k) (drop (suc k) rs)
  node_from [] k n b h = absurd (omega arith)
  node_from (r ∷ rs) zero n b h = same_node r rs (omega arith) (omega arith)
  node_from (r ∷ rs) (suc k) n b h = node_from rs k (suc n) (b + own T r) (omega arith) ∙ same_node (record_at rs k) (drop (suc k) rs) (omega arith) (omega arith)

  -- node n
  pub node_at_lem : (rs : List Record) (n : ℕ) → n < length rs → get_or (nodes_from T 0 1 rs) n no_node ≡ node_of T n (first_var T rs n) (record_at rs n) (drop (suc n) rs)
  node_at_lem rs n h = node_from rs n 0 1 h ∙ same_node (record_at rs n) (drop (suc n) rs) (omega arith) (omega arith)

  pub nodes_length : (rs : List Record) (n b : ℕ) → length (nodes_from T n b rs) ≡ length rs
  nodes_length [] n b = refl
  nodes_length (r ∷ rs) n b = ap suc (nodes_length rs (suc n) (b + own T r))

  pub slots_length : (rs : List Record) (b : ℕ) → length (slots_from T b rs) ≡ slots_in T rs
  slots_length [] b = refl
  slots_length (r ∷ rs) b = go (inner T r) (slots_length rs (b + own T r))
    where
      go : (i : Bool) → length (slots_from T (b + own T r) rs) ≡ slots_in T rs
          → length (cond i (slots_from T (b + own T r) rs) (number b r.label.steps ∷ slots_from T (b + own T r) rs)) ≡ cond i 0 1 + slots_in T rs
      go true q = omega arith
      go false q = omega arith

  -- one node on
  pub first_next : (rs : List Record) (n : ℕ) → n < length rs → first_var T rs (suc n) ≡ first_var T rs n + own T (record_at rs n)
  first_next [] n h = absurd (omega arith)
  first_next (r ∷ rs) zero h = omega arith
  first_next (r ∷ rs) (suc n) h = omega (arith, first_next rs n (omega arith))

  -- children
  below : (rs : List Record) (n : ℕ) (r : Record) (qs : List Record) → drop n rs ≡ r ∷ qs → (n < length rs) × (record_at rs n ≡ r) × (drop (suc n) rs ≡ qs)
  below [] zero r qs e = let z : ◌≡◌ {A = ℕ} 0 1 = cc in absurd (omega arith)
  below [] (suc n) r qs e = let z : ◌≡◌ {A = ℕ} 0 1 = cc in absurd (omega arith)
  below (p ∷ ps) zero r qs e = (omega arith, (cc), (cc))
  below (p ∷ ps) (suc n) r qs e = let b = below ps n r qs e in (omega (arith, b.0), b.1, b.2)

  pub children_known : (rs : List Record) (u : ℕ) (qs : List Record) (k n b : ℕ) → drop n rs ≡ qs → b ≡ first_var T rs n → Every (ChildIn T rs u) (children_from T u k n b qs)
  children_known rs u [] zero n b e q = tt
  children_known rs u [] (suc k) n b e q = tt
  children_known rs u (r ∷ qs) zero n b e q = tt
  children_known rs u (r ∷ qs) (suc k) n b e q =
      let w = below rs n r qs e in
      let f : b + own T r ≡ first_var T rs (suc n) = sym (first_next rs n w.0 ∙ ap₂ (λ c p. c + own T p) (sym q) w.1) in
      go (bool_cases (eqb r.parent u)) w.0 w.1
      (children_known rs u qs k (suc n) (b + own T r) w.2 f)
      (children_known rs u qs (suc k) (suc n) (b + own T r) w.2 f)
    where
      go : (eqb r.parent u ≡ true) ⊎ (eqb r.parent u ≡ false) → n < length rs → record_at rs n ≡ r
          → Every (ChildIn T rs u) (children_from T u k (suc n) (b + own T r) qs) → Every (ChildIn T rs u) (children_from T u (suc k) (suc n) (b + own T r) qs)
          → Every (ChildIn T rs u) (children_from T u (suc k) n b (r ∷ qs))
      go (inl y) l m h k = rw y (
        record {
          inside = l;
          parent = ap (λ (p : Record). p.parent) m ∙ eqb_sound r.parent u y;
          all = ap₂ (λ c p. child_of T n c p) q (sym m);
        },
        h,
      )
      go (inr y) l m h k = rw y k

-- A task's variable among a node's: its place in the rising set ---------------------------------------------------------------
one_lit : (t : Bool) (v s : ℕ) → all_pos (one_if t v s) ≡ lit_if t v
one_lit true v s = refl
one_lit false v s = refl

jobs_lit : (b j : ℕ) (js : List ℕ) → var_of (job j) (number b (map job js)) ≡ all_pos (filter (λ (x : ℕ × ℕ). eqb j x.1) (number b js))
jobs_lit b j [] = refl
jobs_lit b j (x ∷ js) = go (eqb j x) (jobs_lit (suc b) j js)
  where
    go : (t : Bool) → var_of (job j) (number (suc b) (map job js)) ≡ all_pos (filter (λ (y : ℕ × ℕ). eqb j y.1) (number (suc b) js))
        → all_pos (cons_if t (b, job x) (filter (λ (y : ℕ × Task). same (job j) y.1) (number (suc b) (map job js))))
        ≡ all_pos (cons_if t (b, x) (filter (λ (y : ℕ × ℕ). eqb j y.1) (number (suc b) js)))
    go true h = ap (λ l. pos b ∷ l) h
    go false h = h

steps_lit : (b s : ℕ) (ss js : List ℕ) → var_of (step s) (tasks_from b ss js) ≡ all_pos (filter (λ (x : ℕ × ℕ). eqb s x.1) (number b ss))
steps_lit b s [] [] = refl
steps_lit b s [] (j ∷ js) = steps_lit (suc b) s [] js
steps_lit b s (x ∷ ss) js = go (eqb s x) (steps_lit (suc b) s ss js)
  where
    go : (t : Bool) → var_of (step s) (tasks_from (suc b) ss js) ≡ all_pos (filter (λ (y : ℕ × ℕ). eqb s y.1) (number (suc b) ss))
        → all_pos (cons_if t (b, step x) (filter (λ (y : ℕ × Task). same (step s) y.1) (tasks_from (suc b) ss js)))
        ≡ all_pos (cons_if t (b, x) (filter (λ (y : ℕ × ℕ). eqb s y.1) (number (suc b) ss)))
    go true h = ap (λ l. pos b ∷ l) h
    go false h = h

pub step_lit : (k n b : ℕ) (ss js : List ℕ) (s : ℕ) → Rising k n ss → var_of (step s) (tasks_from b ss js) ≡ lit_if (has ss s) (b + rank ss s)
step_lit k n b ss js s r = steps_lit b s ss js ∙ (ap all_pos (filter_number k n b ss s r) ∙ one_lit (has ss s) (b + rank ss s) s)

pub job_lit : (k n b : ℕ) (ss js : List ℕ) (j : ℕ) → Rising k n js → var_of (job j) (tasks_from b ss js) ≡ lit_if (has js j) (b + length ss + rank js j)
job_lit k n b [] js j r =
    jobs_lit b j js ∙ (ap all_pos (filter_number k n b js j r) ∙ (one_lit (has js j) (b + rank js j) j ∙ ap (lit_if (has js j)) (omega arith)))
job_lit k n b (s ∷ ss) js j r = job_lit k n (suc b) ss js j r ∙ ap (lit_if (has js j)) (omega arith)

-- Nodes and their children, from the records ------------------------------------------------------------------------------------
pub every_at : {A : Type 0} (P : A → Type 0) (xs : List A) (d : A) (i : ℕ) → Every P xs → i < length xs → P (get_or xs i d)
every_at P xs d i h l = every_out P xs h (get_or xs i d) (in_get_d i xs d l)

module _ (T : Table) (rs : List Record) (labels : Every (λ (r : Record). LabelIn T r.label) rs) where
  -- node n as its record and its first variable have it
  abbrev pub node_in : ℕ → Node
  node_in n = node_of T n (first_var T rs n) (record_at rs n) (drop (suc n) rs)

  module _ (n : ℕ) (inside : n < length rs) where
    -- child y, with its number
    pub child_in : (y : ℕ) → y < length (node_in n).children → ChildIn T rs n (child_at (node_in n) y)
    child_in y h = every_at (ChildIn T rs n) (node_in n).children no_child y
        (children_known T rs n (drop (suc n) rs) (record_at rs n).children (suc n) _ refl (sym (first_next T rs n inside))) h
