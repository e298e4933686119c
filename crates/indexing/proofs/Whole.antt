-- The parts of a node one after the other, the parts of the whole index, and how long each of them can be.
-- By joining lists, and by recursion on the records.
use mathlib.Core.Path.{◌≡◌, refl, sym, ap, ap₂, ◌∙◌}
use mathlib.Core.List.{List, [], ◌∷◌, ◌++◌, append_assoc}
use Prim.Native.Nat.{ℕ, suc, ◌+◌, ◌*◌, ◌≤◌}
use native.Mathlib.Omega.{arith}
use lib.ListN.{length, get_or, length-append}
use Rattle.lists.specs.List.{concat_map}
use Rattle.lists.specs.Written.{Wrote}
use Rattle.lists.proofs.Written.{wrote_append, wrote_same}
use Rattle.planning.specs.Table.{Table}
use Rattle.planning.specs.Place.{methods_of}
use Rattle.planning.specs.Record.{Record, records}
use Rattle.places.specs.Flat.{own, own_all, jobs_at, methods_at, nodes_from}
use Rattle.places.proofs.Records.{slots_records, vars_records}
use Rattle.planning.specs.Variable.{node_vars}
use Rattle.tree.specs.Visit.{members_in, Counted, node_total, slot_total}
use Rattle.tree.specs.declared.Count.{Count}
use Rattle.index.specs.Index.{word_of, node_words, meanings, slot_nodes, source, index_of}
use Rattle.index.proofs.Known.{nodes_count, nodes_end}
use Rattle.index.proofs.Looked.{slots_long}
use Rattle.indexing.specs.Stands.{Stands, AtNode, node, set_words, count_words, child_words}
use Rattle.indexing.proofs.Nodes.{children_word, steps_in_lem, jobs_in_lem, methods_in_lem, steps_same, step_count, job_count, method_count}

-- A node -----------------------------------------------------------------------------------------------------------------------------
module _ {T : Table} {ws : List ℕ} {n : ℕ} (t : AtNode T ws n) where
  pub sets_put : {o o' : List ℕ} {at r x v j : ℕ} → v ≡ get_or ws (5 * n + 3) 0 → j ≡ word_of (node T n).jobs → Wrote o at (x ∷ v ∷ j ∷ []) o' r
      → Wrote o at (set_words x (node T n)) o' r
  sets_put {o} {o'} {at} {r} {x} {v} {j} e f w = wrote_same (ap₂ (λ (a b : ℕ). x ∷ a ∷ b ∷ []) (steps_same t e) f) w

  pub counts_put : {o o' : List ℕ} {at r v j x y z : ℕ} → v ≡ get_or ws (5 * n + 3) 0 → j ≡ word_of (node T n).jobs
      → x ≡ length (members_in v) → y ≡ length (members_in j) → z ≡ length (methods_of T (members_in j)) → Wrote o at (x ∷ y ∷ z ∷ []) o' r
      → Wrote o at (count_words (node T n)) o' r
  counts_put {o} {o'} {at} {r} {v} {j} {x} {y} {z} e f p q s w =
      let a : x ≡ length (node T n).steps = step_count t e p in
      let b : y ≡ length (node T n).jobs = job_count t f q in
      let c : z ≡ length (node T n).methods = method_count t f s in
      wrote_same (rw (a, b, c)) w

  pub node_put : {o o₁ o₂ o₃ o₄ : List ℕ} {at r₁ r₂ r₃ r₄ x k : ℕ} → at + 15 ≤ length o → x ≡ (node T n).first → k ≡ get_or ws (5 * n + 2) 0
      → Wrote o at (set_words x (node T n)) o₁ r₁
      → Wrote o₁ r₁ (count_words (node T n)) o₂ r₂
      → Wrote o₂ r₂ (k ∷ []) o₃ r₃ → Wrote o₃ r₃ (child_words (node T n)) o₄ r₄ → Wrote o at (node_words (node T n)) o₄ r₄
  node_put {o} {o₁} {o₂} {o₃} {o₄} {at} {r₁} {r₂} {r₃} {r₄} {x} {k} h e f a b c d =
      wrote_same (rw (e, f ∙ children_word t)) (wrote_append (omega arith) (wrote_append (omega arith) (wrote_append (omega arith) a b) c) d)

  -- what its variables stand for
  module _ {v j : ℕ} (e : v ≡ get_or ws (5 * n + 3) 0) (f : j ≡ word_of (node T n).jobs) where
    steps_are : members_in v ≡ (node T n).steps
    steps_are = ap members_in (steps_same t e) ∙ steps_in_lem t

    jobs_are : members_in j ≡ (node T n).jobs
    jobs_are = ap members_in f ∙ jobs_in_lem t

    methods_are : methods_of T (members_in j) ≡ (node T n).methods
    methods_are = ap (λ (k : ℕ). methods_of T (members_in k)) f ∙ methods_in_lem t

    pub parts_long : length (meanings (node T n)) ≡ length (members_in v) + length (members_in j) + length (methods_of T (members_in j))
    parts_long =
        rw (methods_are, steps_are, jobs_are)
        (length-append (node T n).steps ((node T n).jobs ++ (node T n).methods) ∙ omega (arith, length-append (node T n).jobs (node T n).methods))

    pub meanings_put : {o o₁ o₂ o₃ : List ℕ} {at r₁ r₂ r₃ : ℕ} → at + length (meanings (node T n)) ≤ length o
        → Wrote o at (members_in v) o₁ r₁ → Wrote o₁ r₁ (members_in j) o₂ r₂ → Wrote o₂ r₂ (methods_of T (members_in j)) o₃ r₃
        → Wrote o at (meanings (node T n)) o₃ r₃
    meanings_put h a b c =
        wrote_same (rw (methods_are, steps_are, jobs_are) (append_assoc (node T n).steps (node T n).jobs (node T n).methods))
        (wrote_append (omega (arith, h)) (wrote_append (omega (arith, h)) a b) c)

-- How long the parts are -----------------------------------------------------------------------------------------------------------
module _ (T : Table) where
  meanings_long : (qs : List Record) (n b : ℕ) → length (concat_map meanings (nodes_from T n b qs)) ≡ own_all T qs
  meanings_long [] n b = refl
  meanings_long (r ∷ qs) n b =
      omega (
        arith,
        length-append (r.label.steps ++ (jobs_at T r ++ methods_at T r)) (concat_map meanings (nodes_from T (suc n) (b + own T r) qs)),
        length-append r.label.steps (jobs_at T r ++ methods_at T r),
        length-append (jobs_at T r) (methods_at T r),
        meanings_long qs (suc n) (b + own T r),
      )

-- the index is its parts, and three words before them
pub index_length : (T : Table) → length (index_of T)
    ≡ 3 + (length (concat_map node_words (source T).nodes) + (length (slot_nodes T 0 (records T)) + length (concat_map meanings (source T).nodes)))
index_length T =
    let A = concat_map node_words (source T).nodes in
    let B = slot_nodes T 0 (records T) in
    let C = concat_map meanings (source T).nodes in
    omega (arith, length-append A (B ++ C), length-append B C)

-- how long it is, by the counts
pub index_words : (T : Table) → length (index_of T) ≡ 3 + (15 * node_total T + (slot_total T + node_vars T))
index_words T =
    let e : length (slot_nodes T 0 (records T)) ≡ slot_total T = slots_long T (records T) 0 1 ∙ ap length (slots_records T) in
    omega (arith, index_length T, nodes_end T, nodes_count T, e, meanings_long T (records T) 0 1, vars_records T)

module _ {T : Table} {ws : List ℕ} (s : Stands T ws) where
  -- The whole
  module _ {c : Count} (k : Counted T c) where
    nodes_are : c.nodes ≡ length (source T).nodes
    nodes_are = omega (arith, k.nodes, nodes_count T)

    slots_are : c.slots ≡ length (source T).slots
    slots_are = k.slots ∙ ap length (sym (slots_records T))

    facts_are : c.variables + 1 ≡ (source T).facts
    facts_are = omega (arith, k.variables, vars_records T)

    pub index_put : {o o₁ o₂ o₃ o₄ : List ℕ} {r₁ r₂ r₃ r₄ : ℕ}
        → Wrote o 0 (c.nodes ∷ c.slots ∷ (c.variables + 1) ∷ []) o₁ r₁ → Wrote o₁ r₁ (concat_map node_words (source T).nodes) o₂ r₂
        → Wrote o₂ r₂ (slot_nodes T 0 (records T)) o₃ r₃ → Wrote o₃ r₃ (concat_map meanings (source T).nodes) o₄ r₄ → Wrote o 0 (index_of T) o₄ r₄
    index_put {o} {o₁} {o₂} {o₃} {o₄} {r₁} {r₂} {r₃} {r₄} a b d e =
        wrote_same joined (wrote_append (omega arith) (wrote_append (omega arith) (wrote_append (omega arith) a b) d) e)
      where
        A : List ℕ
        A = concat_map node_words (source T).nodes

        B : List ℕ
        B = slot_nodes T 0 (records T)

        C : List ℕ
        C = concat_map meanings (source T).nodes

        joined : (c.nodes ∷ c.slots ∷ (c.variables + 1) ∷ []) ++ A ++ B ++ C ≡ index_of T
        joined = rw (nodes_are, slots_are, facts_are) (ap (λ (l : List ℕ). length (source T).nodes ∷ length (source T).slots ∷ (source T).facts ∷ l)
            (append_assoc A B C))
