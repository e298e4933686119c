-- What the index of a table has of a slot, of a variable and of a child.
-- By recursion on the records.
use mathlib.Core.Path.{◌≡◌, refl, sym, ap, ◌∙◌, subst}
use mathlib.Core.Bool.{Bool, true, false, cond}
use mathlib.Core.List.{List, [], ◌∷◌, ◌++◌}
use Prim.Native.Nat.{ℕ, zero, suc, ◌+◌, ◌-◌, ◌*◌, ◌≤◌, ◌<◌}
use native.Mathlib.Omega.{arith}
use lib.ListN.{length, get_or, take, length-append, get_or-append}
use lib.Seq.{get_or-append-add}
use Rattle.lists.specs.List.{concat_map, number}
use Rattle.planning.specs.Table.{Table}
use Rattle.planning.specs.Record.{Record, records}
use Rattle.planning.proofs.Record.{records_rising}
use Rattle.places.specs.Flat.{Node, Child, inner, own, own_all, jobs_at, methods_at, node_of, nodes_from, slots_from}
use Rattle.places.specs.ClausePlace.{child_at, node_at, method_at, tasks_n, method_var}
use Rattle.places.specs.Lookup.{record_at, first_var, ChildIn}
use Rattle.places.proofs.Lookup.{node_at_lem, nodes_length, child_in}
use Rattle.index.specs.Index.{node_words, meanings, slot_nodes, source, index_of, slot_node_in, meaning_in, SlotAt, ChildAt}
use Rattle.index.proofs.Known.{behind, nodes_end}

-- Slots --------------------------------------------------------------------------------------------------------------------------
-- the node c, among the records from node n on, is a slot with these step variables
record SlotFrom (T : Table) (qs : List Record) (n b c : ℕ) (xs : List (ℕ × ℕ)) : Type 0 where
  low : n ≤ c
  high : c < n + length qs
  same : xs ≡ number (b + own_all T (take (c - n) qs)) (record_at qs (c - n)).label.steps

-- one record earlier
slot_before : (T : Table) (r : Record) (qs : List Record) (n b c : ℕ) (xs : List (ℕ × ℕ)) → SlotFrom T qs (suc n) (b + own T r) c xs → SlotFrom T (r ∷ qs) n b c xs
slot_before T r qs n b c xs s =
    let z : c - n ≡ suc (c - suc n) = omega (arith, s.low) in
    let y : b + own T r + own_all T (take (c - suc n) qs) ≡ b + (own T r + own_all T (take (c - suc n) qs)) = omega arith in
    record { low = omega (arith, s.low); high = omega (arith, s.high); same = s.same ∙ rw (z, y) }

module _ (T : Table) where
  pub slots_long : (qs : List Record) (n b : ℕ) → length (slot_nodes T n qs) ≡ length (slots_from T b qs)
  slots_long [] n b = refl
  slots_long (r ∷ qs) n b = go (inner T r) (slots_long qs (suc n) (b + own T r))
    where
      go : (i : Bool) → length (slot_nodes T (suc n) qs) ≡ length (slots_from T (b + own T r) qs)
          → length (cond i (slot_nodes T (suc n) qs) (n ∷ slot_nodes T (suc n) qs)) ≡ length (cond i (slots_from T (b + own T r) qs) (number b r.label.steps ∷ slots_from T (b + own T r) qs))
      go true e = e
      go false e = ap suc e

  slot_from : (qs : List Record) (k n b : ℕ) → k < length (slots_from T b qs) → SlotFrom T qs n b (get_or (slot_nodes T n qs) k 0) (get_or (slots_from T b qs) k [])
  slot_from [] k n b h = absurd (omega arith)
  slot_from (r ∷ qs) k n b h = go (inner T r) k h (λ j l. slot_from qs j (suc n) (b + own T r) l)
    where
      here : SlotFrom T (r ∷ qs) n b n (number b r.label.steps)
      here =
          let z : n - n ≡ 0 = omega arith in
          let y : b + 0 ≡ b = omega arith in
          record { low = omega arith; high = omega arith; same = rw (z, y) }

      go : (i : Bool) (k : ℕ) → k < length (cond i (slots_from T (b + own T r) qs) (number b r.label.steps ∷ slots_from T (b + own T r) qs))
          → ((j : ℕ) → j < length (slots_from T (b + own T r) qs) → SlotFrom T qs (suc n) (b + own T r) (get_or (slot_nodes T (suc n) qs) j 0) (get_or (slots_from T (b + own T r) qs) j []))
          → SlotFrom T (r ∷ qs) n b (get_or (cond i (slot_nodes T (suc n) qs) (n ∷ slot_nodes T (suc n) qs)) k 0) (get_or (cond i (slots_from T (b + own T r) qs) (number b r.label.steps ∷ slots_from T (b + own T r) qs)) k [])
      go true k h f = slot_before T r qs n b (get_or (slot_nodes T (suc n) qs) k 0) (get_or (slots_from T (b + own T r) qs) k []) (f k h)
      go false zero h f = here
      go false (suc k) h f = slot_before T r qs n b (get_or (slot_nodes T (suc n) qs) k 0) (get_or (slots_from T (b + own T r) qs) k []) (f k (omega arith))

module _ (T : Table) where
  slot_at_lem : (k : ℕ) → k < length (source T).slots → SlotAt T k (get_or (slot_nodes T 0 (records T)) k 0)
  slot_at_lem k h =
      let c = get_or (slot_nodes T 0 (records T)) k 0 in
      let s = slot_from T (records T) k 0 1 h in
      let i : c < length (records T) = omega (arith, s.high) in
      let z : c - 0 ≡ c = omega arith in
      let y : 1 + own_all T (take c (records T)) ≡ first_var T (records T) c = omega arith in
      record {
        inside = omega (arith, i, nodes_length T (records T) 0 1);
        same = s.same ∙ rw (z, y, node_at_lem T (records T) c i);
      }

  pub slot_in : (k : ℕ) → k < length (source T).slots → SlotAt T k (slot_node_in (index_of T) k)
  slot_in k h =
      let A = concat_map node_words (source T).nodes in
      let B = slot_nodes T 0 (records T) in
      let C = concat_map meanings (source T).nodes in
      let e : 3 + 15 * length (source T).nodes + k ≡ 3 + (length A + k) = omega (arith, nodes_end T) in
      let q : slot_node_in (index_of T) k ≡ get_or B k 0 =
      ap (λ (i : ℕ). get_or (index_of T) i 0) e ∙ behind T (length A + k) ∙ get_or-append-add A (B ++ C) k 0 ∙ get_or-append B C 0 k (omega (arith, slots_long T (records T) 0 1)) in
      subst (SlotAt T k) (sym q) (slot_at_lem k h)

-- Variables ----------------------------------------------------------------------------------------------------------------------
module _ (T : Table) where
  own_long : (n b : ℕ) (r : Record) (qs : List Record) → length (meanings (node_of T n b r qs)) ≡ own T r
  own_long n b r qs = length-append r.label.steps (jobs_at T r ++ methods_at T r) ∙ omega (arith, length-append (jobs_at T r) (methods_at T r))

  meaning_from : (qs : List Record) (c n b x : ℕ) → c < length qs → x < own T (record_at qs c)
      → get_or (concat_map meanings (nodes_from T n b qs)) (own_all T (take c qs) + x) 0
      ≡ get_or ((record_at qs c).label.steps ++ (jobs_at T (record_at qs c) ++ methods_at T (record_at qs c))) x 0
  meaning_from [] c n b x h l = absurd (omega arith)
  meaning_from (r ∷ qs) zero n b x h l =
      let z : 0 + x ≡ x = omega arith in
      ap (λ (i : ℕ). get_or (concat_map meanings (nodes_from T n b (r ∷ qs))) i 0) z
      ∙ get_or-append (meanings (node_of T n b r qs)) (concat_map meanings (nodes_from T (suc n) (b + own T r) qs)) 0 x (omega (arith, own_long n b r qs))
  meaning_from (r ∷ qs) (suc c) n b x h l =
      let e : own T r + own_all T (take c qs) + x ≡ length (meanings (node_of T n b r qs)) + (own_all T (take c qs) + x) = omega (arith, own_long n b r qs) in
      ap (λ (i : ℕ). get_or (concat_map meanings (nodes_from T n b (r ∷ qs))) i 0) e
      ∙ get_or-append-add (meanings (node_of T n b r qs)) (concat_map meanings (nodes_from T (suc n) (b + own T r) qs)) (own_all T (take c qs) + x) 0
      ∙ meaning_from qs c (suc n) (b + own T r) x (omega arith) l

  module _ (n : ℕ) (h : n < length (source T).nodes) where
    inside : n < length (records T)
    inside = omega (arith, h, nodes_length T (records T) 0 1)

    meaning_at : (x : ℕ) → x < own T (record_at (records T) n) → meaning_in (index_of T) ((node_at (source T) n).first + x) ≡ get_or (meanings (node_at (source T) n)) x 0
    meaning_at x l =
        let rs = records T in
        let A = concat_map node_words (source T).nodes in
        let B = slot_nodes T 0 rs in
        let C = concat_map meanings (source T).nodes in
        let f : (node_at (source T) n).first ≡ suc (own_all T (take n rs)) = ap (λ (N : Node). N.first) (node_at_lem T rs n inside) in
        let e : 3 + 15 * length (source T).nodes + length (source T).slots + ((node_at (source T) n).first + x - 1) ≡ 3 + (length A + (length B + (own_all T (take n rs) + x)))
        = omega (arith, nodes_end T, slots_long T rs 0 1, f) in
        ap (λ (i : ℕ). get_or (index_of T) i 0) e ∙ behind T (length A + (length B + (own_all T (take n rs) + x)))
        ∙ get_or-append-add A (B ++ C) (length B + (own_all T (take n rs) + x)) 0 ∙ get_or-append-add B C (own_all T (take n rs) + x) 0
        ∙ meaning_from rs n 0 1 x inside l ∙ ap (λ (N : Node). get_or (meanings N) x 0) (sym (node_at_lem T rs n inside))

    own_in : own T (record_at (records T) n) ≡ length (node_at (source T) n).steps + length (node_at (source T) n).jobs + length (node_at (source T) n).methods
    own_in = ap (λ (N : Node). length N.steps + length N.jobs + length N.methods) (sym (node_at_lem T (records T) n inside))

    pub step_meaning : (x : ℕ) → x < length (node_at (source T) n).steps → meaning_in (index_of T) ((node_at (source T) n).first + x) ≡ get_or (node_at (source T) n).steps x 0
    step_meaning x l =
        let N = node_at (source T) n in
        meaning_at x (omega (arith, own_in)) ∙ get_or-append N.steps (N.jobs ++ N.methods) 0 x l

    pub job_meaning : (x : ℕ) → x < length (node_at (source T) n).jobs
        → meaning_in (index_of T) ((node_at (source T) n).first + (length (node_at (source T) n).steps + x)) ≡ get_or (node_at (source T) n).jobs x 0
    job_meaning x l =
        let N = node_at (source T) n in
        meaning_at (length N.steps + x) (omega (arith, own_in)) ∙ get_or-append-add N.steps (N.jobs ++ N.methods) x 0 ∙ get_or-append N.jobs N.methods 0 x l

    pub method_meaning : (x : ℕ) → x < length (node_at (source T) n).methods → meaning_in (index_of T) (method_var (node_at (source T) n) x) ≡ method_at (node_at (source T) n) x
    method_meaning x l =
        let N = node_at (source T) n in
        let e : N.first + tasks_n N + x ≡ N.first + (length N.steps + (length N.jobs + x)) = omega arith in
        ap (meaning_in (index_of T)) e
        ∙ meaning_at (length N.steps + (length N.jobs + x)) (omega (arith, own_in))
        ∙ get_or-append-add N.steps (N.jobs ++ N.methods) (length N.jobs + x) 0 ∙ get_or-append-add N.jobs N.methods x 0

-- Children -----------------------------------------------------------------------------------------------------------------------
pub child_at_lem : (T : Table) → T.root < T.jobs → (n y : ℕ) → n < length (source T).nodes → y < length (node_at (source T) n).children → ChildAt T n y
child_at_lem T root n y h l =
    let rs = records T in
    let i : n < length rs = omega (arith, h, nodes_length T rs 0 1) in
    let e = node_at_lem T rs n i in
    let k = subst (λ (N : Node). y < length N.children → ChildIn T rs n (child_at N y)) (sym e) (λ q. child_in T rs (records_rising T root) n i y q) l in
    let c = (child_at (node_at (source T) n) y).node in
    record {
      inside = omega (arith, k.inside, nodes_length T rs 0 1);
      first = ap (λ (C : Child). C.first) k.all ∙ ap (λ (N : Node). N.first) (sym (node_at_lem T rs c k.inside));
      steps = ap (λ (C : Child). C.steps) k.all ∙ ap (λ (N : Node). N.steps) (sym (node_at_lem T rs c k.inside));
      jobs = ap (λ (C : Child). C.jobs) k.all ∙ ap (λ (N : Node). N.jobs) (sym (node_at_lem T rs c k.inside));
    }
