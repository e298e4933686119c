-- The search for the children of a node: a law for its start, for a turn and for its end, and the words of the children.
-- By the record that the search stands at.
use mathlib.Core.Path.{◌≡◌, refl, sym, ap, ◌∙◌}
use mathlib.Core.Bool.{Bool, true, false, cond}
use mathlib.Core.List.{List, [], ◌∷◌, ◌++◌, map, append_assoc, append-nil}
use mathlib.Core.Logic.{◌⊎◌, inl, inr}
use Prim.Native.Nat.{ℕ, zero, suc, ◌+◌, ◌-◌, ◌*◌, ◌≤◌, ◌<◌}
use native.Mathlib.Omega.{arith}
use lib.Dec.{eqb}
use lib.ListN.{length, get_or, drop, replicate, length-append, length-map, length-replicate, get_or-replicate, drop_of_length-le, get_or-append, get_or-eq_default, get_or-map}
use lib.Seq.{drop-cons, ext_get_or, get_or-append-add}
use Rattle.lists.specs.List.{cons_if, up_to}
use Rattle.lists.specs.Written.{Wrote}
use Rattle.lists.proofs.Number.{length_from}
use Rattle.lists.proofs.Order.{le_or_lt}
use Rattle.lists.proofs.Place.{get_d_map_from}
use Rattle.lists.proofs.Written.{wrote_none, wrote_append, wrote_same, wrote_length}
use Rattle.planning.specs.Table.{Table}
use Rattle.planning.specs.Record.{Record, records}
use Rattle.planning.proofs.Record.{records_rising}
use Rattle.places.specs.Flat.{Child, Node, own, child_of, children_from}
use Rattle.places.specs.ClausePlace.{no_child, child_at}
use Rattle.places.specs.Lookup.{no_record, record_at, first_var}
use Rattle.places.proofs.Lookup.{nodes_length}
use Rattle.places.proofs.Small.{sizes_at, records_children}
use Rattle.index.specs.Index.{source}
use Rattle.indexing.specs.Stands.{AtNode, node, child_numbers, child_words}
use Rattle.indexing.proofs.Nodes.{inside, node_is, child_count, children_word, parent_word}

-- the numbers of the first k children of node u among the records from node n on
abbrev numbers : (u k n : ℕ) → List Record → List ℕ
numbers u zero n rs = []
numbers u (suc k) n [] = []
numbers u (suc k) n (r ∷ rs) = cond (eqb r.parent u) (n ∷ numbers u k (suc n) rs) (numbers u (suc k) (suc n) rs)

-- a child's number
abbrev number_of : Child → ℕ
number_of C = C.node

numbers_of_lem : (T : Table) (u k n b : ℕ) (rs : List Record) → map number_of (children_from T u k n b rs) ≡ numbers u k n rs
numbers_of_lem T u zero n b rs = refl
numbers_of_lem T u (suc k) n b [] = refl
numbers_of_lem T u (suc k) n b (r ∷ rs) =
    go (eqb r.parent u) (numbers_of_lem T u k (suc n) (b + own T r) rs) (numbers_of_lem T u (suc k) (suc n) (b + own T r) rs)
  where
    go : (t : Bool) → map number_of (children_from T u k (suc n) (b + own T r) rs) ≡ numbers u k (suc n) rs
        → map number_of (children_from T u (suc k) (suc n) (b + own T r) rs) ≡ numbers u (suc k) (suc n) rs
        → map number_of (cond t (child_of T n b r ∷ children_from T u k (suc n) (b + own T r) rs) (children_from T u (suc k) (suc n) (b + own T r) rs))
        ≡ cond t (n ∷ numbers u k (suc n) rs) (numbers u (suc k) (suc n) rs)
    go true e f = ap (λ (l : List ℕ). n ∷ l) e
    go false e f = f

numbers_past : (rs : List Record) (u k c : ℕ) → length rs ≤ c → numbers u k c (drop c rs) ≡ []
numbers_past rs u k c h = ap (numbers u k c) (drop_of_length-le rs {i = c} h) ∙ none k
  where
    none : (k : ℕ) → numbers u k c [] ≡ []
    none zero = refl
    none (suc k) = refl

-- one record on
numbers_next : (rs : List Record) (u k c : ℕ) → c < length rs → 1 ≤ k → (b : Bool) → b ≡ eqb (record_at rs c).parent u
    → numbers u k c (drop c rs) ≡ cons_if b c [] ++ numbers u (k - length (cons_if b c [])) (c + 1) (drop (c + 1) rs)
numbers_next rs u zero c h l b e = absurd (omega arith)
numbers_next rs u (suc k) c h l b e =
    let q : c + 1 ≡ suc c = omega arith in
    rw q (ap (numbers u (suc k) c) (drop-cons rs c no_record h)
    ∙ ap (λ (t : Bool). cond t (c ∷ numbers u k (suc c) (drop (suc c) rs)) (numbers u (suc k) (suc c) (drop (suc c) rs))) (sym e) ∙ go b)
  where
    go : (t : Bool) → cond t (c ∷ numbers u k (suc c) (drop (suc c) rs)) (numbers u (suc k) (suc c) (drop (suc c) rs))
        ≡ cons_if t c [] ++ numbers u (suc k - length (cons_if t c [])) (suc c) (drop (suc c) rs)
    go true = let z : k ≡ suc k - 1 = omega arith in ap (λ (i : ℕ). c ∷ numbers u i (suc c) (drop (suc c) rs)) z
    go false = let z : suc k ≡ suc k - 0 = omega arith in ap (λ (i : ℕ). numbers u i (suc c) (drop (suc c) rs)) z

-- Eight words ----------------------------------------------------------------------------------------------------------------------
eight_words : (N : Node) → length N.children ≤ 8 → map number_of N.children ++ replicate (8 - length N.children) 0 ≡ child_words N
eight_words N h = ext_get_or 0 (map number_of cs ++ replicate (8 - length cs) 0) (child_words N) same_length same_word
  where
    cs : List Child
    cs = N.children

    same_length : length (map number_of cs ++ replicate (8 - length cs) 0) ≡ length (child_words N)
    same_length =
        omega (
          arith,
          length-append (map number_of cs) (replicate (8 - length cs) 0),
          length-map cs number_of,
          length-replicate {A = ℕ} (8 - length cs) 0,
          length-map (up_to 8) (λ y. (child_at N y).node),
          length_from 0 8,
        )

    same_word : (i : ℕ) → i < length (map number_of cs ++ replicate (8 - length cs) 0)
        → get_or (map number_of cs ++ replicate (8 - length cs) 0) i 0 ≡ get_or (child_words N) i 0
    same_word i l = go (le_or_lt (length cs) i) ∙ sym there
      where
        there : get_or (child_words N) i 0 ≡ (child_at N i).node
        there =
            let z : 0 + i ≡ i = omega arith in
            get_d_map_from (λ y. (child_at N y).node) 0 8 i 0 (omega (arith, same_length, length-map (up_to 8) (λ y. (child_at N y).node), length_from 0 8))
            ∙ ap (λ (y : ℕ). (child_at N y).node) z

        go : (length cs ≤ i) ⊎ (i < length cs) → get_or (map number_of cs ++ replicate (8 - length cs) 0) i 0 ≡ (child_at N i).node
        go (inl k) =
            let e : i ≡ length (map number_of cs) + (i - length cs) = omega (arith, length-map cs number_of) in
            ap (λ (j : ℕ). get_or (map number_of cs ++ replicate (8 - length cs) 0) j 0) e
            ∙ get_or-append-add (map number_of cs) (replicate (8 - length cs) 0) (i - length cs) 0
            ∙ get_or-replicate (8 - length cs) (i - length cs) 0 0
            (omega (
              arith,
              l,
              length-append (map number_of cs) (replicate (8 - length cs) 0),
              length-map cs number_of,
              length-replicate {A = ℕ} (8 - length cs) 0,
            ))
            ∙ ap number_of (sym (get_or-eq_default cs no_child {n = i} k))
        go (inr k) =
            get_or-append (map number_of cs) (replicate (8 - length cs) 0) 0 i (omega (arith, length-map cs number_of)) ∙ get_or-map number_of cs i no_child

-- The search -----------------------------------------------------------------------------------------------------------------------
-- what is written so far, and what is found from node c on, are the children of node n
pub record Found (T : Table) (n : ℕ) (o₀ : List ℕ) (s : ℕ) (o : List ℕ) (a c : ℕ) : Type 0 where
  pub high : a ≤ s + length (node T n).children
  pub room : s + 8 ≤ length o₀
  pub same : length o ≡ length o₀
  pub found : List ℕ
  pub text : Wrote o₀ s found o a
  pub rest : found ++ numbers n (s + length (node T n).children - a) c (drop c (records T)) ≡ map number_of (node T n).children

module _ {T : Table} {ws : List ℕ} {n : ℕ} (t : AtNode T ws n) where
  pub eight : length (node T n).children ≤ 8
  eight =
      (sizes_at T t.stands.accepted.limits (records T) (records_rising T t.stands.accepted.sound.root)
      (records_children T t.stands.accepted.limits t.stands.accepted.sound.root) n).children

  all_numbers : numbers n (length (node T n).children) (n + 1) (drop (n + 1) (records T)) ≡ map number_of (node T n).children
  all_numbers =
      let q : n + 1 ≡ suc n = omega arith in
      rw (q, child_count T n) (
      sym (numbers_of_lem T n (record_at (records T) n).children (suc n) (first_var T (records T) n + own T (record_at (records T) n))
      (drop (suc n) (records T)))
      ∙ ap (λ (N : Node). map number_of N.children) (sym (node_is t))
      )

  pub found_none : (o : List ℕ) (s : ℕ) → s + 8 ≤ length o → Found T n o s o s (n + 1)
  found_none o s h =
      let z : s + length (node T n).children - s ≡ length (node T n).children = omega arith in
      record {
        high = omega arith;
        room = h;
        same = refl;
        found = [];
        text = wrote_none o s;
        rest = ap (λ (k : ℕ). numbers n k (n + 1) (drop (n + 1) (records T))) z ∙ all_numbers;
      }

  module _ {o₀ o : List ℕ} {s a c w : ℕ} (u : Found T n o₀ s o a c) (e : w ≡ get_or ws (5 * n + 2) 0) where
    -- another child is to be found, so that there is a node c
    pub found_there : a < s + w → AtNode T ws c
    found_there h = record { stands = t.stands; inside = go (le_or_lt (length (records T)) c) }
      where
        go : (length (records T) ≤ c) ⊎ (c < length (records T)) → c < length (source T).nodes
        go (inr l) = omega (arith, l, nodes_length T (records T) 0 1)
        go (inl l) =
            let none = ap length (numbers_past (records T) n (s + length (node T n).children - a) c l) in
            let all = ap length u.rest in
            absurd (omega (
              arith,
              h,
              e,
              children_word t,
              none,
              all,
              length-append u.found (numbers n (s + length (node T n).children - a) c (drop c (records T))),
              length-map (node T n).children number_of,
              u.text.end,
            ))

    pub found_room : a < s + w → (b : Bool) → a + length (cons_if b c []) ≤ length o
    found_room h true = omega (arith, h, e, children_word t, eight, u.room, u.same)
    found_room h false = omega (arith, h, e, children_word t, eight, u.room, u.same)

    pub found_more : {o' : List ℕ} {r p : ℕ} {b : Bool} → a < s + w → p ≡ get_or ws (5 * c + 1) 0 → b ≡ eqb p n → Wrote o a (cons_if b c []) o' r
        → Found T n o₀ s o' r (c + 1)
    found_more {o'} {r} {p} {b} h f g v =
        let i = found_there h in
        let k = s + length (node T n).children - a in
        let q : b ≡ eqb (record_at (records T) c).parent n = g ∙ ap (λ (x : ℕ). eqb x n) (f ∙ parent_word i) in
        let l : k - length (cons_if b c []) ≡ s + length (node T n).children - r = omega (arith, v.end) in
        let j = numbers_next (records T) n k c (inside i) (omega (arith, h, e, children_word t)) b q in
        record {
          high = high b v;
          room = u.room;
          same = wrote_length v (found_room h b) ∙ u.same;
          found = u.found ++ cons_if b c [];
          text = wrote_append (omega (arith, u.room)) u.text v;
          rest =
              ap (λ (m : ℕ). u.found ++ cons_if b c [] ++ numbers n m (c + 1) (drop (c + 1) (records T))) (sym l)
              ∙ append_assoc u.found (cons_if b c []) (numbers n (k - length (cons_if b c [])) (c + 1) (drop (c + 1) (records T)))
              ∙ ap (λ (m : List ℕ). u.found ++ m) (sym j) ∙ u.rest;
        }
      where
        high : (b : Bool) → Wrote o a (cons_if b c []) o' r → r ≤ s + length (node T n).children
        high true v = omega (arith, v.end, h, e, children_word t)
        high false v = omega (arith, v.end, u.high)

    found_end : s + w ≤ a → a ≡ s + length (node T n).children
    found_end h = omega (arith, h, e, children_word t, u.high)

    -- the last child is written, be it that so many are or that no node is left
    pub found_all : s + w ≤ a → Wrote o₀ s (child_numbers (node T n)) o a
    found_all h =
        let z : s + length (node T n).children - a ≡ 0 = omega (arith, found_end h) in
        wrote_same (sym (append-nil u.found) ∙ ap (λ (k : ℕ). u.found ++ numbers n k c (drop c (records T))) (sym z) ∙ u.rest) u.text

    pub found_most : a ≤ s + w
    found_most = omega (arith, u.high, e, children_word t)

    pub found_past : length (source T).nodes ≤ c → s + w ≤ a
    found_past l = go (le_or_lt (s + w) a)
      where
        go : (s + w ≤ a) ⊎ (a < s + w) → s + w ≤ a
        go (inl h) = h
        go (inr h) = absurd (omega (arith, l, (found_there h).inside))

  -- behind the last child there is room for the zeros, and they are written
  module _ {o₀ o : List ℕ} {s a : ℕ} (u : Wrote o₀ s (child_numbers (node T n)) o a) where
    many : a ≡ s + length (node T n).children
    many = omega (arith, u.end, length-map (node T n).children number_of)

    pub zeros_rest : s + 8 ≤ length o₀ → (a ≤ s + 8) × (s + 8 ≤ length o)
    zeros_rest h = (omega (arith, many, eight), omega (arith, wrote_length u (omega (arith, many, eight, u.end)), h))

    pub children_put : {o' : List ℕ} {r : ℕ} → s + 8 ≤ length o₀ → Wrote o a (replicate (s + 8 - a) 0) o' r → Wrote o₀ s (child_words (node T n)) o' r
    children_put {o'} {r} h v =
        let y : s + 8 - a ≡ 8 - length (node T n).children = omega (arith, many) in
        wrote_same (ap (λ (k : ℕ). child_numbers (node T n) ++ replicate k 0) y ∙ eight_words (node T n) eight) (wrote_append (omega (arith, h)) u v)
