-- Counts by node and part, and the search for a clause.
-- By the laws of sums and of what is left from a place on.
use mathlib.Core.Path.{◌≡◌, refl, sym, ap, ap₂, ◌∙◌}
use mathlib.Core.Bool.{cond}
use mathlib.Core.List.{List, []}
use mathlib.Core.Logic.{inl, inr}
use Prim.Native.Nat.{ℕ, zero, suc, ◌+◌, ◌-◌, ◌*◌, ◌≤◌, ◌<◌}
use native.Mathlib.Numerals.{add-one}
use native.Mathlib.Nat.{mul-suc, mul-le-mul}
use native.Mathlib.Omega.{arith}
use lib.Dec.{eqb}
use lib.ListN.{length, drop, get_or}
use lib.Seq.{drop-drop, drop-nil}
use borrow.Author.Tests.{lt-ltb}
use Rattle.lists.proofs.Bool.{eqb_other}
use Rattle.planning.specs.Table.{Table}
use Rattle.places.specs.Nest.{at, left, positions}
use Rattle.places.specs.Flat.{Node}
use Rattle.places.specs.ClausePlace.{Source, shape, nodes_in, group_at, row_len, child_at, width, tasks_n, named_at, slot_at, effect_facts}
use Rattle.places.specs.Cursor.{Seeking}
use Rattle.places.specs.Total.{sum_to, pair_count, widths_to, body_count, pass_count, node_count, effect_count, slot_count, count_at}
use Rattle.places.proofs.Next.{seek_start, seek_node}
use Rattle.places.proofs.Total.{sum_to_same, sum_to_first}
use Rattle.places.proofs.Walk.{left_clause}
use Rattle.index.specs.Index.{source}
use Rattle.shape.specs.Shape.{Indexed, node}
use Rattle.shape.proofs.Groups.{row_most}
use Rattle.cursor.specs.Cursor.{pos_of, of_pos, left_in, cursor_of, In, Moved, NodePassed, SoughtRow, Found}
use Rattle.cursor.specs.declared.Cursor.{Cursor}
use Rattle.cursor.proofs.Moves.{left_at_end, stands_of, start_stands}

-- Sums -----------------------------------------------------------------------------------------------------------------------
-- the first i of n numbers, none greater than b, add up to k
pub record Summing (f : ℕ → ℕ) (b n i k : ℕ) : Type 0 where
  pub at : i ≤ n
  pub is : k ≡ sum_to f i
  pub most : k ≤ b * i

pub summing_none : (f : ℕ → ℕ) (b n : ℕ) → Summing f b n 0 0
summing_none f b n = record { at = omega arith; is = refl; most = omega arith }

pub summing_more : {f : ℕ → ℕ} {b n i k r : ℕ} → Summing f b n i k → i < n → r ≡ f i → r ≤ b → Summing f b n (i + 1) (k + r)
summing_more {f} {b} {n} {i} {k} {r} s h e l = record {
  at = omega arith;
  is = omega (arith, s.is, e, ap (sum_to f) (add-one i));
  most = omega (arith, s.most, ap (λ (j : ℕ). b * j) (add-one i), mul-suc b i);
}

pub summing_all : {f : ℕ → ℕ} {b n i k : ℕ} → Summing f b n i k → n ≤ i → k ≡ sum_to f n
summing_all {f} {b} {n} {i} {k} s h = let e : i ≡ n = omega (arith, s.at) in s.is ∙ ap (sum_to f) e

-- The clauses of a node --------------------------------------------------------------------------------------------------------
-- pairs of at most 128 variables
pub pairs_none : {n : ℕ} → n ≡ 0 → (0 ≡ pair_count n) × (◌≤◌ 0 8128)
pairs_none e = (ap pair_count (sym e), omega arith)

pub pairs_most : {n : ℕ} → n ≤ 128 → n * (n - 1) ≤ 128 * 127
pairs_most {n} h = mul-le-mul {n₁ = n} {m₁ = n - 1} {n₂ = 128} {m₂ = 127} h (omega arith)

-- a product of two factors that are bounded
pub product_most : {a b c d : ℕ} → a ≤ c → b ≤ d → a * b ≤ c * d
product_most {a} {b} {c} {d} h l = mul-le-mul {n₁ = a} {m₁ = b} {n₂ = c} {m₂ = d} h l

-- (f) has one clause at the first child, and as many as (g) at the others
module _ (N : Node) where
  widths_first : (k : ℕ) → widths_to N (suc k) ≡ width (child_at N 0) + sum_to (λ i. width (child_at N (suc i))) k
  widths_first k = sum_to_first (λ z. width (child_at N z)) k

  passes_first : (k : ℕ) → sum_to (λ y. cond (eqb y 0) 1 (width (child_at N y))) (suc k) ≡ 1 + sum_to (λ i. width (child_at N (suc i))) k
  passes_first k =
      sum_to_first (λ y. cond (eqb y 0) 1 (width (child_at N y))) k
      ∙ ap (λ (s : ℕ). 1 + s) (sum_to_same _ _ k (λ i h. rw (eqb_other (suc i) 0 (λ (e : suc i ≡ 0). omega arith))))

  from_widths : (a b s p : ℕ) → a ≡ b + s → p ≡ 1 + s → (a - b + 1 ≡ p) × (b ≤ a)
  from_widths a b s p e f = (omega arith, omega arith)

  pub pass_none : length N.children ≡ 0 → pass_count N ≡ 0
  pass_none e = ap (sum_to (λ y. cond (eqb y 0) 1 (width (child_at N y)))) e

  pub pass_some : (length N.children ≡ 0 → ⊥) → (widths_to N (length N.children) - width (child_at N 0) + 1 ≡ pass_count N) × (width (child_at N 0) ≤ widths_to N (length N.children))
  pass_some h = go (length N.children) h
    where
      go : (k : ℕ) → (k ≡ 0 → ⊥) → (widths_to N k - width (child_at N 0) + 1 ≡ sum_to (λ y. cond (eqb y 0) 1 (width (child_at N y))) k) × (width (child_at N 0) ≤ widths_to N k)
      go zero l = absurd (l refl)
      go (suc k) l = from_widths (widths_to N (suc k)) (width (child_at N 0)) (sum_to (λ i. width (child_at N (suc i))) k) (sum_to (λ y. cond (eqb y 0) 1 (width (child_at N y))) (suc k)) (widths_first k) (passes_first k)

  -- of what the code has at hand
  pub passed : {e a b : ℕ} → e ≡ length N.children → (e ≡ 0 → ⊥) → a ≡ widths_to N (length N.children) → b ≡ width (child_at N 0) → (b ≤ a) × (a - b + 1 ≡ pass_count N)
  passed {e} {a} {b} q h f g = let t = pass_some (λ z. h (q ∙ z)) in (omega (arith, f, g, t.1), rw (f, g) t.0)

-- (a) to (g), from what the code has counted
module _ (T : Table) (N : Node) where
  pub letters_count : {m w s p t a b j e : ℕ} → (m ≡ length N.methods) × (m ≤ 128) → (w ≡ widths_to N (length N.children)) × (w ≤ 1024) → (s ≡ length N.steps) × (s ≤ 64) → (p ≡ pass_count N) × (p ≤ 1025)
      → (t ≡ tasks_n N) × (t ≤ 128) → (a ≡ pair_count t) × (a ≤ 8128) → (b ≡ pair_count m) × (b ≤ 8128) → (j ≡ length N.jobs) × (j ≤ 64) → (e ≡ sum_to (body_count T N) (length N.methods)) × (e ≤ 131072)
      → (a + b + j + m + e + s * p + w ≡ node_count T N) × (a + b + j + m + e + s * p + w ≤ 917504)
  letters_count {m} {w} {s} {p} {t} {a} {b} {j} {e} hm hw hs hp ht ha hb hj he =
      let fa : a ≡ pair_count (tasks_n N) = ha.0 ∙ ap pair_count ht.0 in
      let fb : b ≡ pair_count (length N.methods) = hb.0 ∙ ap pair_count hm.0 in
      let fp : s * p ≡ length N.steps * pass_count N = ap₂ (λ (x y : ℕ). x * y) hs.0 hp.0 in
      let l : s * p ≤ 64 * 1025 = product_most hs.1 hp.1 in
      (omega (arith, fa, fb, fp, hj.0, hm.0, he.0, hw.0), omega (arith, l, ha.1, hb.1, hj.1, hm.1, he.1, hw.1))

-- rows are short
module _ {T : Table} {ix : List ℕ} (i : Indexed T ix) where
  in_row : (r n g : ℕ) {k x y : ℕ} → n < nodes_in (source T) r → x < (group_at (source T) r n g).xs → y < (group_at (source T) r n g).ys → k ≡ (group_at (source T) r n g).len x y → k ≤ 128
  in_row r n g {k} {x} {y} t h l e =
      let q : k ≡ row_len (source T) r n g x y =
      e ∙ sym (rw (lt-ltb n (nodes_in (source T) r) t, lt-ltb x (group_at (source T) r n g).xs h, lt-ltb y (group_at (source T) r n g).ys l)) in
      omega (arith, row_most i r n g x y)

  pub body_most : {n k x y : ℕ} → n < length (source T).nodes → x < length (node T n).methods → y < length (node T n).children → k ≡ cond (named_at T (node T n) x y) 1 (width (child_at (node T n) y)) → k ≤ 128
  body_most {n} {k} {x} {y} t h l e = in_row 1 n 4 {k = k} {x = x} {y = y} t h l e

  pub effect_most : {n k x : ℕ} → n < length (source T).slots → x < length (slot_at (source T) n) → {y : ℕ} → y < 3 → k ≡ length (effect_facts T (get_or (slot_at (source T) n) x (0, 0)).1 y) → k ≤ 128
  effect_most {n} {k} {x} t h {y} l e = in_row 3 n 0 {k = k} {x = x} {y = y} t h l e

  -- rule 4 of a step: its three parts
  pub effects_count : {n : ℕ} → n < length (source T).slots → {x s a b d : ℕ} → x < length (slot_at (source T) n) → s ≡ (get_or (slot_at (source T) n) x (0, 0)).1
      → a ≡ length (effect_facts T s 0) → b ≡ length (effect_facts T s 1) → d ≡ length (effect_facts T s 2)
      → (a + (b + d) ≡ effect_count T (get_or (slot_at (source T) n) x (0, 0)).1) × (a + (b + d) ≤ 384)
  effects_count {n} t {x} {s} {a} {b} {d} h q ea eb ed =
      let fa : a ≡ length (effect_facts T (get_or (slot_at (source T) n) x (0, 0)).1 0) = rw q at ea in
      let fb : b ≡ length (effect_facts T (get_or (slot_at (source T) n) x (0, 0)).1 1) = rw q at eb in
      let fd : d ≡ length (effect_facts T (get_or (slot_at (source T) n) x (0, 0)).1 2) = rw q at ed in
      (omega (arith, fa, fb, fd), omega (arith, effect_most t h {y = 0} (omega arith) fa, effect_most t h {y = 1} (omega arith) fb, effect_most t h {y = 2} (omega arith) fd))

  -- the steps of a slot, and two clauses a fact
  pub slot_summed : (n : ℕ) {e k x f : ℕ} → e ≡ length (slot_at (source T) n) → e ≤ 64 → Summing (λ y. effect_count T (get_or (slot_at (source T) n) y (0, 0)).1) 384 (length (slot_at (source T) n)) x k → e ≤ x → f ≡ T.facts
      → (k + (f + f) ≡ slot_count T (slot_at (source T) n)) × (k + (f + f) ≤ 917504)
  slot_summed n {e} {k} {x} {f} q l s h g =
      let fk : k ≡ sum_to (λ y. effect_count T (get_or (slot_at (source T) n) y (0, 0)).1) (length (slot_at (source T) n)) = summing_all s (omega arith) in
      (omega (arith, fk, g), omega (arith, s.most, s.at, g, i.accepted.limits.facts))

-- Nodes and slots of a rule ------------------------------------------------------------------------------------------------------
pub facts_at : {T : Table} {ix : List ℕ} → Indexed T ix → (n : ℕ) {k : ℕ} → k ≡ T.facts → (k ≡ count_at (source T) 2 n) × (k ≤ 917504)
facts_at i n f = (f, omega (arith, f, i.accepted.limits.facts))

pub root_at : (T : Table) (r n : ℕ) → r < 4 → (r ≡ 1 → ⊥) → (r ≡ 2 → ⊥) → (r ≡ 3 → ⊥) → (1 ≡ count_at (source T) r n) × (◌≤◌ 1 917504)
root_at T zero n h a b c = (refl, omega arith)
root_at T (suc zero) n h a b c = absurd (a refl)
root_at T (suc (suc zero)) n h a b c = absurd (b refl)
root_at T (suc (suc (suc zero))) n h a b c = absurd (c refl)
root_at T (suc (suc (suc (suc r)))) n h a b c = absurd (omega arith)

-- Seeking ----------------------------------------------------------------------------------------------------------------------
-- passing over places of a row
module _ (S : Source) (r n g x y : ℕ) where
  along_row : (k i : ℕ) → i + k ≤ row_len S r n g x y → drop k (left (shape S) (at r n g x y i)) ≡ left (shape S) (at r n g x y (i + k))
  unfolding shape
  along_row zero i h = let z : i + 0 ≡ i = omega arith in rw z
  along_row (suc k) i h =
      let z : i + 1 + k ≡ i + suc k = omega arith in
      ap (drop (suc k)) (left_clause (shape S) r n g x y i (omega arith)) ∙ along_row k (i + 1) (omega arith) ∙ ap (λ (j : ℕ). left (shape S) (at r n g x y j)) z

-- a node's first place, from which k clauses are to be passed over to stand before clause j
pub record SoughtNode (T : Table) (j k : ℕ) (c : Cursor) : Type 0 where
  pub seeking : Seeking (source T) j k (pos_of c)
  pub inside : In T c
  pub start : (c.group ≡ 0) × (c.x ≡ 0) × (c.y ≡ 0) × (c.i ≡ 0)

pub sought_start : (T : Table) (j : ℕ) {c : Cursor} → c ≡ of_pos T (at 0 0 0 0 0 0) → SoughtNode T j j c
sought_start T j e = rw e (record { seeking = seek_start (source T) j; inside = inl (start_stands T 0 0 (omega arith) (omega arith)); start = (refl, refl, refl, refl) })

pub sought_row : {T : Table} {j k : ℕ} {c : Cursor} → SoughtNode T j k c → SoughtRow T j k c
sought_row s = record { seeking = s.seeking; inside = s.inside; first = s.start.3 }

pub sought_past_node : {T : Table} {j k m : ℕ} {c d : Cursor} → SoughtNode T j k c → c.rule < 4 → m ≡ count_at (source T) c.rule c.node → m ≤ k → NodePassed T c d → SoughtNode T j (k - m) d
sought_past_node {T} {j} {k} {m} {c} {d} s h e l p =
    let here : Seeking (source T) j k (at c.rule c.node 0 0 0 0) = rw (s.start.0, s.start.1, s.start.2, s.start.3) at s.seeking in
    let there : Seeking (source T) j (k - count_at (source T) c.rule c.node) (at c.rule (c.node + 1) 0 0 0 0) =
    seek_node (source T) j c.rule c.node here (stands_of s.inside h).node (omega (arith, e)) in
    record {
      seeking = rw e (record { rest = ap (drop (k - count_at (source T) c.rule c.node)) (sym p.same) ∙ there.rest });
      inside = p.inside;
      start = p.start;
    }

module _ {T : Table} {j k : ℕ} {c : Cursor} (s : SoughtRow T j k c) (h : c.rule < 4) where
  e : c.len ≡ row_len (source T) c.rule c.node c.group c.x c.y
  e = (stands_of s.inside h).len

  here : Seeking (source T) j k (at c.rule c.node c.group c.x c.y 0)
  here = rw s.first at s.seeking

  pub sought_past_row : {d : Cursor} → c.len ≤ k → Moved T c d → SoughtRow T j (k - c.len) d
  sought_past_row {d} l p =
      let z : 0 + c.len ≡ row_len (source T) c.rule c.node c.group c.x c.y = omega (arith, e) in
      let y : c.len + (k - c.len) ≡ k = omega arith in
      let q : drop c.len (left (shape (source T)) (at c.rule c.node c.group c.x c.y 0)) ≡ left_in T d =
      along_row (source T) c.rule c.node c.group c.x c.y c.len 0 (omega (arith, e))
      ∙ ap (λ (i : ℕ). left (shape (source T)) (at c.rule c.node c.group c.x c.y i)) z ∙ p.same in
      record {
        seeking = record {
          rest = ap (drop (k - c.len)) (sym q) ∙ drop-drop (k - c.len) c.len (left (shape (source T)) (at c.rule c.node c.group c.x c.y 0))
              ∙ ap (λ (i : ℕ). drop i (left (shape (source T)) (at c.rule c.node c.group c.x c.y 0))) y ∙ here.rest;
        };
        inside = p.inside;
        first = p.first;
      }

  pub found_here : k < c.len → Found T j (record { rule = c.rule; node = c.node; group = c.group; x = c.x; y = c.y; i = k; len = c.len })
  unfolding shape
  found_here l =
      let t = stands_of s.inside h in
      let z : 0 + k ≡ k = omega arith in
      let q = ap (λ (i : ℕ). left (shape (source T)) (at c.rule c.node c.group c.x c.y i)) (sym z)
      ∙ sym (along_row (source T) c.rule c.node c.group c.x c.y k 0 (omega (arith, e))) ∙ here.rest in
      let f = left_clause (shape (source T)) c.rule c.node c.group c.x c.y k (omega (arith, e)) in
      record {
        is = ap (λ (n : ℕ). record { rule = c.rule; node = c.node; group = c.group; x = c.x; y = c.y; i = k; len = n }) e ∙ ap (cursor_of T) (sym f ∙ q);
        same = q;
        inside = inl (record { rule = t.rule; node = t.node; group = t.group; x = t.x; y = t.y; len = t.len });
      }

pub found_end : {T : Table} {j k : ℕ} {c : Cursor} → SoughtRow T j k c → 4 ≤ c.rule → Found T j c
found_end {T} {j} {k} {c} s h = go s.inside
  where
    go : In T c → Found T j c
    go (inl t) = absurd (omega (arith, t.rule))
    go (inr e) =
        let q : left_in T c ≡ [] = ap (left_in T) e ∙ left_at_end T in
        let d : [] ≡ drop j (positions (shape (source T))) = sym (drop-nil k) ∙ ap (drop k) (sym q) ∙ s.seeking.rest in
        record { is = e ∙ ap (cursor_of T) d; same = q ∙ d; inside = inr e }
