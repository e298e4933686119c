-- The loops that write one thing after the other: a law for the start, for a turn and for the end of each, and one for the room.
-- By the laws of writes, and by cutting a list where the loop stands.
use mathlib.Core.Path.{◌≡◌, refl, sym, ap, ◌∙◌}
use mathlib.Core.Bool.{Bool, true, false, not, cond}
use mathlib.Core.List.{List, [], ◌∷◌, ◌++◌, append-nil}
use Prim.Native.Nat.{ℕ, zero, suc, ◌+◌, ◌-◌, ◌≤◌, ◌<◌}
use native.Mathlib.Omega.{arith}
use lib.ListN.{length, get_or, take, drop, replicate, length-append, length-map, replicate-append-replicate, take-append-drop, drop_of_length-le}
use lib.Seq.{take_all, take-suc, drop-cons}
use Rattle.lists.specs.List.{cons_if, filter, concat_map, from, up_to, has}
use Rattle.lists.specs.Written.{Wrote}
use Rattle.lists.proofs.Every.{concat_map_append}
use Rattle.lists.proofs.Number.{length_from}
use Rattle.lists.proofs.Place.{filter_split}
use Rattle.lists.proofs.Written.{wrote_none, wrote_append, wrote_same, wrote_length}
use Rattle.bitset.specs.Set.{contains}
use Rattle.planning.specs.Table.{Table, job_of}
use Rattle.planning.specs.Record.{records}
use Rattle.places.specs.Flat.{inner, own}
use Rattle.places.specs.ClausePlace.{no_node, child_at}
use Rattle.places.specs.Lookup.{no_record, record_at, first_var}
use Rattle.places.proofs.Lookup.{nodes_length}
use Rattle.tree.specs.Visit.{members_in}
use Rattle.tree.proofs.Methods.{word_has}
use Rattle.index.specs.Index.{node_words, slot_nodes, source}
use Rattle.indexing.specs.Stands.{AtNode, node}
use Rattle.indexing.proofs.Nodes.{first_most, first_on, first_is}

-- Single writes --------------------------------------------------------------------------------------------------------------------
pub if_yes : {o o' : List ℕ} {at r x : ℕ} {t : Bool} → t ≡ true → Wrote o at (x ∷ []) o' r → Wrote o at (cons_if t x []) o' r
if_yes {o} {o'} {at} {r} {x} {t} e w = wrote_same (ap (λ (b : Bool). cons_if b x []) (sym e)) w

pub if_no : (o : List ℕ) (at x : ℕ) {t : Bool} → t ≡ false → Wrote o at (cons_if t x []) o at
if_no o at x {t} e = wrote_same (ap (λ (b : Bool). cons_if b x []) (sym e)) (wrote_none o at)

pub if_room : {l at : ℕ} (x : ℕ) (t : Bool) → t ≡ true → at + length (cons_if t x []) ≤ l → at < l
if_room {l} {at} x t e h = omega (arith, h, ap (λ (b : Bool). length (cons_if b x [])) e)

-- Zeros ------------------------------------------------------------------------------------------------------------------------------
pub record Zeros (o₀ : List ℕ) (s e : ℕ) (o : List ℕ) (a : ℕ) : Type 0 where
  pub low : s ≤ a
  pub at : a ≤ e
  pub room : e ≤ length o₀
  pub same : length o ≡ length o₀
  pub text : Wrote o₀ s (replicate (a - s) 0) o a

pub zeros_none : (o : List ℕ) (s e : ℕ) → s ≤ e → e ≤ length o → Zeros o s e o s
zeros_none o s e h l =
    let z : s - s ≡ 0 = omega arith in
    record { low = omega arith; at = h; room = l; same = refl; text = wrote_same (ap (λ (n : ℕ). replicate n 0) (sym z)) (wrote_none o s) }

module _ {o₀ o : List ℕ} {s e a : ℕ} (u : Zeros o₀ s e o a) where
  pub zeros_room : a < e → a < length o
  zeros_room h = omega (arith, u.room, u.same)

  pub zeros_more : {o' : List ℕ} {r : ℕ} → a < e → Wrote o a (0 ∷ []) o' r → Zeros o₀ s e o' r
  zeros_more {o'} {r} h w =
      let q : (a - s) + 1 ≡ r - s = omega (arith, u.low, w.end) in
      record {
        low = omega (arith, u.low, w.end);
        at = omega (arith, w.end);
        room = u.room;
        same = wrote_length w (omega (arith, zeros_room h)) ∙ u.same;
        text = wrote_same (replicate-append-replicate (a - s) 1 0 ∙ ap (λ (n : ℕ). replicate n 0) q)
            (wrote_append (omega (arith, u.low, u.at, u.room)) u.text w);
      }

  pub zeros_all : e ≤ a → Wrote o₀ s (replicate (e - s) 0) o a
  zeros_all h = let q : a - s ≡ e - s = omega (arith, u.at) in wrote_same (ap (λ (n : ℕ). replicate n 0) q) u.text

-- The numbers below k that pass a test -----------------------------------------------------------------------------------------------
pub record Picked (p : ℕ → Bool) (k : ℕ) (o₀ : List ℕ) (s : ℕ) (o : List ℕ) (a m : ℕ) : Type 0 where
  pub at : m ≤ k
  pub room : s + length (filter p (up_to k)) ≤ length o₀
  pub same : length o ≡ length o₀
  pub text : Wrote o₀ s (filter p (up_to m)) o a

pub picked_none : (p : ℕ → Bool) (k : ℕ) (o : List ℕ) (s : ℕ) → s + length (filter p (up_to k)) ≤ length o → Picked p k o s o s 0
picked_none p k o s h = record { at = omega arith; room = h; same = refl; text = wrote_none o s }

module _ {p : ℕ → Bool} {k : ℕ} {o₀ o : List ℕ} {s a m : ℕ} (u : Picked p k o₀ s o a m) {b : Bool} (e : b ≡ p m) (h : m < k) where
  pub picked_room : a + length (cons_if b m []) ≤ length o
  picked_room =
      let q : m + 1 + (k - (m + 1)) ≡ k = omega arith in
      let l : length (filter p (up_to k)) ≡ length (filter p (up_to m)) + length (cons_if b m []) + length (filter p (from (m + 1) (k - (m + 1)))) =
      ap (λ (i : ℕ). length (filter p (up_to i))) (sym q)
      ∙ ap length (filter_split p (m + 1) (k - (m + 1))) ∙ length-append (filter p (up_to (m + 1))) (filter p (from (m + 1) (k - (m + 1))))
      ∙ ap (λ (i : ℕ). i + length (filter p (from (m + 1) (k - (m + 1))))) (
      ap length (filter_split p m 1) ∙ length-append (filter p (up_to m)) (cons_if (p m) m [])
      ∙ ap (λ (t : Bool). length (filter p (up_to m)) + length (cons_if t m [])) (sym e)
      ) in
      omega (arith, u.room, u.same, u.text.end, l)

  pub picked_more : {o' : List ℕ} {r : ℕ} → Wrote o a (cons_if b m []) o' r → Picked p k o₀ s o' r (m + 1)
  picked_more {o'} {r} w = record {
    at = omega arith;
    room = u.room;
    same = wrote_length w picked_room ∙ u.same;
    text = wrote_same (ap (λ (t : Bool). filter p (up_to m) ++ cons_if t m []) e ∙ sym (filter_split p m 1)) (wrote_append (omega (arith, u.room)) u.text w);
  }

pub picked_all : {p : ℕ → Bool} {k : ℕ} {o₀ o : List ℕ} {s a m : ℕ} → Picked p k o₀ s o a m → k ≤ m → Wrote o₀ s (filter p (up_to k)) o a
picked_all {p} {k} {o₀} {o} {s} {a} {m} u h =
    let q : m ≡ k = omega (arith, u.at) in
    wrote_same (ap (λ (i : ℕ). filter p (up_to i)) q) u.text

length_none : (l : List ℕ) → length l ≡ 0 → l ≡ []
length_none [] e = refl
length_none (x ∷ l) e = absurd (omega arith)

-- as many are written as there are: nothing is left to pick
module _ {p : ℕ → Bool} {k : ℕ} {o₀ o : List ℕ} {s a m e : ℕ} (u : Picked p k o₀ s o a m) (q : e ≡ s + length (filter p (up_to k))) where
  pub picked_full : e ≤ a → Wrote o₀ s (filter p (up_to k)) o a
  picked_full h =
      let z : m + (k - m) ≡ k = omega (arith, u.at) in
      let all : filter p (up_to k) ≡ filter p (up_to m) ++ filter p (from m (k - m)) = ap (λ (i : ℕ). filter p (up_to i)) (sym z)
      ∙ filter_split p m (k - m) in
      let none : filter p (from m (k - m)) ≡ [] =
      length_none _ (omega (arith, q, u.text.end, ap length all, length-append (filter p (up_to m)) (filter p (from m (k - m))))) in
      wrote_same (sym (all ∙ ap (λ (l : List ℕ). filter p (up_to m) ++ l) none ∙ append-nil (filter p (up_to m)))) u.text

-- below what was looked up
pub below : {m k l : ℕ} → k ≡ l → m < k → m < l
below e h = omega arith

-- is it the method of one of these jobs?
abbrev pub is_method : Table → ℕ → ℕ → Bool
is_method T w m = has (members_in w) (job_of T m)

pub method_test : (T : Table) (w m : ℕ) {j : ℕ} {b : Bool} → j ≡ job_of T m → b ≡ contains (w ∷ []) j → b ≡ is_method T w m
method_test T w m {j} {b} e f = f ∙ ap (λ (i : ℕ). contains (w ∷ []) i) e ∙ word_has w (job_of T m)

-- is it a slot?
abbrev pub is_slot : Table → ℕ → Bool
is_slot T n = not (inner T (record_at (records T) n))

pub slot_test : (T : Table) (n : ℕ) {b : Bool} → b ≡ inner T (record_at (records T) n) → not b ≡ is_slot T n
slot_test T n e = ap not e

pub slots_picked : (T : Table) → slot_nodes T 0 (records T) ≡ filter (is_slot T) (up_to (length (source T).nodes))
slots_picked T = from_there (length (records T)) 0 (omega arith) ∙ ap (λ (k : ℕ). filter (is_slot T) (up_to k)) (sym (nodes_length T (records T) 0 1))
  where
    from_there : (m n : ℕ) → n + m ≡ length (records T) → slot_nodes T n (drop n (records T)) ≡ filter (is_slot T) (from n m)
    from_there zero n e = ap (slot_nodes T n) (drop_of_length-le (records T) {i = n} (omega arith))
    from_there (suc m) n e =
        ap (slot_nodes T n) (drop-cons (records T) n no_record (omega arith))
        ∙ go (inner T (record_at (records T) n)) (from_there m (suc n) (omega arith))
      where
        go : (i : Bool) → slot_nodes T (suc n) (drop (suc n) (records T)) ≡ filter (is_slot T) (from (suc n) m)
            → cond i (slot_nodes T (suc n) (drop (suc n) (records T))) (n ∷ slot_nodes T (suc n) (drop (suc n) (records T)))
            ≡ cons_if (not i) n (filter (is_slot T) (from (suc n) m))
        go true q = q
        go false q = ap (λ (l : List ℕ). n ∷ l) q

pub slots_none : (T : Table) (o : List ℕ) (s : ℕ) → s + length (slot_nodes T 0 (records T)) ≤ length o
    → Picked (is_slot T) (length (source T).nodes) o s o s 0
slots_none T o s h = picked_none (is_slot T) (length (source T).nodes) o s (omega (arith, h, ap length (slots_picked T)))

pub slots_all : (T : Table) {o₀ o : List ℕ} {s a n : ℕ} → Picked (is_slot T) (length (source T).nodes) o₀ s o a n → length (source T).nodes ≤ n
    → Wrote o₀ s (slot_nodes T 0 (records T)) o a
slots_all T {o₀} {o} {s} {a} {n} u h = wrote_same (sym (slots_picked T)) (picked_all u h)

-- What f gives for each of some things -----------------------------------------------------------------------------------------------
module _ {A : Type 0} where
  pub record Each (f : A → List ℕ) (xs : List A) (o₀ : List ℕ) (s : ℕ) (o : List ℕ) (a n : ℕ) : Type 0 where
    pub at : n ≤ length xs
    pub room : s + length (concat_map f xs) ≤ length o₀
    pub same : length o ≡ length o₀
    pub text : Wrote o₀ s (concat_map f (take n xs)) o a

  pub each_none : (f : A → List ℕ) (xs : List A) (o : List ℕ) (s : ℕ) → s + length (concat_map f xs) ≤ length o → Each f xs o s o s 0
  each_none f xs o s h = record { at = omega arith; room = h; same = refl; text = wrote_none o s }

  each_next : (f : A → List ℕ) (xs : List A) (d : A) (n : ℕ) → n < length xs → concat_map f (take (n + 1) xs) ≡ concat_map f (take n xs) ++ f (get_or xs n d)
  each_next f xs d n h =
      let q : n + 1 ≡ suc n = omega arith in
      ap (λ (i : ℕ). concat_map f (take i xs)) q ∙ ap (concat_map f) (take-suc xs n d h) ∙ concat_map_append f (take n xs) (get_or xs n d ∷ [])
      ∙ ap (λ (l : List ℕ). concat_map f (take n xs) ++ l) (append-nil (f (get_or xs n d)))

  module _ {f : A → List ℕ} {xs : List A} {o₀ o : List ℕ} {s a n : ℕ} (u : Each f xs o₀ s o a n) (d : A) (h : n < length xs) where
    pub each_room : a + length (f (get_or xs n d)) ≤ length o
    each_room =
        let e = ap length (each_next f xs d n h) ∙ length-append (concat_map f (take n xs)) (f (get_or xs n d)) in
        let g = ap (λ (l : List A). length (concat_map f l)) (take-append-drop (n + 1) xs) in
        let k = ap length (concat_map_append f (take (n + 1) xs) (drop (n + 1) xs))
        ∙ length-append (concat_map f (take (n + 1) xs)) (concat_map f (drop (n + 1) xs)) in
        omega (arith, u.room, u.same, u.text.end, e, g, k)

    pub each_more : {o' : List ℕ} {r : ℕ} → Wrote o a (f (get_or xs n d)) o' r → Each f xs o₀ s o' r (n + 1)
    each_more {o'} {r} w = record {
      at = omega arith;
      room = u.room;
      same = wrote_length w each_room ∙ u.same;
      text = wrote_same (sym (each_next f xs d n h)) (wrote_append (omega (arith, u.room)) u.text w);
    }

  pub each_all : {f : A → List ℕ} {xs : List A} {o₀ o : List ℕ} {s a n : ℕ} → Each f xs o₀ s o a n → length xs ≤ n → Wrote o₀ s (concat_map f xs) o a
  each_all {f} {xs} {o₀} {o} {s} {a} {n} u h = wrote_same (ap (concat_map f) (take_all n xs h)) u.text

-- The nodes, with the first variable of each -----------------------------------------------------------------------------------------
pub record Numbered (T : Table) (o₀ : List ℕ) (s : ℕ) (o : List ℕ) (a v n : ℕ) : Type 0 where
  pub each : Each node_words (source T).nodes o₀ s o a n
  pub first : v ≡ first_var T (records T) n

pub numbered_none : (T : Table) (o : List ℕ) (s : ℕ) → s + length (concat_map node_words (source T).nodes) ≤ length o → Numbered T o s o s 1 0
numbered_none T o s h = record { each = each_none node_words (source T).nodes o s h; first = refl }

module _ {T : Table} {ws o₀ o : List ℕ} {s a v n : ℕ} (u : Numbered T o₀ s o a v n) (t : AtNode T ws n) where
  pub numbered_first : v ≡ (node T n).first
  numbered_first = u.first ∙ sym (first_is t)

  pub numbered_room : a + 15 ≤ length o
  numbered_room =
      let c : ℕ → ℕ = λ y. (child_at (node T n) y).node in
      omega (arith, each_room u.each no_node t.inside, length-map (up_to 8) c, length_from 0 8)

  pub numbered_fits : {x : ℕ} → x ≡ own T (record_at (records T) n) → v + x ≤ 8192
  numbered_fits {x} e = omega (arith, u.first, e, first_on t, first_most t.stands (n + 1))

  pub numbered_more : {o' : List ℕ} {r x : ℕ} → Wrote o a (node_words (node T n)) o' r → x ≡ own T (record_at (records T) n)
      → Numbered T o₀ s o' r (v + x) (n + 1)
  numbered_more {o'} {r} {x} w e = record { each = each_more u.each no_node t.inside w; first = omega (arith, u.first, e, first_on t) }
