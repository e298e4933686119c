-- The loops' invariants: how each starts, goes on and ends.
-- By the laws of members and words.
use Rattle.std.proofs.Common.{◌≡◌, ℕ, zero, suc, fold, ◌+◌, ◌-◌, ◌*◌, ◌%◌, ◌^◌, ◌<◌, ◌≤◌, min, true, false, List, [], ◌∷◌, ◌++◌, length, get_or, take, drop, set, sym, refl, ap, ◌∙◌, add-one, arith, length-append, length-set, take_all, drop-cons, take_at}
use Rattle.std.proofs.lemmas.List.{drop_all}
use mir.Syntax.{w64}
use mir.Val.{Fits}
use lib.Count.{ones}
use lib.Seq.{set_at, append_snoc}
use Rattle.lists.specs.List.{filter, from}
use Rattle.bitset.specs.Set.{onto, contains, members_below, members, Listed}
use mathlib.Core.Logic.{◌⊎◌, inl, inr}
use Rattle.lists.proofs.Order.{le_or_lt}
use Rattle.bitset.proofs.Members.{below_add, below_member, below_other, below_end, count_word}
use Rattle.bitset.proofs.Words.{onto_none, onto_more, onto_enough}

-- `size`: n counts the members in the words before k ---------------------------------------------------------------------
pub record Counted (ws : List ℕ) (n k : ℕ) : Type 0 where
  pub at : k ≤ length ws
  pub count : n ≡ length (members_below ws (64 * k)) % 2 ^ 64

pub counted_none : (ws : List ℕ) → Counted ws 0 0
counted_none ws = record { at = omega arith; count = refl }

pub counted_word : {ws : List ℕ} {n k : ℕ} → Counted ws n k → k < length ws → get_or ws k 0 < 2 ^ 64
    → Counted ws ((n + ones (get_or ws k 0)) % 2 ^ 64) (k + 1)
counted_word {ws} {n} {k} u h f = record { at = omega arith; count = omega (arith, u.count, count_word ws k f) }

pub counted_all : {ws : List ℕ} {n k : ℕ} → Counted ws n k → length ws ≤ k → n ≡ length (members ws) % 2 ^ 64
counted_all {ws} {n} {k} u h = let e : k ≡ length ws = omega (arith, u.at) in rw e at u.count

-- a fold that adds the digits set in each word counts all members
pub counted_fold : (ws : List ℕ) → ((i : ℕ) → Fits w64 (get_or ws i 0)) → fold (λ (n w : ℕ). (n + ones w) % 2 ^ 64) 0 ws ≡ length (members ws) % 2 ^ 64
counted_fold ws fits = go (length ws) 0 0 (omega arith) (counted_none ws)
  where
    go : (d k n : ℕ) → d + k ≡ length ws → Counted ws n k → fold (λ (n w : ℕ). (n + ones w) % 2 ^ 64) n (drop k ws) ≡ length (members ws) % 2 ^ 64
    go zero k n e u =
        let h : length ws ≤ k = omega arith in
        rw (drop_all k ws h) (counted_all u h)
    go (suc d) k n e u =
        let h : k < length ws = omega arith in
        rw (drop-cons ws k 0 h)
        (go d (suc k) ((n + ones (get_or ws k 0)) % 2 ^ 64) (omega arith) (rw (add-one k) at (counted_word u h (fits k).fits)))

-- `unite` and `subtract`: the words before k are combined with their partners ----------------------------------------------
pub record Combined (f : ℕ → ℕ → ℕ) (ws₀ vs ws : List ℕ) (k : ℕ) : Type 0 where
  pub same : length ws ≡ length ws₀
  pub words : ws ≡ onto f ws₀ (take k vs)

module _ {f : ℕ → ℕ → ℕ} where
  pub combined_none : (ws vs : List ℕ) → Combined f ws vs ws 0
  combined_none ws vs = record { same = refl; words = sym (onto_none f ws) }

  pub combined_word : {ws₀ vs ws : List ℕ} {k : ℕ} → Combined f ws₀ vs ws k → k < length vs
      → Combined f ws₀ vs (set ws k (f (get_or ws k 0) (get_or vs k 0))) (k + 1)
  combined_word {ws₀} {vs} {ws} {k} u h =
      record {
        same = simp length-set u.same;
        words = rw (add-one k, u.words) (onto_more f ws₀ vs k h);
      }

  -- it ends where either list does
  pub combined_end : {ws₀ vs ws : List ℕ} {k e : ℕ} → Combined f ws₀ vs ws k → e ≡ min (length ws₀) (length vs) → e ≤ k → ws ≡ onto f ws₀ vs
  combined_end {ws₀} {vs} {ws} {k} {e} u m h = u.words ∙ go (le_or_lt (length vs) k)
    where
      go : (length vs ≤ k) ⊎ (k < length vs) → onto f ws₀ (take k vs) ≡ onto f ws₀ vs
      go (inl l) = ap (onto f ws₀) (take_all k vs l)
      go (inr l) = onto_enough f ws₀ vs k (omega arith)

-- `list`: the members below i stand at the front of o, r of them -------------------------------------------------------------
pub record Written (ws o₀ o : List ℕ) (e r i : ℕ) : Type 0 where
  pub at : i ≤ e
  pub same : length o ≡ length o₀
  pub count : r ≡ length (members_below ws i)
  pub text : o ≡ members_below ws i ++ drop r o₀

pub written_none : (ws o : List ℕ) (e : ℕ) → Written ws o o e 0 0
written_none ws o e = record { at = omega arith; same = refl; count = refl; text = refl }

-- no more stand there than there is room for
pub written_room : {ws o₀ o : List ℕ} {e r i : ℕ} → Written ws o₀ o e r i → r ≤ length o
written_room {ws} {o₀} {o} {e} {r} {i} u = omega (arith, u.count, u.same, ap length u.text, length-append (members_below ws i) (drop r o₀))

pub written_member : {ws o₀ o : List ℕ} {e r i : ℕ} → Written ws o₀ o e r i → i < e → r < length o → contains ws i ≡ true
    → Written ws o₀ (set o r i) e (r + 1) (i + 1)
written_member {ws} {o₀} {o} {e} {r} {i} u h l t =
    let s : r < length o₀ = omega (arith, u.same) in
    record {
      at = omega arith;
      same = simp length-set u.same;
      count = rw (below_member ws i t) (omega (arith, u.count, length-append (members_below ws i) (i ∷ [])));
      text =
          rw (below_member ws i t, add-one r, append_snoc (members_below ws i) i (drop (suc r) o₀))
          (ap (λ (x : List ℕ). set x r i) (u.text ∙ ap (λ (x : List ℕ). members_below ws i ++ x) (drop-cons o₀ r 0 s))
          ∙ set_at (members_below ws i) (get_or o₀ r 0) (drop (suc r) o₀) i r (sym u.count));
    }

pub written_other : {ws o₀ o : List ℕ} {e r i : ℕ} → Written ws o₀ o e r i → i < e → contains ws i ≡ false → Written ws o₀ o e r (i + 1)
written_other {ws} {o₀} {o} {e} {r} {i} u h t =
    record { at = omega arith; same = u.same; count = rw (below_other ws i t) u.count; text = rw (below_other ws i t) u.text }

-- it ends where there is no room for another, and where there is no number left
pub written_full : {ws o₀ o : List ℕ} {e r i : ℕ} (n : ℕ) → Written ws o₀ o e r i → e ≤ n → length o ≤ r → Listed (members_below ws n) o₀ o r
written_full {ws} {o₀} {o} {e} {r} {i} n u h l =
    let ms : List ℕ = members_below ws i in
    let xs : List ℕ = filter (contains ws) (from i (n - i)) in
    let s : n ≡ i + (n - i) = omega (arith, u.at) in
    rw (s, below_add ws i (n - i))
    record {
      count = omega (arith, length-append ms xs, u.count, u.same, ap length u.text, length-append ms (drop r o₀));
      text = rw (take_at ms xs r (sym u.count)) u.text;
    }

pub written_all : {ws o₀ o : List ℕ} {e r i : ℕ} (n : ℕ) → Written ws o₀ o e r i → e ≡ min n (64 * length ws) → e ≤ i
    → Listed (members_below ws n) o₀ o r
written_all {ws} {o₀} {o} {e} {r} {i} n u h l =
    let ms : List ℕ = members_below ws i in
    let s : min n (64 * length ws) ≡ i = omega (arith, u.at) in
    rw (← below_end ws n, s)
    record {
      count = omega (arith, u.count, u.same, ap length u.text, length-append ms (drop r o₀));
      text = rw (take_all r ms (omega (arith, u.count))) u.text;
    }
