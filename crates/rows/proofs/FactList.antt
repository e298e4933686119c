-- A list of facts as a set: name after name, as the code goes.
-- The names passed are in the set, and those left tell whether question 7 is met.
use mathlib.Core.Path.{◌≡◌, refl, sym, ap, ◌∙◌}
use mathlib.Core.Bool.{Bool, true, false, not, ◌&&◌, ◌||◌}
use mathlib.Core.List.{List, [], ◌∷◌, map}
use Prim.Native.Nat.{ℕ, ◌/◌, ◌≤◌, ◌<◌, ◌*◌}
use native.Mathlib.Omega.{arith}
use lib.Dec.{eqb}
use lib.ListN.{length, replicate, length-replicate}
use borrow.Author.Tests.{lt-ltb, eq-eqb, ne_eqb, eqb-true}
use Rattle.lists.specs.List.{all, has, up_to, none_twice, filter}
use Rattle.lists.proofs.Bool.{and_on, or_off, and_l}
use Rattle.lists.proofs.Member.{filter_same, has_not, in_map_out, all_out}
use Rattle.lists.proofs.Place.{filter_enough}
use Rattle.bitset.specs.Set.{contains, inserted}
use Rattle.bitset.proofs.Promises.{promises}
use Rattle.grammar.specs.Name.{Name}
use Rattle.outline.specs.Names.{among, number_of}
use Rattle.rows.specs.Uses.{are_facts, facts_of}
use Rattle.rows.specs.Answers.{FactsMean}
use Rattle.rows.proofs.Counts.{number_lt}

-- the names are facts, none of them twice and none of them among ds
unfoldable pub ok_from : List Name → List ℕ → List Name → Bool
ok_from fs ds [] = true
ok_from fs ds (m ∷ ms) = among fs m && (not (has ds (number_of fs m)) && ok_from fs (number_of fs m ∷ ds) ms)

or_swap : (a b c : Bool) → ((a || b) || c) ≡ (b || (a || c))
or_swap true true c = refl
or_swap true false c = refl
or_swap false true c = refl
or_swap false false c = refl

fresh : List ℕ → List ℕ → Bool
fresh ds ks = all (λ x. not (has ds x)) ks

eqb_swap : (a b : ℕ) → eqb a b ≡ eqb b a
eqb_swap a b = go (eqb a b) refl
  where
    go : (t : Bool) → eqb a b ≡ t → t ≡ eqb b a
    go true e = sym (eq-eqb b a (sym (eqb-true a b e)))
    go false e = sym (ne_eqb b a (λ q. let z : ◌≡◌ {A = ℕ} 0 1 = cc (eq-eqb a b (sym q)) in omega arith))

fresh_cons : (k : ℕ) (ds ks : List ℕ) → fresh (k ∷ ds) ks ≡ (not (has ks k) && fresh ds ks)
unfolding fresh
fresh_cons k ds [] = refl
fresh_cons k ds (x ∷ ks) = rw (fresh_cons k ds ks, eqb_swap x k) (mix (eqb k x) (has ds x) (has ks k) (fresh ds ks))
  where
    mix : (a d h r : Bool) → (not (a || d) && (not h && r)) ≡ (not (a || h) && (not d && r))
    mix true d h r = refl
    mix false true true r = refl
    mix false true false r = refl
    mix false false true r = refl
    mix false false false r = refl

shuffle : (a h x n k r : Bool) → (a && (h && (x && (n && (k && r))))) ≡ ((a && x) && ((k && n) && (h && r)))
shuffle false h x n k r = refl
shuffle true false false n k r = refl
shuffle true false true n false r = refl
shuffle true false true false true r = refl
shuffle true false true true true r = refl
shuffle true true false n k r = refl
shuffle true true true false false r = refl
shuffle true true true false true r = refl
shuffle true true true true false r = refl
shuffle true true true true true r = refl

ok_is : (fs : List Name) (ds : List ℕ) (ms : List Name) → ok_from fs ds ms ≡ (all (among fs) ms && (none_twice eqb (map (number_of fs) ms) && fresh ds (map (number_of fs) ms)))
unfolding ok_from fresh
ok_is fs ds [] = refl
ok_is fs ds (m ∷ ms) =
    let k = number_of fs m in
    let ks = map (number_of fs) ms in
    ap (λ (t : Bool). among fs m && (not (has ds k) && t)) (ok_is fs (k ∷ ds) ms ∙ ap (λ (t : Bool). all (among fs) ms && (none_twice eqb ks && t)) (fresh_cons k ds ks))
    ∙ shuffle (among fs m) (not (has ds k)) (all (among fs) ms) (none_twice eqb ks) (not (has ks k)) (fresh ds ks)

fresh_none : (ks : List ℕ) → fresh [] ks ≡ true
unfolding fresh
fresh_none [] = refl
fresh_none (k ∷ ks) = fresh_none ks

ok_facts : (fs ms : List Name) → ok_from fs [] ms ≡ are_facts fs ms
unfolding are_facts
ok_facts fs ms = rw (ok_is fs [] ms, fresh_none (map (number_of fs) ms), and_on)

-- The set so far -------------------------------------------------------------------------------------------------------------
-- ws, of n words, has the numbers of the names passed, of all the names `every`; ms are left
pub record Adding (n : ℕ) (fs every ms : List Name) (ws : List ℕ) : Type 0 where
  pub done : List ℕ
  pub told : ok_from fs done ms ≡ are_facts fs every
  pub word : (k : ℕ) → contains ws k ≡ has done k
  pub sum : (k : ℕ) → (has done k || has (map (number_of fs) ms) k) ≡ has (map (number_of fs) every) k
  pub wide : length ws ≡ n

no_member : (n k : ℕ) → contains (replicate n 0) k ≡ false
no_member n k = promises.member (replicate n 0) k ∙ ap (λ (l : List ℕ). has l k) (promises.made n [] tt)

pub adding_first : (n : ℕ) (fs every ms : List Name) → every ≡ ms → Adding n fs every ms (replicate n 0)
adding_first n fs every ms e =
    rw e (record { done = []; told = ok_facts fs ms; word = no_member n; sum = λ k. refl; wide = length-replicate n 0 })

module _ {n : ℕ} {fs every ns ms : List Name} {m : Name} {ws : List ℕ} (v : Adding n fs every ns ws) (q : ns ≡ m ∷ ms) where
  u : Adding n fs every (m ∷ ms) ws
  u = rw q at v

  pub adding_out : among fs m ≡ false → are_facts fs every ≡ false
  unfolding ok_from
  adding_out h = let e : ok_from fs u.done (m ∷ ms) ≡ false = rw h in sym u.told ∙ e

  one_more : among fs m ≡ true → length fs ≤ 64 * n → contains ws (number_of fs m) ≡ false → Adding n fs every ms (inserted ws (number_of fs m))
  one_more h l t =
      let k = number_of fs m in
      let z : k / 64 < length ws = omega (arith, u.wide, number_lt fs m h) in
      let e : ok_from fs u.done (m ∷ ms) ≡ ok_from fs (k ∷ u.done) ms = unfold ok_from in rw (h, sym (u.word k) ∙ t) in
      record {
        done = k ∷ u.done;
        told = sym e ∙ u.told;
        word = λ i. promises.insert ws k i ∙ rw (lt-ltb (k / 64) (length ws) z, and_on, u.word i) (or_comm (has u.done i) (eqb i k));
        sum = λ i. or_swap (eqb i k) (has u.done i) (has (map (number_of fs) ms) i) ∙ u.sum i;
        wide = promises.insert_length ws k ∙ u.wide;
      }
    where
      or_comm : (a b : Bool) → (a || b) ≡ (b || a)
      or_comm true true = refl
      or_comm true false = refl
      or_comm false true = refl
      or_comm false false = refl

  -- the name is that of fact k
  module _ {k : ℕ} (f : (among fs m ≡ true) × (k ≡ number_of fs m)) where
    pub adding_twice : contains ws k ≡ true → are_facts fs every ≡ false
    unfolding ok_from
    adding_twice t = let e : ok_from fs u.done (m ∷ ms) ≡ false = rw (f.0, ← f.1, ← u.word k, t) in sym u.told ∙ e

    pub adding_more : length fs ≤ 64 * n → contains ws k ≡ false → Adding n fs every ms (inserted ws k)
    adding_more l t = rw f.1 (one_more f.0 l (rw f.1 at t))

-- no number of a declared fact lies at or past their count
past_none : (fs every : List Name) → are_facts fs every ≡ true → (k : ℕ) → length fs ≤ k → has (map (number_of fs) every) k ≡ false
unfolding are_facts
past_none fs every e k h = has_not (map (number_of fs) every) k (λ i.
    let r = in_map_out (number_of fs) k every i in
    let a = all_out (among fs) every (and_l (all (among fs) every) (none_twice eqb (map (number_of fs) every)) e) r.0 r.1 in
    let l = number_lt fs r.0 a in
    omega (arith, r.2))

pub adding_done : {n : ℕ} {fs every : List Name} {ws : List ℕ} → length fs ≤ 64 * n → Adding n fs every [] ws
    → (are_facts fs every ≡ true) × FactsMean n fs every ws
unfolding ok_from facts_of
adding_done {n} {fs} {every} {ws} l u =
    let p = has (map (number_of fs) every) in
    let w : 64 * length ws ≡ 64 * n = omega (arith, u.wide) in
    let e : are_facts fs every ≡ true = sym u.told in (
      e,
      record {
        set = filter_same (contains ws) p (up_to (64 * length ws)) (λ k i. u.word k ∙ sym (or_off (has u.done k)) ∙ u.sum k)
            ∙ ap (λ (k : ℕ). filter p (up_to k)) w ∙ filter_enough p (64 * n) (length fs) l (past_none fs every e);
        wide = u.wide;
      },
    )
