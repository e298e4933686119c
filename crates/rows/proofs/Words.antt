-- Words in part of a list, and words put into part of one.
-- What stands in the part stands in the whole, and what is put into a part leaves the words before it.
use mathlib.Core.Path.{◌≡◌, sym, ap, ◌∙◌}
use mathlib.Core.List.{List, [], ◌++◌}
use Prim.Native.Nat.{ℕ, ◌+◌, ◌*◌, ◌≤◌, ◌<◌}
use native.Mathlib.Omega.{arith}
use lib.ListN.{length, get_or, take, length-map, length-take, get_or-append}
use lib.Seq.{get_or-append-add, get_or-take}
use Rattle.lists.specs.List.{up_to}
use Rattle.lists.proofs.Number.{length_from}
use Rattle.lists.proofs.Place.{listed, get_d_map_from}
use Rattle.bitset.specs.Set.{members}
use Rattle.rows.specs.Words.{fact_words, step_words, words_at, set_at, step_at, Kept}

-- o has the words of xs from the place k on
pub record Has (xs : List ℕ) (k : ℕ) (o : List ℕ) : Type 0 where
  pub at : (i : ℕ) → i < length xs → get_or o (k + i) 0 ≡ get_or xs i 0

-- xs put between ys and zs
module _ (ys xs zs : List ℕ) where
  pub has_mid : Has xs (length ys) (ys ++ (xs ++ zs))
  has_mid = record { at = λ i h. get_or-append-add ys (xs ++ zs) i 0 ∙ get_or-append xs zs 0 i h }

-- what stands in the later part of a list
pub has_later : (xs o : List ℕ) (zs : List ℕ) (m : ℕ) {n k : ℕ} → length xs ≡ n → k ≡ n + m → Has zs m o → Has zs k (xs ++ o)
has_later xs o zs m {n} {k} e d u = record {
  at = λ i h. let z : k + i ≡ length xs + (m + i) = omega (arith, e, d) in rw z (get_or-append-add xs o (m + i) 0 ∙ u.at i h);
}

pub has_first : (xs zs : List ℕ) → Has xs 0 (xs ++ zs)
has_first xs zs = has_mid [] xs zs

pub has_all : (xs : List ℕ) → Has xs 0 xs
has_all xs = record { at = λ i h. let z : 0 + i ≡ i = omega arith in ap (λ (j : ℕ). get_or xs j 0) z }

-- put into o from the place k on
module _ (k : ℕ) (o xs bs : List ℕ) (h : k ≤ length o) where
  long : length (take k o) ≡ k
  long = omega (arith, length-take k o)

  pub has_put : Has xs k (take k o ++ (xs ++ bs))
  has_put = rw long at (has_mid (take k o) xs bs)

  pub kept_put : Kept k o (take k o ++ (xs ++ bs))
  kept_put = record { at = λ p g. get_or-append (take k o) (xs ++ bs) 0 p (omega (arith, long)) ∙ get_or-take k o p 0 g }

-- words, sets and steps that stand there
pub words_has : (xs o : List ℕ) (k : ℕ) {n : ℕ} → length xs ≡ n → Has xs k o → words_at o k n ≡ xs
words_has xs o k {n} e u = listed (λ i. get_or o (k + i) 0) 0 n xs (sym e) (λ i h. u.at i (omega arith))

module _ (xs o : List ℕ) (k p : ℕ) (u : Has xs k o) where
  pub words_in : (n : ℕ) → p + n ≤ length xs → words_at o (k + p) n ≡ words_at xs p n
  words_in n h =
      listed (λ i. get_or o (k + p + i) 0) 0 n (words_at xs p n) (sym (length-map (up_to n) (λ i. get_or xs (p + i) 0) ∙ length_from 0 n))
      (λ i g. let z : k + p + i ≡ k + (p + i) = omega arith in
      rw z (u.at (p + i) (omega arith) ∙ sym (get_d_map_from (λ i. get_or xs (p + i) 0) 0 n i 0 g ∙ ap (λ (j : ℕ). get_or xs (p + j) 0) (plain i))))
    where
      plain : (i : ℕ) → 0 + i ≡ i
      plain i = omega arith

  pub set_in : p + fact_words ≤ length xs → set_at o (k + p) ≡ set_at xs p
  set_in h = ap members (words_in fact_words h)

pub step_in : (xs o : List ℕ) (k p : ℕ) → Has xs k o → p + step_words ≤ length xs → step_at o (k + p) ≡ step_at xs p
step_in xs o k p u h =
    let a = set_in xs o k p u (omega arith) in
    let b = set_in xs o k (p + fact_words) u (omega arith) in
    let c = set_in xs o k (p + 2 * fact_words) u (omega arith) in
    let y : k + (p + fact_words) ≡ k + p + fact_words = omega arith in
    let z : k + (p + 2 * fact_words) ≡ k + p + 2 * fact_words = omega arith in
    let b' = rw y at b in
    let c' = rw z at c in
    λ i. record { needs = a i; sets = b' i; clears = c' i }

pub words_kept : {o o' : List ℕ} {n : ℕ} (p m : ℕ) → p + m ≤ n → Kept n o o' → words_at o' p m ≡ words_at o p m
words_kept {o} {o'} {n} p m h k =
    listed (λ i. get_or o' (p + i) 0) 0 m (words_at o p m) (sym (length-map (up_to m) (λ i. get_or o (p + i) 0) ∙ length_from 0 m))
    (λ i g. k.at (p + i) (omega arith) ∙ sym (get_d_map_from (λ i. get_or o (p + i) 0) 0 m i 0 g ∙ ap (λ (j : ℕ). get_or o (p + j) 0) (plain i)))
  where
    plain : (i : ℕ) → 0 + i ≡ i
    plain i = omega arith

pub step_kept : {o o' : List ℕ} {n : ℕ} (p : ℕ) → p + step_words ≤ n → Kept n o o' → step_at o' p ≡ step_at o p
step_kept p h k =
    let a = ap members (words_kept p fact_words (omega arith) k) in
    let b = ap members (words_kept (p + fact_words) fact_words (omega arith) k) in
    let c = ap members (words_kept (p + 2 * fact_words) fact_words (omega arith) k) in
    λ i. record { needs = a i; sets = b i; clears = c i }
