-- Parts and lines put together are cut apart again, and cut apart they are put together again.
-- By recursion on the bytes.
use mathlib.Core.Path.{◌≡◌, refl, sym, ap, ap₂, ◌∙◌, subst}
use mathlib.Core.Bool.{Bool, true, false, not}
use mathlib.Core.List.{List, [], ◌∷◌, ◌++◌, append_assoc}
use mathlib.Core.Logic.{◌↔◌}
use Prim.Native.Nat.{ℕ, suc, ◌-◌, ◌≤◌}
use native.Mathlib.Omega.{arith}
use lib.ListN.{length, get_or}
use lib.Dec.{eqb}
use Rattle.lists.specs.List.{all, Every, concat_map}
use Rattle.lists.proofs.Bool.{clash, not-true, eqb_sound, eqb_same}
use Rattle.lists.proofs.Member.{all_out}
use Rattle.lists.proofs.Every.{every_of}
use Rattle.lines.specs.Bytes.{LF}
use Rattle.lines.specs.Parts.{push, put_byte, split, ended}
use Rattle.solver.specs.File.{all_ended}

-- byte k does not stand among these
abbrev pub Without : ℕ → List ℕ → Type 0
Without k bs = Every (λ (b : ℕ). eqb b k ≡ false) bs

pub without_of : (k : ℕ) (bs : List ℕ) → all (λ b. not (eqb b k)) bs ≡ true → Without k bs
without_of k bs h = every_of (λ (b : ℕ). eqb b k ≡ false) bs (λ b m. not-true (eqb b k) (all_out (λ b. not (eqb b k)) bs h b m))

-- The parts that k parts -------------------------------------------------------------------------------------------------------
module _ (k : ℕ) where
  pub split_cons : (p rest : List ℕ) → Without k p → split k (p ++ (k ∷ rest)) ≡ p ∷ split k rest
  unfolding split
  split_cons [] rest h = rw (eqb_same k)
  split_cons (b ∷ p) rest h = rw h.0 (ap (push b) (split_cons p rest h.1))

  pub split_one : (p : List ℕ) → Without k p → split k p ≡ p ∷ []
  unfolding split
  split_one [] h = refl
  split_one (b ∷ p) h = rw h.0 (ap (push b) (split_one p h.1))

  -- k in front of each part
  abbrev pub led : List (List ℕ) → List ℕ
  led ps = concat_map (λ p. k ∷ p) ps

  pub split_out : (bs : List ℕ) → k ∷ bs ≡ led (split k bs)
  unfolding split
  split_out [] = refl
  split_out (b ∷ bs) = go (eqb b k) refl (split k bs) (split_out bs)
    where
      go : (c : Bool) → eqb b k ≡ c → (ps : List (List ℕ)) → k ∷ bs ≡ led ps → k ∷ b ∷ bs ≡ led (put_byte c b ps)
      go true p ps h = ap (λ (xs : List ℕ). k ∷ xs) (ap (λ (x : ℕ). x ∷ bs) (eqb_sound b k p) ∙ h)
      go false p [] h = absurd (let z : ◌≡◌ {A = ℕ} 0 1 = cc in omega arith)
      go false p (q ∷ qs) h = let z : bs ≡ q ++ led qs = cc in ap (λ (xs : List ℕ). k ∷ b ∷ xs) z

  pub split_some : (bs : List ℕ) → 1 ≤ length (split k bs)
  unfolding split
  split_some [] = omega arith
  split_some (b ∷ bs) = go (eqb b k) (split k bs) (split_some bs)
    where
      go : (c : Bool) (ps : List (List ℕ)) → 1 ≤ length ps → 1 ≤ length (put_byte c b ps)
      go true ps h = omega arith
      go false [] h = absurd (omega arith)
      go false (p ∷ ps) h = omega arith

  -- The parts that k ends ------------------------------------------------------------------------------------------------------
  pub ended_cons : (l rest : List ℕ) → Without k l → ended k (l ++ (k ∷ rest)) ≡ l ∷ ended k rest
  unfolding ended
  ended_cons [] rest h = rw (eqb_same k)
  ended_cons (b ∷ l) rest h = rw h.0 (ap (push b) (ended_cons l rest h.1))

  ended_without : (bs : List ℕ) → Every (Without k) (ended k bs)
  unfolding ended
  ended_without [] = tt
  ended_without (b ∷ bs) = go (eqb b k) refl (ended k bs) (ended_without bs)
    where
      go : (c : Bool) → eqb b k ≡ c → (ls : List (List ℕ)) → Every (Without k) ls → Every (Without k) (put_byte c b ls)
      go true p ls h = (tt, h)
      go false p [] h = tt
      go false p (l ∷ ls) h = ((p, h.0), h.1)

-- Lines ------------------------------------------------------------------------------------------------------------------------
-- LF after each
abbrev pub joined : List (List ℕ) → List ℕ
joined ls = concat_map (λ l. l ++ (LF ∷ [])) ls

-- the last byte is that of the rest
all_ended_on : (b : ℕ) (bs : List ℕ) → 1 ≤ length bs → all_ended (b ∷ bs) ≡ all_ended bs
all_ended_on b [] h = absurd (omega arith)
all_ended_on b (c ∷ cs) h = let z : length (b ∷ c ∷ cs) - 1 ≡ suc (length (c ∷ cs) - 1) = omega arith in ap (λ (i : ℕ). eqb (get_or (b ∷ c ∷ cs) i 0) LF) z

pub all_ended_append : (xs ys : List ℕ) → 1 ≤ length ys → all_ended (xs ++ ys) ≡ all_ended ys
all_ended_append [] ys h = refl
all_ended_append (x ∷ xs) ys h = all_ended_on x (xs ++ ys) (some xs) ∙ all_ended_append xs ys h
  where
    some : (xs : List ℕ) → 1 ≤ length (xs ++ ys)
    some [] = h
    some (x ∷ xs) = omega arith

record LinesOf (bs : List ℕ) (ls : List (List ℕ)) : Type 0 where
  bytes : bs ≡ joined ls
  several : 1 ≤ length ls

lines_out : (bs : List ℕ) → all_ended bs ≡ true → LinesOf bs (ended LF bs)
unfolding ended
lines_out [] h = clash h refl
lines_out (b ∷ []) h = let e = eqb_sound b LF h in rw e (record { bytes = refl; several = omega arith })
lines_out (b ∷ c ∷ cs) h = go (eqb b LF) refl (ended LF (c ∷ cs)) (lines_out (c ∷ cs) (sym (all_ended_on b (c ∷ cs) (omega arith)) ∙ h))
  where
    go : (t : Bool) → eqb b LF ≡ t → (ls : List (List ℕ)) → LinesOf (c ∷ cs) ls → LinesOf (b ∷ c ∷ cs) (put_byte t b ls)
    go true p ls r = record { bytes = ap₂ (λ (x : ℕ) (xs : List ℕ). x ∷ xs) (eqb_sound b LF p) r.bytes; several = omega arith }
    go false p [] r = absurd (omega (arith, r.several))
    go false p (l ∷ ls) r = record { bytes = ap (λ (xs : List ℕ). b ∷ xs) r.bytes; several = omega arith }

pub lines_in : (ls : List (List ℕ)) → Every (Without LF) ls → ended LF (joined ls) ≡ ls
unfolding ended
lines_in [] h = refl
lines_in (l ∷ ls) h =
    ap (ended LF) (append_assoc l (LF ∷ []) (joined ls)) ∙ (ended_cons LF l (joined ls) h.0 ∙ ap (λ (ks : List (List ℕ)). l ∷ ks) (lines_in ls h.1))

pub all_ended_in : (ls : List (List ℕ)) → 1 ≤ length ls → all_ended (joined ls) ≡ true
all_ended_in [] h = absurd (omega arith)
all_ended_in (l ∷ []) h = ap all_ended (append_assoc l (LF ∷ []) []) ∙ all_ended_append l (LF ∷ []) (omega arith)
all_ended_in (l ∷ k ∷ ks) h = all_ended_append (l ++ (LF ∷ [])) (joined (k ∷ ks)) (some k) ∙ all_ended_in (k ∷ ks) (omega arith)
  where
    some : (k : List ℕ) → 1 ≤ length (joined (k ∷ ks))
    some [] = omega arith
    some (b ∷ bs) = omega arith

-- "LF ends each line": these are the lines of a file that has one or more, each with its LF, exactly if it is they, each with a LF after
-- it and none inside
pub lines_exact : (bs : List ℕ) (ls : List (List ℕ)) → ((all_ended bs ≡ true) × (ended LF bs ≡ ls)) ↔ ((bs ≡ joined ls) × (1 ≤ length ls) × Every (Without LF) ls)
lines_exact bs ls = (
  λ h. let r = lines_out bs h.0 in subst (λ (ks : List (List ℕ)). (bs ≡ joined ks) × (1 ≤ length ks) × Every (Without LF) ks) h.1 (r.bytes, r.several, ended_without LF bs),
  λ h. rw h.0 (all_ended_in ls h.1, lines_in ls h.2),
)
