-- Each kind of line has the bytes that the document gives it, and no others.
-- A line is looked at from its first byte on; what is found there says which kind it is.
use mathlib.Core.Path.{◌≡◌, refl, sym, ap, ap₂, ◌∙◌, subst}
use mathlib.Core.Bool.{Bool, true, false}
use mathlib.Core.List.{List, [], ◌∷◌}
use mathlib.Core.Logic.{inl, inr}
use mathlib.Core.Option.{Option, none, some}
use Prim.Native.Nat.{ℕ, ◌≤◌}
use native.Mathlib.Omega.{arith}
use lib.Dec.{eqb}
use Rattle.lists.proofs.Bool.{clash, and_l, and_r, eqb_sound}
use Rattle.planning.specs.Clause.{Lit}
use Rattle.lines.specs.Bytes.{same_bytes}
use Rattle.lines.specs.Parts.{split}
use Rattle.solver.specs.Number.{numbers_of}
use Rattle.solver.specs.Line.{Word, satisfiable, unsatisfiable, unknown, comment, says, sets, unformed, SATISFIABLE, UNSATISFIABLE, UNKNOWN, numbers_line, line_of}
use Rattle.solver.specs.Exact.{spelled, CommentLine, NumbersLine, LineExact}
use Rattle.solver.proofs.Parts.{split_out, split_some}
use Rattle.solver.proofs.Number.{numbers_out, texts_split, numbers_in}

same_out : (bs cs : List ℕ) → same_bytes bs cs ≡ true → bs ≡ cs
unfolding same_bytes
same_out [] [] h = refl
same_out [] (c ∷ cs) h = clash h refl
same_out (b ∷ bs) [] h = clash h refl
same_out (b ∷ bs) (c ∷ cs) h =
    ap₂ (λ (x : ℕ) (xs : List ℕ). x ∷ xs) (eqb_sound b c (and_l (eqb b c) (same_bytes bs cs) h)) (same_out bs cs (and_r (eqb b c) (same_bytes bs cs) h))

pub numbers_line_lem : (l : List ℕ) (ks : List Lit) → NumbersLine l ks → line_of l ≡ sets ks
numbers_line_lem l [] h = absurd (omega (arith, h.some_number))
numbers_line_lem l (k ∷ ks) h =
    ap line_of h.bytes ∙ (ap (λ (ps : List (List ℕ)). numbers_line (numbers_of ps)) (texts_split ks k) ∙ ap numbers_line (numbers_in (k ∷ ks) h.written))

-- What a line is -----------------------------------------------------------------------------------------------------------
data View (l : List ℕ) : Type 0 where
  a_comment : CommentLine l → line_of l ≡ comment → View l
  a_word : (w : Word) → l ≡ 115 ∷ 32 ∷ spelled w → line_of l ≡ says w → View l
  a_numbers : (ks : List Lit) → NumbersLine l ks → line_of l ≡ sets ks → View l
  a_nothing : line_of l ≡ unformed → View l

view_c : (bs : List ℕ) → View (99 ∷ bs)
view_c [] = a_comment (inl refl) refl
view_c (d ∷ ds) = go (eqb d 32) refl
  where
    go : (c : Bool) → eqb d 32 ≡ c → View (99 ∷ d ∷ ds)
    go true p = a_comment (inr (ds, ap (λ (x : ℕ). 99 ∷ x ∷ ds) (eqb_sound d 32 p))) (rw p)
    go false p = a_nothing (rw p)

view_word : (ds : List ℕ) → View (115 ∷ 32 ∷ ds)
view_word ds = go (same_bytes ds SATISFIABLE) refl (same_bytes ds UNSATISFIABLE) refl (same_bytes ds UNKNOWN) refl
  where
    go : (a : Bool) → same_bytes ds SATISFIABLE ≡ a → (b : Bool) → same_bytes ds UNSATISFIABLE ≡ b → (c : Bool) → same_bytes ds UNKNOWN ≡ c → View (115 ∷ 32 ∷ ds)
    go true p b q c r = a_word satisfiable (ap (λ (x : List ℕ). 115 ∷ 32 ∷ x) (same_out ds SATISFIABLE p)) (rw p)
    go false p true q c r = a_word unsatisfiable (ap (λ (x : List ℕ). 115 ∷ 32 ∷ x) (same_out ds UNSATISFIABLE q)) (rw (p, q))
    go false p false q true r = a_word unknown (ap (λ (x : List ℕ). 115 ∷ 32 ∷ x) (same_out ds UNKNOWN r)) (rw (p, q, r))
    go false p false q false r = a_nothing (rw (p, q, r))

view_s : (bs : List ℕ) → View (115 ∷ bs)
view_s [] = a_nothing refl
view_s (d ∷ ds) = go (eqb d 32) refl
  where
    go : (c : Bool) → eqb d 32 ≡ c → View (115 ∷ d ∷ ds)
    go true p = subst (λ (x : ℕ). View (115 ∷ x ∷ ds)) (sym (eqb_sound d 32 p)) (view_word ds)
    go false p = a_nothing (rw p)

view_numbers : (ds : List ℕ) → View (118 ∷ 32 ∷ ds)
view_numbers ds = go (numbers_of (split 32 ds)) refl
  where
    go : (o : Option (List Lit)) → numbers_of (split 32 ds) ≡ o → View (118 ∷ 32 ∷ ds)
    go none e = a_nothing (rw e)
    go (some ks) e =
        let r = numbers_out (split 32 ds) ks e in
        a_numbers ks (record { some_number = subst (λ (n : ℕ). 1 ≤ n) r.many (split_some 32 ds); bytes = ap (λ (x : List ℕ). 118 ∷ x) (split_out 32 ds ∙ r.bytes); written = r.written }) (rw e)

view_v : (bs : List ℕ) → View (118 ∷ bs)
view_v [] = a_nothing refl
view_v (d ∷ ds) = go (eqb d 32) refl
  where
    go : (c : Bool) → eqb d 32 ≡ c → View (118 ∷ d ∷ ds)
    go true p = subst (λ (x : ℕ). View (118 ∷ x ∷ ds)) (sym (eqb_sound d 32 p)) (view_numbers ds)
    go false p = a_nothing (rw p)

view : (l : List ℕ) → View l
view [] = a_nothing refl
view (b ∷ bs) = go (eqb b 99) refl (eqb b 115) refl (eqb b 118) refl
  where
    go : (c : Bool) → eqb b 99 ≡ c → (s : Bool) → eqb b 115 ≡ s → (v : Bool) → eqb b 118 ≡ v → View (b ∷ bs)
    go true p s q v r = subst (λ (x : ℕ). View (x ∷ bs)) (sym (eqb_sound b 99 p)) (view_c bs)
    go false p true q v r = subst (λ (x : ℕ). View (x ∷ bs)) (sym (eqb_sound b 115 q)) (view_s bs)
    go false p false q true r = subst (λ (x : ℕ). View (x ∷ bs)) (sym (eqb_sound b 118 r)) (view_v bs)
    go false p false q false r = a_nothing (rw (p, q, r))

-- two kinds at once
never : {A : Type 0} → ◌≡◌ {A = ℕ} 0 1 → A
never z = absurd (omega arith)

comment_out : (l : List ℕ) → View l → line_of l ≡ comment → CommentLine l
comment_out l (a_comment h e) p = h
comment_out l (a_word w h e) p = never cc
comment_out l (a_numbers ks h e) p = never cc
comment_out l (a_nothing e) p = never cc

comment_in : (l : List ℕ) → CommentLine l → line_of l ≡ comment
comment_in l (inl e) = ap line_of e
comment_in l (inr h) = ap line_of h.1

word_out : (l : List ℕ) (w : Word) → View l → line_of l ≡ says w → l ≡ 115 ∷ 32 ∷ spelled w
word_out l w (a_comment h e) p = never cc
word_out l w (a_word x h e) p = let z : x ≡ w = cc in h ∙ ap (λ (y : Word). 115 ∷ 32 ∷ spelled y) z
word_out l w (a_numbers ks h e) p = never cc
word_out l w (a_nothing e) p = never cc

pub word_line_lem : (w : Word) → line_of (115 ∷ 32 ∷ spelled w) ≡ says w
unfolding same_bytes
word_line_lem satisfiable = refl
word_line_lem unsatisfiable = refl
word_line_lem unknown = refl

numbers_of_lem : (l : List ℕ) (ks : List Lit) → View l → line_of l ≡ sets ks → NumbersLine l ks
numbers_of_lem l ks (a_comment h e) p = never cc
numbers_of_lem l ks (a_word x h e) p = never cc
numbers_of_lem l ks (a_numbers js h e) p = let z : js ≡ ks = cc in subst (λ (x : List Lit). NumbersLine l x) z h
numbers_of_lem l ks (a_nothing e) p = never cc

pub line_exact : (l : List ℕ) → LineExact l
line_exact l = record {
  comments = (comment_out l (view l), comment_in l);
  words = λ w. (word_out l w (view l), λ e. ap line_of e ∙ word_line_lem w);
  numbers = λ ks. (numbers_of_lem l ks (view l), numbers_line_lem l ks);
}
