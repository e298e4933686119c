-- A number of an answer is the text of its literal, and no other bytes are one; and so are the numbers of a `v` line.
-- By the first byte, and by recursion on the numbers.
use mathlib.Core.Path.{◌≡◌, refl, sym, ap, ap₂, ◌∙◌}
use mathlib.Core.Bool.{Bool, true, false, cond}
use mathlib.Core.List.{List, [], ◌∷◌, ◌++◌, map, append-nil}
use mathlib.Core.Logic.{◌↔◌}
use mathlib.Core.Option.{Option, none, some}
use Prim.Native.Nat.{ℕ, zero, suc, ◌≤◌, ◌<◌}
use native.Mathlib.Omega.{arith}
use lib.ListN.{length}
use lib.Dec.{eqb}
use Rattle.lists.specs.List.{Every, concat_map}
use Rattle.lists.proofs.Bool.{eqb_sound, eqb_other, some_inj, none≢some}
use Rattle.lists.proofs.Every.{every_imp}
use Rattle.planning.specs.Clause.{Lit, pos, neg}
use Rattle.planning.specs.Text.{decimal, lit_text}
use Rattle.planning.specs.Promises.{Digit}
use Rattle.planning.proofs.Text.Numeral.{numeral as numeral-laws}
use Rattle.lines.specs.Parts.{split}
use Rattle.solver.specs.Number.{numeral, positive, negative, number_of, one_more, numbers_of}
use Rattle.solver.specs.Exact.{FiveDigits}
use Rattle.solver.proofs.Parts.{Without, led, split_cons, split_one}
use Rattle.solver.proofs.Numeral.{numeral_exact}

number_out : (bs : List ℕ) (l : Lit) → number_of bs ≡ some l → (bs ≡ lit_text l) × FiveDigits l
number_out [] l e = none≢some e
number_out (b ∷ bs) l e = go (eqb b 45) refl e
  where
    minus : (o : Option ℕ) → numeral bs ≡ o → b ≡ 45 → negative o ≡ some l → (b ∷ bs ≡ lit_text l) × FiveDigits l
    minus none p z q = none≢some q
    minus (some zero) p z q = none≢some q
    minus (some (suc n)) p z q =
        let w : l ≡ neg (suc n) = sym (some_inj q) in
        let r = (numeral_exact bs (suc n)).0 p in
        rw w (ap₂ (λ (x : ℕ) (xs : List ℕ). x ∷ xs) z r.0, (omega arith, r.1))

    plain : (o : Option ℕ) → numeral (b ∷ bs) ≡ o → positive o ≡ some l → (b ∷ bs ≡ lit_text l) × FiveDigits l
    plain none p q = none≢some q
    plain (some n) p q =
        let w : l ≡ pos n = sym (some_inj q) in
        rw w ((numeral_exact (b ∷ bs) n).0 p)

    go : (c : Bool) → eqb b 45 ≡ c → cond c (negative (numeral bs)) (positive (numeral (b ∷ bs))) ≡ some l → (b ∷ bs ≡ lit_text l) × FiveDigits l
    go true p q = minus (numeral bs) refl (eqb_sound b 45 p) q
    go false p q = plain (numeral (b ∷ bs)) refl q

unsigned : (ds : List ℕ) (n : ℕ) → Every Digit ds → numeral ds ≡ some n → number_of ds ≡ some (pos n)
unsigned [] n h e = none≢some e
unsigned (d ∷ ds) n h e = rw (eqb_other d 45 (λ z. omega (arith, h.0.0))) (ap positive e)

signed : (n : ℕ) → 1 ≤ n → negative (some n) ≡ some (neg n)
signed zero p = absurd (omega arith)
signed (suc n) p = refl

number_in : (l : Lit) → FiveDigits l → number_of (lit_text l) ≡ some l
number_in (pos n) h = unsigned (decimal n) n (numeral-laws n).digits ((numeral_exact (decimal n) n).1 (refl, h))
number_in (neg n) h = ap negative ((numeral_exact (decimal n) n).1 (refl, h.1)) ∙ signed n h.0

-- a number of an answer is the text of its literal
pub number_exact : (bs : List ℕ) (l : Lit) → (number_of bs ≡ some l) ↔ ((bs ≡ lit_text l) × FiveDigits l)
number_exact bs l = (number_out bs l, λ h. ap number_of h.0 ∙ number_in l h.1)

-- no byte below the digits stands in a number, but the minus
digits_without : (k : ℕ) (ds : List ℕ) → k < 45 → Every Digit ds → Without k ds
digits_without k ds h d = every_imp Digit (λ (b : ℕ). eqb b k ≡ false) (λ b g. eqb_other b k (λ e. omega (arith, g.0))) ds d

pub text_without : (k : ℕ) (l : Lit) → k < 45 → Without k (lit_text l)
text_without k (pos n) h = digits_without k (decimal n) h (numeral-laws n).digits
text_without k (neg n) h = (eqb_other 45 k (λ e. omega arith), digits_without k (decimal n) h (numeral-laws n).digits)

-- Several numbers ----------------------------------------------------------------------------------------------------------------
-- "one space before each"
abbrev pub texts : List Lit → List ℕ
texts ks = concat_map (λ k. 32 ∷ lit_text k) ks

pub record Read (ps : List (List ℕ)) (ks : List Lit) : Type 0 where
  pub bytes : led 32 ps ≡ texts ks
  pub written : Every FiveDigits ks
  pub many : length ps ≡ length ks

pub numbers_out : (ps : List (List ℕ)) (ks : List Lit) → numbers_of ps ≡ some ks → Read ps ks
numbers_out [] ks e = let z : ks ≡ [] = sym (some_inj e) in rw z (record { bytes = refl; written = tt; many = refl })
numbers_out (p ∷ ps) ks e = go (number_of p) refl (numbers_of ps) (λ js g. numbers_out ps js g) refl e
  where
    go : (o : Option Lit) → number_of p ≡ o → (more : Option (List Lit)) → ((js : List Lit) → numbers_of ps ≡ some js → Read ps js) → numbers_of ps ≡ more
        → one_more o more ≡ some ks → Read (p ∷ ps) ks
    go none a more f b h = none≢some h
    go (some k) a none f b h = none≢some h
    go (some k) a (some js) f b h =
        let r = f js b in
        let n = (number_exact p k).0 a in
        let z : ks ≡ k ∷ js = sym (some_inj h) in
        rw z (record {
          bytes = ap₂ (λ (x y : List ℕ). 32 ∷ (x ++ y)) n.0 r.bytes;
          written = (n.1, r.written);
          many = ap suc r.many;
        })

pub texts_split : (ks : List Lit) (k : Lit) → split 32 (lit_text k ++ texts ks) ≡ map lit_text (k ∷ ks)
texts_split [] k = ap (split 32) (append-nil (lit_text k)) ∙ split_one 32 (lit_text k) (text_without 32 k (omega arith))
texts_split (j ∷ js) k =
    split_cons 32 (lit_text k) (lit_text j ++ texts js) (text_without 32 k (omega arith)) ∙ ap (λ (ps : List (List ℕ)). lit_text k ∷ ps) (texts_split js j)

pub numbers_in : (ks : List Lit) → Every FiveDigits ks → numbers_of (map lit_text ks) ≡ some ks
numbers_in [] h = refl
numbers_in (k ∷ ks) h =
    ap (λ (o : Option Lit). one_more o (numbers_of (map lit_text ks))) ((number_exact (lit_text k) k).1 (refl, h.0)) ∙ ap (one_more (some k)) (numbers_in ks h.1)
