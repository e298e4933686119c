-- Literals as numbers, and the text of a clause literal by literal.
-- By cases on the literal, and by recursion on the clause.
use mathlib.Core.Path.{◌≡◌, refl, sym, ap, ap₂, ◌∙◌}
use mathlib.Core.List.{List, [], ◌∷◌, ◌++◌, map, append_assoc, append-nil}
use Prim.Native.Nat.{ℕ, ◌+◌, ◌*◌, ◌/◌, ◌%◌, ◌^◌, ◌≤◌, ◌<◌}
use native.Mathlib.Numerals.{add-one}
use native.Mathlib.Omega.{arith}
use native.Mathlib.Decide.{ℕ_discrete}
use lib.ListN.{length, get_or, take, drop, length-append, take-append-drop}
use lib.Seq.{take-suc}
use Rattle.lists.specs.List.{concat_map}
use Rattle.lists.specs.Written.{Wrote}
use Rattle.lists.proofs.Bool.{eqb_other}
use Rattle.lists.proofs.Written.{wrote_append, wrote_same}
use Rattle.planning.specs.Clause.{Lit, pos, neg, Clause}
use Rattle.planning.specs.Text.{decimal, lit_text}
use Rattle.writer.specs.Literal.{lit_in, code_of, clause_in}
use Rattle.writer.proofs.Numerals.{length_most}

-- The number of a literal ------------------------------------------------------------------------------------------------------
lit_even : (c : ℕ) → c % 2 ≡ 0 → lit_in c ≡ pos (c / 2)
lit_even c h = rw h refl

lit_odd : (c : ℕ) → (c % 2 ≡ 0 → ⊥) → lit_in c ≡ neg (c / 2)
lit_odd c h = rw (eqb_other (c % 2) 0 h) refl

-- the number of a literal stands for it
pub lit_code : (l : Lit) → lit_in (code_of l) ≡ l
lit_code (pos v) =
    let e : 2 * v % 2 ≡ 0 = omega arith in
    let h : 2 * v / 2 ≡ v = omega arith in
    lit_even (2 * v) e ∙ ap pos h
lit_code (neg v) =
    let u : (2 * v + 1) % 2 ≡ 1 = omega arith in
    let h : (2 * v + 1) / 2 ≡ v = omega arith in
    lit_odd (2 * v + 1) (λ e. absurd (omega (arith, u, e))) ∙ ap neg h

pub clause_code : (c : Clause) → clause_in (map code_of c) ≡ c
clause_code [] = refl
clause_code (l ∷ c) = ap₂ (λ (x : Lit) (xs : Clause). x ∷ xs) (lit_code l) (clause_code c)

-- The text of a literal, with the space behind it ------------------------------------------------------------------------------
abbrev pub literal : ℕ → List ℕ
literal c = lit_text (lit_in c) ++ (32 ∷ [])

literal_even : (c : ℕ) → c % 2 ≡ 0 → literal c ≡ decimal (c / 2) ++ (32 ∷ [])
literal_even c h = ap (λ (l : Lit). lit_text l ++ (32 ∷ [])) (lit_even c h)

literal_odd : (c : ℕ) → (c % 2 ≡ 0 → ⊥) → literal c ≡ (45 ∷ []) ++ decimal (c / 2) ++ (32 ∷ [])
literal_odd c h = ap (λ (l : Lit). lit_text l ++ (32 ∷ [])) (lit_odd c h)

pub length_literal : (c : ℕ) → length (literal c) ≡ length (decimal (c / 2)) + c % 2 + 1
length_literal c = go (ℕ_discrete (c % 2) 0)
  where
    go : Dec (c % 2 ≡ 0) → length (literal c) ≡ length (decimal (c / 2)) + c % 2 + 1
    go (yes e) = omega (arith, ap length (literal_even c e), length-append (decimal (c / 2)) (32 ∷ []), e)
    go (no u) =
        let e : c % 2 ≡ 1 = omega (arith, u) in
        omega (arith, ap length (literal_odd c u), length-append (decimal (c / 2)) (32 ∷ []), e)

pub literal_most : (c : ℕ) → c < 2 ^ 64 → length (literal c) ≤ 22
literal_most c h = omega (arith, length_literal c, length_most (c / 2) (omega arith))

-- its parts, written one behind the other: of a variable, and of a negated one
module _ {o o₁ o₂ : List ℕ} {at r₁ r₂ : ℕ} (c : ℕ) (h : at ≤ length o) where
  pub wrote_variable : c % 2 ≡ 0 → Wrote o at (decimal (c / 2)) o₁ r₁ → Wrote o₁ r₁ (32 ∷ []) o₂ r₂ → Wrote o at (literal c) o₂ r₂
  wrote_variable e v w = wrote_same (sym (literal_even c e)) (wrote_append h v w)

  pub wrote_negated : {o₃ : List ℕ} {r₃ : ℕ} → (c % 2 ≡ 0 → ⊥) → Wrote o at (45 ∷ []) o₁ r₁ → Wrote o₁ r₁ (decimal (c / 2)) o₂ r₂
      → Wrote o₂ r₂ (32 ∷ []) o₃ r₃ → Wrote o at (literal c) o₃ r₃
  wrote_negated e u v w = wrote_same (sym (literal_odd c e)) (wrote_append h (wrote_append h u v) w)

-- The texts of several ---------------------------------------------------------------------------------------------------------
abbrev pub literals : List ℕ → List ℕ
literals cs = concat_map (λ l. lit_text l ++ (32 ∷ [])) (clause_in cs)

literals_append : (xs ys : List ℕ) → literals (xs ++ ys) ≡ literals xs ++ literals ys
literals_append [] ys = refl
literals_append (x ∷ xs) ys = ap (λ (l : List ℕ). literal x ++ l) (literals_append xs ys) ∙ sym (append_assoc (literal x) (literals xs) (literals ys))

-- one more
pub literals_more : (cs : List ℕ) (i : ℕ) → i < length cs → literals (take (i + 1) cs) ≡ literals (take i cs) ++ literal (get_or cs i 0)
literals_more cs i h =
    rw (add-one i, take-suc cs i 0 h)
    (literals_append (take i cs) (get_or cs i 0 ∷ []) ∙ ap (λ (l : List ℕ). literals (take i cs) ++ l) (append-nil (literal (get_or cs i 0))))

-- some are no longer than all
pub literals_some : (cs : List ℕ) (i : ℕ) → length (literals (take i cs)) ≤ length (literals cs)
literals_some cs i =
    let e : literals cs ≡ literals (take i cs) ++ literals (drop i cs) = ap literals (sym (take-append-drop i cs)) ∙ literals_append (take i cs) (drop i cs) in
    omega (arith, ap length e, length-append (literals (take i cs)) (literals (drop i cs)))
