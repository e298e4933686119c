-- What the code writes: the fields of a line one behind the other, the lines of rows.
-- By the laws of writes.
use mathlib.Core.Path.{◌≡◌, refl, sym, ap}
use mathlib.Core.List.{List, [], ◌∷◌, ◌++◌, append_assoc, append-nil}
use Prim.Native.Nat.{ℕ, suc, ◌+◌, ◌≤◌}
use native.Mathlib.Numerals.{add-one}
use native.Mathlib.Omega.{arith}
use lib.ListN.{length, get_or}
use Rattle.lists.specs.Written.{Wrote}
use Rattle.lists.proofs.Written.{wrote_none, wrote_append, wrote_same}
use Rattle.planning.specs.Text.{decimal}
use Rattle.listing.specs.Listing.{Names, Row, job_row, step_row, job_line, step_line, row_lines}
use Rattle.listing.specs.Walk.{WroteRows}
use Rattle.listing.proofs.Lines.{lines_append, steps_append}

-- Lines ----------------------------------------------------------------------------------------------------------------------
module _ {o o₁ o₂ o₃ : List ℕ} {at r₁ r₂ r₃ : ℕ} (h : at ≤ length o) where
  pub wrote_step : (k : ℕ) (name : List ℕ) → Wrote o at (83 ∷ 9 ∷ []) o₁ r₁ → Wrote o₁ r₁ (decimal k ++ (9 ∷ [])) o₂ r₂ → Wrote o₂ r₂ (name ++ (10 ∷ [])) o₃ r₃
      → Wrote o at (step_line k name) o₃ r₃
  wrote_step k name u v w = wrote_same (simp append_assoc) (wrote_append h (wrote_append h u v) w)

  pub wrote_job : {o₄ : List ℕ} {r₄ : ℕ} (d : ℕ) (name : List ℕ) (m : ℕ) → Wrote o at (74 ∷ 9 ∷ []) o₁ r₁ → Wrote o₁ r₁ (decimal d ++ (9 ∷ [])) o₂ r₂
      → Wrote o₂ r₂ (name ++ (9 ∷ [])) o₃ r₃ → Wrote o₃ r₃ (decimal m ++ (10 ∷ [])) o₄ r₄ → Wrote o at (job_line d name m) o₄ r₄
  wrote_job d name m u v w x = wrote_same (simp append_assoc) (wrote_append h (wrote_append h (wrote_append h u v) w) x)

-- Rows -----------------------------------------------------------------------------------------------------------------------
pub lists_none : (N : Names) (o : List ℕ) (at k : ℕ) → WroteRows N o at k [] o at k
lists_none N o at k = record { text = wrote_none o at; steps = omega arith }

pub lists_same : {N : Names} {o : List ℕ} {at k : ℕ} {rs ss : List Row} {o' : List ℕ} {r i : ℕ} → rs ≡ ss → WroteRows N o at k rs o' r i → WroteRows N o at k ss o' r i
lists_same e l = rw (← e) l

pub lists_step : (N : Names) {o o' : List ℕ} {at r k : ℕ} (s : ℕ) → Wrote o at (step_line (k + 1) (get_or N.steps s [])) o' r → WroteRows N o at k (step_row s ∷ []) o' r (k + 1)
lists_step N {o} {o'} {at} {r} {k} s w = record {
  text = wrote_same (rw (add-one k) (sym (append-nil (step_line (suc k) (get_or N.steps s []))))) w;
  steps = refl;
}

pub lists_job : (N : Names) {o o' : List ℕ} {at r k : ℕ} (d j m : ℕ) → Wrote o at (job_line d (get_or N.jobs j []) m) o' r → WroteRows N o at k (job_row d j m ∷ []) o' r k
lists_job N {o} {o'} {at} {r} {k} d j m w = record {
  text = wrote_same (sym (append-nil (job_line d (get_or N.jobs j []) m))) w;
  steps = omega arith;
}

pub lists_append : {N : Names} {o : List ℕ} {at k : ℕ} {rs ss : List Row} {o₁ o₂ : List ℕ} {r₁ r₂ i₁ i₂ : ℕ} → at ≤ length o
    → WroteRows N o at k rs o₁ r₁ i₁ → WroteRows N o₁ r₁ i₁ ss o₂ r₂ i₂ → WroteRows N o at k (rs ++ ss) o₂ r₂ i₂
lists_append {N} {o} {at} {k} {rs} {ss} h l m = record {
  text = wrote_same (sym (lines_append N k rs ss)) (wrote_append h l.text (wrote_same (ap (λ (i : ℕ). row_lines N i ss) l.steps) m.text));
  steps = omega (arith, l.steps, m.steps, steps_append rs ss);
}
