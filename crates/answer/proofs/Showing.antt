-- The part of the calls that list: question 15, and the lines.
-- Where the values are a model, it gives a tree.
use mathlib.Core.Path.{◌≡◌, sym, ap, ap₂, ◌∙◌, subst}
use mathlib.Core.Bool.{Bool, true, false}
use mathlib.Core.List.{List, [], ◌∷◌, ◌++◌}
use Prim.Native.Nat.{ℕ, ◌≤◌}
use native.Mathlib.Omega.{arith}
use lib.Dec.{eqb}
use lib.ListN.{length, drop, length-map}
use lib.Seq.{length-take-le}
use Rattle.std.specs.Prelude.{Ok, Err}
use Rattle.unmet.specs.declared.Unmet.TheVariants.{Satisfied}
use Rattle.lists.specs.Question.{first_unmet}
use Rattle.lists.specs.Written.{Wrote}
use Rattle.lists.proofs.Written.{wrote_whole}
use Rattle.planning.specs.Table.{Table}
use Rattle.planning.specs.Variable.{variables}
use Rattle.planning.specs.Model.{value, Model, truths_in}
use Rattle.planning.specs.Accepted.{Accepted}
use Rattle.planning.proofs.Demand3.{demand3}
use Rattle.table.specs.Layout.{table_in, name_parts_in}
use Rattle.tree.specs.declared.Count.{Count}
use Rattle.listing.specs.Listing.{Names, shown_names}
use Rattle.listing.specs.Walk.{walked, value_of, ShortNames, Listable}
use Rattle.listing.proofs.Walked.{walked_is}
use Rattle.questions.specs.Questions.{names_of, taken}
use Rattle.questions.specs.Own.{Owned}
use Rattle.questions.proofs.Indexing.{acceptance}
use Rattle.answer.specs.Calls.{met15, own, lent, listing_of, listing_for}
use Rattle.answer.specs.Parts.{Showed}
use Rattle.answer.proofs.Acceptance.{short_names}

-- a model's values, read node by node, are the listing of the tree that it gives
pub model_walked : (T : Table) → Accepted T → (file : List ℕ) {vs : List Bool} → Model T vs → walked T (shown_names file (names_of file)) (value vs) ≡ listing_for file T vs
model_walked T a file {vs} m =
    let N = shown_names file (names_of file) in
    let g = (demand3 T a.sound).gives vs m in
    walked_is N m g.1 ∙ sym (ap (listing_of N) g.1)

-- lent values that meet 15 are a model's
pub lent_model : (T : Table) → Accepted T → (values : List ℕ) → 8191 ≤ length values → met15 T (lent T values) ≡ true → Model T (lent T values)
lent_model T a values l e = record {
  whole = length-map (own T values) (eqb 1) ∙ length-take-le (variables T) values (omega (arith, a.few_variables));
  true_clauses = e;
}

module _ {file table tree : List ℕ} {c : Count} {v : ℕ} (o : Owned file table tree c v) (values : List ℕ) (whole : length values ≡ variables (table_in table)) where
  abbrev T : Table
  T = table_in table

  -- a table's names are those of its file
  own_names : shown_names file (name_parts_in table) ≡ shown_names file (names_of file)
  own_names = ap (shown_names file) o.names

  pub listable : Listable table file tree values
  listable = record {
    words = o.records;
    long = omega (arith, whole);
    short = subst (λ (N : Names). ShortNames N) (sym own_names) (short_names file T o.verdict);
  }

  module _ (text : List ℕ) {b : Bool} (s : b ≡ met15 (table_in table) (truths_in values)) where
    pub not_model : b ≡ false → Showed file (table_in table) (truths_in values) text text (Err Satisfied)
    not_model f =
        let u : first_unmet ((15, met15 T (truths_in values)) ∷ []) ≡ 15 = rw (sym s ∙ f) in
        record { handed_back = sym (rw u); left = sym (rw u) }

    pub showed : b ≡ true → {text' : List ℕ} {r : ℕ} → Wrote text 0 (walked (table_in table) (shown_names file (name_parts_in table)) (value_of values)) text' r
        → Showed file (table_in table) (truths_in values) text text' (Ok r)
    showed f {text'} {r} w =
        let t : met15 T (truths_in values) ≡ true = sym s ∙ f in
        let u : first_unmet ((15, met15 T (truths_in values)) ∷ []) ≡ 0 = rw t in
        let m : Model T (truths_in values) = record { whole = length-map values (eqb 1) ∙ whole; true_clauses = t } in
        let k : walked T (shown_names file (name_parts_in table)) (value_of values) ≡ listing_for file T (truths_in values) =
        ap (λ (N : Names). walked T N (value_of values)) own_names ∙ model_walked T (acceptance o) file m in
        let j : r ≡ length (listing_for file T (truths_in values)) = omega (arith, w.end, ap length k) in
        record {
          handed_back = ap (λ (j : ℕ). taken (j ∷ [])) j ∙ sym (rw u);
          left = wrote_whole w ∙ (ap (λ (xs : List ℕ). xs ++ drop (length xs) text) k ∙ sym (rw u));
        }
