-- Questions 2 to 9: what the reader and the counts of the tree say of them.
-- By the promises of the reader, and by what was counted.
use mathlib.Core.Path.{◌≡◌, sym, ap, ap₂, ◌∙◌}
use mathlib.Core.Bool.{true}
use mathlib.Core.List.{List, [], ◌∷◌}
use Prim.Native.Nat.{ℕ, suc, ◌+◌, ◌*◌, ◌≤◌, ◌<◌}
use native.Mathlib.Nat.{mul-le-mul}
use native.Mathlib.Omega.{arith}
use lib.Dec.{leb}
use lib.ListN.{length, take}
use Rattle.std.specs.Prelude.{Ok}
use Rattle.lists.specs.Question.{first_unmet}
use Rattle.lists.specs.Written.{Wrote}
use Rattle.lists.proofs.Bool.{leb_in, leb_no}
use Rattle.lists.proofs.Written.{wrote_front}
use Rattle.planning.specs.Table.{Table}
use Rattle.planning.specs.Place.{root_place, nodes}
use Rattle.planning.specs.Record.{records}
use Rattle.planning.specs.Variable.{variables, slots}
use Rattle.table.specs.Layout.{table_in, Reads}
use Rattle.table.proofs.Promised.{promises}
use Rattle.tree.specs.Visit.{Known, Counted, BuiltTo, node_total}
use Rattle.tree.specs.Words.{tree_words}
use Rattle.tree.specs.declared.Count.{Count}
use Rattle.questions.specs.Questions.{met8, met9, unmet, accepted, if_met, after_reading, accepting, names_after}
use Rattle.questions.specs.Own.{Owned}

module _ (file ws : List ℕ) (reads : Reads file (Ok ws)) where
  abbrev T : Table
  T = table_in ws

  pub known : Known (table_in ws)
  known = let u = promises.read file ws reads in record { sound = u.sound; limits = u.limits }

  verdict : accepting file ≡ if_met (first_unmet ((8, met8 T) ∷ (9, met9 T) ∷ [])) T
  verdict = ap after_reading (promises.read_as file ws reads)

  pub too_many_nodes : 1024 < node_total (table_in ws) → accepting file ≡ unmet 8
  too_many_nodes h = verdict ∙ rw (leb_no (nodes (root_place T)) 1024 h)

  module _ {c : Count} (k : Counted (table_in ws) c) where
    met_8 : met8 T ≡ true
    met_8 = leb_in (nodes (root_place T)) 1024 k.few

    pub facts_room : (c.slots + 1) * (table_in ws).facts ≤ 65664
    facts_room =
        mul-le-mul {n₁ = c.slots + 1} {m₁ = T.facts} {n₂ = 1026} {m₂ = 64} (omega (arith, k.small.slots, k.small.nodes)) (omega (arith, known.limits.facts))

    total_is : c.variables + (c.slots + 1) * T.facts ≡ variables T
    total_is =
        let s : c.slots + 1 ≡ suc (length (slots T)) = omega (arith, k.slots) in
        ap₂ (λ (a b : ℕ). a + b) k.variables (ap (λ (a : ℕ). a * T.facts) s)

    module _ {v : ℕ} (e : v ≡ c.variables + (c.slots + 1) * (table_in ws).facts) where
      pub too_many_variables : 8191 < v → accepting file ≡ unmet 9
      too_many_variables l = verdict ∙ rw (met_8, leb_no (variables T) 8191 (omega (arith, total_is, e)))

      pub owned : v ≤ 8191 → {o o' : List ℕ} → BuiltTo (table_in ws) o o' c → 5 * c.nodes ≤ length o
          → Owned file ws (take (5 * c.nodes) o') c v
      owned l b h = record {
        verdict = verdict ∙ rw (met_8, leb_in (variables T) 8191 (omega (arith, total_is, e)));
        names = ap names_after (sym (promises.read_as file ws reads));
        records = wrote_front (b.kept h);
        counts = k;
        variables = e ∙ total_is;
      }
