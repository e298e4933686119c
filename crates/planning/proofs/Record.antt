-- The tree records: there is one for each node, and the sets in them are sets of the table's steps and jobs.
-- By recursion on the place.
use mathlib.Core.Path.{◌≡◌, refl, ap, ◌∙◌}
use mathlib.Core.Bool.{◌&&◌, ◌||◌}
use Prim.Native.Nat.{ℕ, suc, ◌+◌, ◌<◌}
use native.Mathlib.Omega.{arith}
use lib.ListN.{length, length-append}
use lib.Dec.{eqb}
use Rattle.lists.specs.List.{Every, has, Rising}
use Rattle.lists.proofs.Every.{every_append}
use Rattle.lists.proofs.Rising.{rising_filter}
use Rattle.planning.specs.Table.{step, job, Table}
use Rattle.planning.specs.Place.{Label, Place, slot, inner, Places, stop, also, named, child_label, root_label, root_place, nodes, nodes_of}
use Rattle.planning.specs.Record.{Record, records_at, records_below, records}
use Rattle.planning.proofs.Everywhere.{Everywhere, EverywhereEach, everywhere}

mutual
  records_nodes : (p : Place) (d u n : ℕ) → length (records_at p d u n) ≡ nodes p
  records_nodes (slot L) d u n = refl
  records_nodes (inner L ps) d u n = ap suc (records_nodes_of ps (suc d) n (suc n))

  records_nodes_of : (ps : Places) (d u n : ℕ) → length (records_below ps d u n) ≡ nodes_of ps
  records_nodes_of stop d u n = refl
  records_nodes_of (also p ps) d u n =
      length-append (records_at p d u n) (records_below ps d u (n + nodes p)) ∙ cc (records_nodes p d u n, records_nodes_of ps d u (n + nodes p))

-- "one a node"
pub records_count : (T : Table) → length (records T) ≡ nodes (root_place T)
records_count T = records_nodes (root_place T) 0 0 0

-- Labels ---------------------------------------------------------------------------------------------------------------------
-- what a node may hold are steps and jobs of the table, "each kind in rising number"
pub record LabelIn (T : Table) (L : Label) : Type 0 where
  pub steps : Rising 0 (length T.steps) L.steps
  pub jobs : Rising 0 T.jobs L.jobs

module _ (T : Table) where
  abbrev LabelsIn : Place → Type 0
  LabelsIn = Everywhere (LabelIn T) (λ L c. LabelIn T L)

  abbrev LabelsInEach : Places → Type 0
  LabelsInEach = EverywhereEach (LabelIn T) (λ L c. LabelIn T L)

  child_in : (L : Label) (i : ℕ) → LabelIn T (child_label T L i)
  unfolding child_label
  child_in L i = record {
    steps = rising_filter (λ s. named T L i (step s) || (eqb i 0 && has L.steps s)) (length T.steps);
    jobs = rising_filter (λ j. named T L i (job j)) T.jobs;
  }

  abbrev RecordIn : Record → Type 0
  RecordIn r = LabelIn T r.label

  mutual
    records_in : (p : Place) (d u n : ℕ) → LabelsIn p → Every RecordIn (records_at p d u n)
    records_in (slot L) d u n l = (l, tt)
    records_in (inner L ps) d u n l = (l.0, records_in_each ps (suc d) n (suc n) l.1)

    records_in_each : (ps : Places) (d u n : ℕ) → LabelsInEach ps → Every RecordIn (records_below ps d u n)
    records_in_each stop d u n l = tt
    records_in_each (also p ps) d u n l =
        every_append RecordIn (records_at p d u n) (records_below ps d u (n + nodes p)) (records_in p d u n l.0) (records_in_each ps d u (n + nodes p) l.1)

  pub records_rising : T.root < T.jobs → Every (λ (r : Record). LabelIn T r.label) (records T)
  records_rising h = records_in (root_place T) 0 0 0
      (everywhere (LabelIn T) (λ L c. LabelIn T L) T (LabelIn T) child_in (λ L l. l) (λ L l. l) T.depth (root_label T) (record { steps = tt; jobs = (omega arith, h, tt) }))
