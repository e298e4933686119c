-- Inside the encoding, nothing to believe: what the visits of nodes and of children say. The records and counts that come of them are
-- planning's. Assumes nothing.
use Rattle.std.specs.Prelude.{◌≡◌, Bool, true, false, List, [], ◌∷◌, ◌++◌, map, ℕ, ◌+◌, ◌-◌, ◌*◌, ◌≤◌, ◌<◌, Option, MatchOption, length, get_or}
use Rattle.std.proofs.Math.Option.{Option as PlanningOption, none, some}
use Rattle.lists.specs.List.{from, Rising}
use Rattle.lists.specs.Written.{Wrote}
use Rattle.bitset.specs.Set.{members, inserted, set_of}
use Rattle.planning.specs.Table.{Table, Task, step, job, Sound, Limits}
use Rattle.planning.specs.Place.{Label as PlanningLabel, Place, slot, inner, Places, stop, also, child_label, place, row, root_place, nodes, nodes_of}
use Rattle.planning.specs.Record.{Record, records, records_at, records_below}
use Rattle.planning.specs.Variable.{part_vars, parts_vars, node_vars, slots}
use Rattle.tree.specs.Words.{tree_words}
use Rattle.tree.specs.declared.Label.{Label}
use Rattle.tree.specs.declared.Count.{Count}

-- Sets in a word ---------------------------------------------------------------------------------------------------------------
abbrev pub members_in : ℕ → List ℕ
members_in w = members (w ∷ [])

abbrev pub label_in : Label → PlanningLabel
label_in l = record { steps = members_in l.steps; jobs = members_in l.jobs }

abbrev pub some_in : List ℕ → Bool
some_in [] = false
some_in (x ∷ xs) = true

-- what a node may hold are steps and jobs of the table
pub record Inside (T : Table) (l : Label) : Type 0 where
  pub steps : Rising 0 (length T.steps) (members_in l.steps)
  pub jobs : Rising 0 T.jobs (members_in l.jobs)

-- what the reader promises of the table
pub record Known (T : Table) : Type 0 where
  pub sound : Sound T
  pub limits : Limits T

-- the label with one task more
abbrev pub with_task : Label → PlanningOption Task → Label
with_task l none = l
with_task l (some (step s)) = record { steps = get_or (inserted (l.steps ∷ []) s) 0 0; jobs = l.jobs }
with_task l (some (job j)) = record { steps = l.steps; jobs = get_or (inserted (l.jobs ∷ []) j) 0 0 }

-- Counts -----------------------------------------------------------------------------------------------------------------------
-- how many slots a part has
abbrev mutual
  pub slots_of : Place → ℕ
  slots_of (slot L) = 1
  slots_of (inner L ps) = slots_of_each ps

  pub slots_of_each : Places → ℕ
  slots_of_each stop = 0
  slots_of_each (also p ps) = slots_of p + slots_of_each ps

-- "Has the tree at most 1,024 nodes?": a count goes no further. A node has at most 256 variables
pub record Small (c : Count) : Type 0 where
  pub nodes : c.nodes ≤ 1024
  pub variables : c.variables ≤ 256 * c.nodes
  pub slots : c.slots ≤ c.nodes

-- the count behind n nodes more, with v variables and s slots
abbrev pub counted_on : Count → (n v s : ℕ) → Count
counted_on c n v s = record { nodes = c.nodes + n; variables = c.variables + v; slots = c.slots + s }

-- A part of n nodes, v variables and s slots, with these records, was visited from the count c on, and d is the count then; o' is what the lent
-- words o hold. Left free: the lent words, where there is no room for all records
pub record VisitedTo (n v s : ℕ) (rs : List Record) (c : Count) (o o' : List ℕ) (d : Count) : Type 0 where
  pub few : c.nodes + n ≤ 1024
  pub count : d ≡ counted_on c n v s
  pub small : Small d
  pub kept : 5 * d.nodes ≤ length o → Wrote o (5 * c.nodes) (tree_words rs) o' (5 * d.nodes)

-- so it was, or there are too many nodes. Left free: the lent words then
pub record Visited (n v s : ℕ) (rs : List Record) (c : Count) (o o' : List ℕ) (r : Option Count) : Type 0 where
  pub outcome : MatchOption r (1024 < c.nodes + n) (VisitedTo n v s rs c o o')

-- the part of the node that may hold L and lies `left` above depth K
abbrev pub VisitedPart : Table → (left parent : ℕ) → PlanningLabel → Count → List ℕ → List ℕ → Option Count → Type 0
VisitedPart T left u L c o o' r =
    let p = place T left L in
    Visited (nodes p) (part_vars T p) (slots_of p) (records_at p (T.depth - left) u c.nodes) c o o' r

-- the parts of the m children from child i on of a node that may hold L
abbrev pub children_from : Table → (left : ℕ) → PlanningLabel → (i m : ℕ) → Places
children_from T left L i m = row (λ M. place T left M) (map (child_label T L) (from i m))

abbrev pub VisitedParts : Table → (left parent : ℕ) → PlanningLabel → (i m : ℕ) → Count → List ℕ → List ℕ → Option Count → Type 0
VisitedParts T left u L i m c o o' r =
    let ps = children_from T left L i m in
    Visited (nodes_of ps) (parts_vars T ps) (slots_of_each ps) (records_below ps (T.depth - left) u c.nodes) c o o' r

-- the whole tree
abbrev pub no_count : Count
no_count = record { nodes = 0; variables = 0; slots = 0 }

-- a record put at a node's place, where there is room for it. Left free: the words, where there is none
pub record Put (at depth parent children steps jobs : ℕ) (o o' : List ℕ) : Type 0 where
  pub kept : 5 * at + 5 ≤ length o
      → Wrote o (5 * at) (depth ∷ parent ∷ children ∷ (set_of 1 (members_in steps) ++ set_of 1 (members_in jobs))) o' (5 * at + 5)

-- how many nodes and slots the whole tree has
abbrev pub node_total : Table → ℕ
node_total T = nodes (root_place T)

abbrev pub slot_total : Table → ℕ
slot_total T = length (slots T)

-- what was counted, where there are at most 1,024 nodes
pub record Counted (T : Table) (c : Count) : Type 0 where
  pub few : node_total T ≤ 1024
  pub nodes : c.nodes ≡ node_total T
  pub variables : c.variables ≡ node_vars T
  pub slots : c.slots ≡ slot_total T
  pub small : Small c

-- The whole tree was counted, and its records stand in front in the lent words o', which were o. Left free: the words, where there is no room for all
-- records
pub record BuiltTo (T : Table) (o o' : List ℕ) (c : Count) : Type 0 where
  pub counted : Counted T c
  pub kept : 5 * c.nodes ≤ length o → Wrote o 0 (tree_words (records T)) o' (5 * c.nodes)

-- so it was, or it has more than 1,024 nodes. Left free: the lent words then
abbrev pub Built : Table → List ℕ → List ℕ → Option Count → Type 0
Built T o o' r = MatchOption r (1024 < node_total T) (BuiltTo T o o')
