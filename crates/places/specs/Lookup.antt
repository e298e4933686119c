-- Inside the encoding, nothing to believe: what the code looks up, by node number, from the records.
-- Assumes nothing.
use Rattle.std.specs.Prelude.{◌≡◌, Bool, true, false, cond, List, [], ◌∷◌, ℕ, suc, ◌+◌, ◌<◌, length, get_or, take, ltb}
use Rattle.planning.specs.Table.{Table}
use Rattle.planning.specs.Record.{Record}
use Rattle.planning.specs.Clause.{pos, Clause}
use Rattle.places.specs.Flat.{inner, own_all, Child, child_of}

abbrev pub no_record : Record
no_record = record { depth = 0; parent = 0; children = 0; label = record { steps = []; jobs = [] } }

abbrev pub record_at : List Record → ℕ → Record
record_at rs n = get_or rs n no_record

-- the first variable of node n
abbrev pub first_var : Table → List Record → ℕ → ℕ
first_var T rs n = suc (own_all T (take n rs))

-- how many of these are slots
abbrev pub slots_in : Table → List Record → ℕ
slots_in T [] = 0
slots_in T (r ∷ rs) = cond (inner T r) 0 1 + slots_in T rs

-- the boundary before node n: how many slots come before it
abbrev pub boundary : Table → List Record → ℕ → ℕ
boundary T rs n = slots_in T (take n rs)

-- a child of node u, as the records have it
pub record ChildIn (T : Table) (rs : List Record) (u : ℕ) (C : Child) : Type 0 where
  pub inside : C.node < length rs
  pub parent : (record_at rs C.node).parent ≡ u
  pub all : C ≡ child_of T C.node (first_var T rs C.node) (record_at rs C.node)

-- how many members are less than s: in a rising list, the place of s
abbrev pub rank : List ℕ → ℕ → ℕ
rank [] s = 0
rank (x ∷ xs) s = cond (ltb x s) 1 0 + rank xs s

-- no literal or one
abbrev pub lit_if : Bool → ℕ → Clause
lit_if true v = pos v ∷ []
lit_if false v = []
