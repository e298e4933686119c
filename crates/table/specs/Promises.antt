-- What is promised of every reading. The statements alone; proofs/Promised.antt proves them.
-- Assumes nothing.
use Rattle.std.specs.Prelude.{◌≡◌, true, List, ◌++◌, map, ℕ, ◌≤◌, ◌<◌, length, Ok, Err}
use Rattle.lists.specs.List.{Every, none_twice}
use Rattle.planning.specs.Table.{Table, Sound, Limits}
use Rattle.lines.specs.Bytes.{same_bytes}
use Rattle.lines.specs.Part.{Part}
use Rattle.unmet.specs.declared.Unmet.{Unmet}
use Rattle.unmet.specs.Number.{number_of}
use Rattle.grammar.specs.Name.{Name, is_name}
use Rattle.table.specs.Reading.{NameParts, name_at, refused, passed, reading}
use Rattle.table.specs.Layout.{table_in, name_parts_in, Reads}

-- the names that stand at some parts of the file s
abbrev pub names_at : List ℕ → List Part → List Name
names_at s ps = map (name_at s) ps

-- the names of facts, steps and jobs
abbrev pub all_names : List ℕ → NameParts → List Name
all_names s ns = names_at s ns.facts ++ (names_at s ns.steps ++ names_at s ns.jobs)

-- The file s has passed questions 2 to 7, as the table t whose names stand at the parts ns
pub record Promised (s : List ℕ) (t : Table) (ns : NameParts) : Type 0 where
  -- every number in it is that of a fact, a step or a job of the table, and the counts are within the limits
  pub sound : Sound t
  pub limits : Limits t
  -- there is a name for each fact, step and job
  pub facts : length ns.facts ≡ t.facts
  pub steps : length ns.steps ≡ length t.steps
  pub jobs : length ns.jobs ≡ t.jobs
  -- "A name is 1 to 12 characters: a lowercase letter, then lowercase letters, digits or hyphens", and no two are the same
  pub formed : Every (λ (n : Name). is_name n ≡ true) (all_names s ns)
  pub short : Every (λ (n : Name). length n ≤ 12) (all_names s ns)
  pub new : none_twice same_bytes (all_names s ns) ≡ true

pub record Promises : Type 0 where
  pub met : (s : List ℕ) (t : Table) (ns : NameParts) → reading s ≡ passed t ns → Promised s t ns
  -- a file that is too long is turned down by 2, whatever it holds
  pub too_long : (s : List ℕ) → 65536 < length s → reading s ≡ refused 2
  -- a refusal is by one of questions 2 to 7
  pub unmet : (s : List ℕ) (n : ℕ) → reading s ≡ refused n → (2 ≤ n) × (n ≤ 7)
  -- so what the call hands back is promised too, and its error is the first unmet question
  pub read : (s ws : List ℕ) → Reads s (Ok ws) → Promised s (table_in ws) (name_parts_in ws)
  pub read_as : (s ws : List ℕ) → Reads s (Ok ws) → reading s ≡ passed (table_in ws) (name_parts_in ws)
  pub turned_down : (s : List ℕ) (q : Unmet) → Reads s (Err q) → reading s ≡ refused (number_of q)
