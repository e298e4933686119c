-- Inside the encoding, nothing to believe: what the cursor looks up, worked out of a table's records once a call and kept as words. What is
-- made of it is planning's formula. Assumes nothing.
use Rattle.std.specs.Prelude.{◌≡◌, cond, List, [], ◌∷◌, ◌++◌, map, ℕ, suc, ◌+◌, ◌-◌, ◌*◌, ◌≤◌, ◌<◌, length, get_or}
use Rattle.lists.specs.List.{concat_map, number, up_to}
use Rattle.bitset.specs.Set.{set_of}
use Rattle.planning.specs.Table.{Table}
use Rattle.planning.specs.Record.{Record, records}
use Rattle.places.specs.Flat.{Node, inner}
use Rattle.places.specs.ClausePlace.{Source, child_at, node_at, slot_at, source_of}

-- a set in one word
abbrev pub word_of : List ℕ → ℕ
word_of xs = get_or (set_of 1 xs) 0 0

-- Fifteen words a node: its first variable; the sets of steps and of jobs that have a variable there; how many steps, jobs and methods
-- have one; how many children it has, and their numbers
abbrev pub node_words : Node → List ℕ
node_words N =
    N.first ∷ word_of N.steps ∷ word_of N.jobs ∷ length N.steps ∷ length N.jobs ∷ length N.methods ∷ length N.children
    ∷ map (λ y. (child_at N y).node) (up_to 8)

-- what each of its variables stands for: a step, a job or a method, by its number
abbrev pub meanings : Node → List ℕ
meanings N = N.steps ++ (N.jobs ++ N.methods)

-- the node that each slot is, among the records from node n on
abbrev pub slot_nodes : Table → (n : ℕ) → List Record → List ℕ
slot_nodes T n [] = []
slot_nodes T n (r ∷ rs) = cond (inner T r) (slot_nodes T (suc n) rs) (n ∷ slot_nodes T (suc n) rs)

-- all of it: how many nodes and slots there are, the first fact variable, the nodes, the slots, the variables
abbrev pub source : Table → Source
source T = source_of T (records T)

abbrev pub index_of : Table → List ℕ
index_of T =
    length (source T).nodes ∷ length (source T).slots ∷ (source T).facts
    ∷ (concat_map node_words (source T).nodes ++ (slot_nodes T 0 (records T) ++ concat_map meanings (source T).nodes))

-- Where it stands ----------------------------------------------------------------------------------------------------------------
abbrev pub nodes_in : List ℕ → ℕ
nodes_in ix = get_or ix 0 0

abbrev pub slots_in : List ℕ → ℕ
slots_in ix = get_or ix 1 0

abbrev pub first_fact_in : List ℕ → ℕ
first_fact_in ix = get_or ix 2 0

-- word k of node n
abbrev pub node_word_in : List ℕ → (n k : ℕ) → ℕ
node_word_in ix n k = get_or ix (3 + 15 * n + k) 0

-- the node of slot k
abbrev pub slot_node_in : List ℕ → ℕ → ℕ
slot_node_in ix k = get_or ix (3 + 15 * nodes_in ix + k) 0

-- the place of the word that says what variable 1 stands for; what variable v does
abbrev pub meanings_at : List ℕ → ℕ
meanings_at ix = 3 + 15 * nodes_in ix + slots_in ix

abbrev pub meaning_in : List ℕ → ℕ → ℕ
meaning_in ix v = get_or ix (meanings_at ix + (v - 1)) 0

-- no more nodes and slots than there are numbers for
pub record Few (ix : List ℕ) : Type 0 where
  pub nodes : nodes_in ix ≤ 1024
  pub slots : slots_in ix ≤ 1024

-- What is known of it ----------------------------------------------------------------------------------------------------------
-- slot k is the node c. Left free: which node without steps, where the slot has none
pub record SlotAt (T : Table) (k c : ℕ) : Type 0 where
  pub inside : c < length (source T).nodes
  pub same : slot_at (source T) k ≡ number (node_at (source T) c).first (node_at (source T) c).steps

-- child y of node n is a node, and the index has it as one
pub record ChildAt (T : Table) (n y : ℕ) : Type 0 where
  pub inside : (child_at (node_at (source T) n) y).node < length (source T).nodes
  pub first : (child_at (node_at (source T) n) y).first ≡ (node_at (source T) (child_at (node_at (source T) n) y).node).first
  pub steps : (child_at (node_at (source T) n) y).steps ≡ (node_at (source T) (child_at (node_at (source T) n) y).node).steps
  pub jobs : (child_at (node_at (source T) n) y).jobs ≡ (node_at (source T) (child_at (node_at (source T) n) y).node).jobs
