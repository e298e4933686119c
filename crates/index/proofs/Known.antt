-- What the index of a table has where: of a node, of a slot, of a variable.
-- By the laws of blocks, and by recursion on the records.
use mathlib.Core.Path.{◌≡◌, refl, sym, ap, ◌∙◌}
use mathlib.Core.List.{List, [], ◌∷◌, ◌++◌, map}
use Prim.Native.Nat.{ℕ, suc, ◌+◌, ◌*◌, ◌≤◌, ◌<◌}
use native.Mathlib.Omega.{arith}
use lib.ListN.{length, get_or, length-map, get_or-append, get_or-eq_default}
use lib.Seq.{get_or-append-add}
use Rattle.lists.specs.List.{concat_map, up_to, Rising}
use Rattle.lists.proofs.Number.{length_from}
use Rattle.lists.proofs.Place.{get_d_map_from, one_word}
use Rattle.bitset.specs.Set.{members, set_of}
use Rattle.bitset.proofs.Promises.{promises}
use Rattle.planning.specs.Table.{Table}
use Rattle.planning.specs.Place.{root_place, nodes}
use Rattle.planning.specs.Record.{records}
use Rattle.planning.proofs.Record.{records_count}
use Rattle.places.specs.Flat.{Node}
use Rattle.places.specs.ClausePlace.{no_node, child_at, node_at}
use Rattle.places.proofs.Lookup.{nodes_length}
use Rattle.index.specs.Index.{word_of, node_words, meanings, slot_nodes, source, index_of, node_word_in}
use Rattle.index.proofs.Blocks.{fifteens, length_fifteens}

-- past the last word
pub past_last : (ws : List ℕ) (i : ℕ) → length ws ≤ i → 0 ≡ get_or ws i 0
past_last ws i h = sym (get_or-eq_default ws 0 h)

-- Sets in a word ---------------------------------------------------------------------------------------------------------------
pub set_length : (xs : List ℕ) → length (set_of 1 xs) ≡ 1
set_length [] = refl
set_length (x ∷ xs) = promises.insert_length (set_of 1 xs) x ∙ set_length xs

rising_wider : (k m n : ℕ) (xs : List ℕ) → m ≤ n → Rising k m xs → Rising k n xs
rising_wider k m n [] h r = tt
rising_wider k m n (x ∷ xs) h r = (r.0, omega (arith, r.1), rising_wider (suc x) m n xs h r.2)

pub word_members : (n : ℕ) (xs : List ℕ) → n ≤ 64 → Rising 0 n xs → members (word_of xs ∷ []) ≡ xs
word_members n xs h r = ap members (one_word (set_of 1 xs) (set_length xs)) ∙ promises.made 1 xs (rising_wider 0 n 64 xs h r)

-- Nodes --------------------------------------------------------------------------------------------------------------------------
node_width : (N : Node) → length (node_words N) ≡ 15
node_width N = omega (arith, length-map (up_to 8) (λ y. (child_at N y).node), length_from 0 8)

module _ (T : Table) where
  pub nodes_count : length (source T).nodes ≡ nodes (root_place T)
  nodes_count = nodes_length T (records T) 0 1 ∙ records_count T

  -- behind the three counts
  pub behind : (k : ℕ) → get_or (index_of T) (3 + k) 0 ≡ get_or (concat_map node_words (source T).nodes ++ (slot_nodes T 0 (records T) ++ concat_map meanings (source T).nodes)) k 0
  behind k = get_or-append-add (length (source T).nodes ∷ length (source T).slots ∷ (source T).facts ∷ []) (concat_map node_words (source T).nodes ++ (slot_nodes T 0 (records T) ++ concat_map meanings (source T).nodes)) k 0

  pub nodes_end : length (concat_map node_words (source T).nodes) ≡ 15 * length (source T).nodes
  nodes_end = length_fifteens node_words no_node node_width (source T).nodes

  -- word k of node n
  pub node_word : (n k : ℕ) → n < length (source T).nodes → k < 15 → node_word_in (index_of T) n k ≡ get_or (node_words (node_at (source T) n)) k 0
  node_word n k h l =
      let e : 3 + 15 * n + k ≡ 3 + (15 * n + k) = omega arith in
      ap (λ (i : ℕ). get_or (index_of T) i 0) e ∙ behind (15 * n + k)
      ∙ get_or-append (concat_map node_words (source T).nodes) (slot_nodes T 0 (records T) ++ concat_map meanings (source T).nodes) 0 (15 * n + k) (omega (arith, nodes_end))
      ∙ fifteens node_words no_node node_width (source T).nodes n k h l

  module _ (n : ℕ) (h : n < length (source T).nodes) where
    pub first_in : node_word_in (index_of T) n 0 ≡ (node_at (source T) n).first
    first_in = node_word n 0 h (omega arith)

    pub steps_in_lem : node_word_in (index_of T) n 1 ≡ word_of (node_at (source T) n).steps
    steps_in_lem = node_word n 1 h (omega arith)

    pub jobs_in_lem : node_word_in (index_of T) n 2 ≡ word_of (node_at (source T) n).jobs
    jobs_in_lem = node_word n 2 h (omega arith)

    pub step_count_in : node_word_in (index_of T) n 3 ≡ length (node_at (source T) n).steps
    step_count_in = node_word n 3 h (omega arith)

    pub job_count_in : node_word_in (index_of T) n 4 ≡ length (node_at (source T) n).jobs
    job_count_in = node_word n 4 h (omega arith)

    pub method_count_in : node_word_in (index_of T) n 5 ≡ length (node_at (source T) n).methods
    method_count_in = node_word n 5 h (omega arith)

    pub child_count_in : node_word_in (index_of T) n 6 ≡ length (node_at (source T) n).children
    child_count_in = node_word n 6 h (omega arith)

    pub child_in : (y : ℕ) → y < 8 → node_word_in (index_of T) n (7 + y) ≡ (child_at (node_at (source T) n) y).node
    child_in y l =
        let N = node_at (source T) n in
        let c : ℕ → ℕ = λ y. (child_at N y).node in
        let z : 0 + y ≡ y = omega arith in
        node_word n (7 + y) h (omega arith)
        ∙ get_or-append-add (N.first ∷ word_of N.steps ∷ word_of N.jobs ∷ length N.steps ∷ length N.jobs ∷ length N.methods ∷ length N.children ∷ []) (map c (up_to 8)) y 0
        ∙ get_d_map_from c 0 8 y 0 l ∙ ap c z
