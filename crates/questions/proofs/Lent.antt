-- Lent records beside the table's own, which stand in words: question 10, and the records laid.
-- By the words, record by record.
use mathlib.Core.Path.{◌≡◌, refl, sym, ap, ap₂, ◌∙◌}
use mathlib.Core.Bool.{Bool, ◌&&◌}
use mathlib.Core.List.{List, [], ◌∷◌, map, ◌++◌}
use Prim.Native.Nat.{ℕ, zero, suc, ◌+◌, ◌*◌, ◌/◌, ◌≤◌, ◌<◌}
use native.Mathlib.Omega.{arith}
use lib.ListN.{length, get_or, drop, length-map}
use Rattle.lists.specs.List.{all, from, up_to}
use Rattle.lists.proofs.Place.{get_d_map_from}
use Rattle.bitset.specs.Set.{set_of}
use Rattle.planning.specs.Table.{Table}
use Rattle.planning.specs.Place.{root_place, nodes}
use Rattle.planning.specs.Record.{Record, records}
use Rattle.planning.proofs.Record.{records_count}
use Rattle.index.proofs.Known.{set_length}
use Rattle.nodes.specs.Nodes.{words_of, record_at, laid, same_to}
use Rattle.nodes.specs.Tree.{blank, set_word, node_of, tree_of, same_node, met10}
use Rattle.nodes.specs.declared.Node.{Node}
use Rattle.nodes.proofs.Words.{nodes_back, laid_back}
use Rattle.tree.specs.Words.{tree_words}

-- The words of records are those of nodes --------------------------------------------------------------------------------------------
one_word : (xs : List ℕ) → set_of 1 xs ≡ set_word xs ∷ []
one_word xs = go (set_of 1 xs) (set_length xs)
  where
    go : (ws : List ℕ) → length ws ≡ 1 → ws ≡ get_or ws 0 0 ∷ []
    go [] e = absurd (omega arith)
    go (w ∷ []) e = refl
    go (w ∷ v ∷ ws) e = absurd (omega arith)

-- and none behind them
words_lem : (rs : List Record) → tree_words rs ≡ words_of (map node_of rs) ++ []
words_lem [] = refl
words_lem (r ∷ rs) = ap₂ (λ (l m : List ℕ). l ++ m) (ap₂ (λ (l m : List ℕ). r.depth ∷ r.parent ∷ r.children ∷ (l ++ m)) (one_word r.label.steps) (one_word r.label.jobs)) (words_lem rs)

words_length : (ns : List Node) → length (words_of ns ++ []) ≡ 5 * length ns
words_length [] = refl
words_length (n ∷ ns) = omega (arith, words_length ns)

all_below : (p q : ℕ → Bool) (k n : ℕ) → ((i : ℕ) → k ≤ i → i < k + n → p i ≡ q i) → all p (from k n) ≡ all q (from k n)
all_below p q k zero f = refl
all_below p q k (suc n) f =
    ap₂ (λ (a b : Bool). a && b) (f k (omega arith) (omega arith)) (all_below p q (suc k) n (λ i h l. f i (omega arith) (omega arith)))

-- The words of a table's records ---------------------------------------------------------------------------------------------------
module _ (T : Table) {flat : List ℕ} (e : flat ≡ tree_words (records T)) where
  whole : flat ≡ words_of (tree_of T) ++ []
  whole = e ∙ words_lem (records T)

  size : length flat ≡ 5 * length (tree_of T)
  size = ap length whole ∙ words_length (tree_of T)

  count : length flat / 5 ≡ length (tree_of T)
  count = omega (arith, size)

  -- they fit into as many records
  pub fits : nodes (root_place T) ≤ 1024 → {n : ℕ} → 1024 ≤ n → length flat ≤ 5 * n
  fits few h = omega (arith, size, length-map (records T) node_of, records_count T)

  record_is : (i : ℕ) → i < length (tree_of T) → record_at flat i ≡ get_or (tree_of T) i blank
  record_is i h =
      let z : 0 + i ≡ i = omega arith in
      ap (λ (l : List ℕ). record_at l i) whole ∙ ap (record_at (words_of (tree_of T) ++ [])) (sym z)
      ∙ sym (get_d_map_from (record_at (words_of (tree_of T) ++ [])) 0 (length (tree_of T)) i blank h)
      ∙ ap (λ (l : List Node). get_or l i blank) (nodes_back (tree_of T) [])

  -- question 10 is whether the lent records are those in the words
  pub compared : (tree : List Node) → same_to flat tree (length flat / 5) ≡ met10 T tree
  unfolding same_to
  compared tree =
      ap (λ (k : ℕ). all (λ i. same_node (get_or tree i blank) (record_at flat i)) (up_to k)) count
      ∙ all_below (λ i. same_node (get_or tree i blank) (record_at flat i)) (λ i. same_node (get_or tree i blank) (get_or (tree_of T) i blank)) 0 (length (tree_of T))
      (λ i l h. ap (same_node (get_or tree i blank)) (record_is i (omega arith)))

  -- the records laid
  pub laid_own : (tree : List Node) → laid flat tree (length flat / 5) ≡ tree_of T ++ drop (length (tree_of T)) tree
  laid_own tree =
      ap (laid flat tree) count ∙ ap (λ (l : List ℕ). laid l tree (length (tree_of T))) whole ∙ laid_back (tree_of T) [] tree
