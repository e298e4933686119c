-- Records and their words, there and back.
-- By one record after the other.
use mathlib.Core.Path.{◌≡◌, refl, ap, ap₂, ◌∙◌}
use mathlib.Core.List.{List, [], ◌∷◌, map, ◌++◌}
use Prim.Native.Nat.{ℕ, zero, suc, ◌+◌, ◌*◌}
use native.Mathlib.Omega.{arith}
use lib.ListN.{length, drop}
use Rattle.lists.specs.List.{from, up_to}
use Rattle.nodes.specs.Nodes.{node_words, words_of, record_at, laid}
use Rattle.nodes.specs.declared.Node.{Node}

-- Records from words -------------------------------------------------------------------------------------------------------------------
-- record i + 1 is record i of the words behind the first five
module _ (a : Node) (fs : List ℕ) where
  later_node : (i : ℕ) → record_at (node_words a ++ fs) (suc i) ≡ record_at fs i
  later_node i =
      let e0 : suc i * 5 ≡ suc (suc (suc (suc (suc (i * 5))))) = omega arith in
      let e1 : suc i * 5 + 1 ≡ suc (suc (suc (suc (suc (i * 5 + 1))))) = omega arith in
      let e2 : suc i * 5 + 2 ≡ suc (suc (suc (suc (suc (i * 5 + 2))))) = omega arith in
      let e3 : suc i * 5 + 3 ≡ suc (suc (suc (suc (suc (i * 5 + 3))))) = omega arith in
      let e4 : suc i * 5 + 4 ≡ suc (suc (suc (suc (suc (i * 5 + 4))))) = omega arith in
      rw (e1, e2, e3, e4, e0)

map_from : (f g : ℕ → Node) (k : ℕ) (n : ℕ) → ((i : ℕ) → f (suc i) ≡ g i) → map f (from (suc k) n) ≡ map g (from k n)
map_from f g k zero h = refl
map_from f g k (suc n) h = ap₂ (λ (a : Node) (l : List Node). a ∷ l) (h k) (map_from f g (suc k) n h)

-- records that were put into words are read from them
pub nodes_back : (ms : List Node) (fs : List ℕ) → map (record_at (words_of ms ++ fs)) (up_to (length ms)) ≡ ms
nodes_back [] fs = refl
nodes_back (a ∷ ms) fs = ap (λ (l : List Node). a ∷ l) (map_from (record_at (words_of (a ∷ ms) ++ fs)) (record_at (words_of ms ++ fs)) 0 (length ms) (later_node a (words_of ms ++ fs)) ∙ nodes_back ms fs)

pub laid_back : (ms : List Node) (fs : List ℕ) (ns : List Node) → laid (words_of ms ++ fs) ns (length ms) ≡ ms ++ drop (length ms) ns
unfolding laid
laid_back ms fs ns = ap (λ (l : List Node). l ++ drop (length ms) ns) (nodes_back ms fs)
