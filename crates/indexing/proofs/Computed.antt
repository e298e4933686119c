-- Small tables computed: the words of their index.
-- By computation.
use mathlib.Core.Path.{◌≡◌, refl}
use mathlib.Core.List.{[], ◌∷◌, map}
use Rattle.lists.specs.List.{up_to}
use Rattle.planning.specs.Table.{Table, job}
use Rattle.planning.specs.Place.{child_count, child_label, place}
use Rattle.planning.specs.Marked.{table, by, lift, shown, serve_and_lift}
use Rattle.index.specs.Index.{index_of, node_word_in, slot_node_in}

-- document 01's table: node 0 has the variables 1 for the job and 2 for its method, and node 1, a slot, has 3 for the step
shown_index : index_of shown ≡
    2 ∷ 1 ∷ 4
    ∷ 1 ∷ 0 ∷ 1 ∷ 0 ∷ 1 ∷ 1 ∷ 1 ∷ 1 ∷ 0 ∷ 0 ∷ 0 ∷ 0 ∷ 0 ∷ 0 ∷ 0
    ∷ 3 ∷ 1 ∷ 0 ∷ 1 ∷ 0 ∷ 0 ∷ 0 ∷ 0 ∷ 0 ∷ 0 ∷ 0 ∷ 0 ∷ 0 ∷ 0 ∷ 0
    ∷ 1
    ∷ 0 ∷ 0 ∷ 0 ∷ []
unfolding place child_count child_label
shown_index = refl

-- methods serve and lift, depth 1: node 0 has 1 for the job and 2 and 3 for its methods; node 1 may hold the job, and has 4 for the step
-- alone
serve_index : index_of serve_and_lift ≡
    2 ∷ 1 ∷ 5
    ∷ 1 ∷ 0 ∷ 1 ∷ 0 ∷ 1 ∷ 2 ∷ 1 ∷ 1 ∷ 0 ∷ 0 ∷ 0 ∷ 0 ∷ 0 ∷ 0 ∷ 0
    ∷ 4 ∷ 1 ∷ 0 ∷ 1 ∷ 0 ∷ 0 ∷ 0 ∷ 0 ∷ 0 ∷ 0 ∷ 0 ∷ 0 ∷ 0 ∷ 0 ∷ 0
    ∷ 1
    ∷ 0 ∷ 0 ∷ 1 ∷ 0 ∷ []
unfolding place child_count child_label
serve_index = refl

-- one method serve,serve, depth 2: the children of node 0 are 1 and 4, those of node 4 are 5 and 6, and the slots are 2, 3, 5 and 6
abbrev two_serves : Table
two_serves = table lift (by (job 0 ∷ job 0 ∷ []) ∷ []) [] 2

two_root : map (node_word_in (index_of two_serves) 0) (up_to 15) ≡ 1 ∷ 0 ∷ 1 ∷ 0 ∷ 1 ∷ 1 ∷ 2 ∷ 1 ∷ 4 ∷ 0 ∷ 0 ∷ 0 ∷ 0 ∷ 0 ∷ 0 ∷ []
unfolding place child_count child_label
two_root = refl

two_last : map (node_word_in (index_of two_serves) 4) (up_to 15) ≡ 5 ∷ 0 ∷ 1 ∷ 0 ∷ 1 ∷ 1 ∷ 2 ∷ 5 ∷ 6 ∷ 0 ∷ 0 ∷ 0 ∷ 0 ∷ 0 ∷ 0 ∷ []
unfolding place child_count child_label
two_last = refl

two_slots : map (slot_node_in (index_of two_serves)) (up_to 4) ≡ 2 ∷ 3 ∷ 5 ∷ 6 ∷ []
unfolding place child_count child_label
two_slots = refl
