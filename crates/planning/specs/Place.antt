-- The tree of places: the field's path decomposition tree, which has room for every procedure tree down to the depth.
-- Assumes nothing.
use Rattle.std.specs.Prelude.{Bool, false, ◌&&◌, ◌||◌, List, [], ◌∷◌, map, ℕ, zero, suc, ◌+◌, max, length, eqb}
use Rattle.std.proofs.Math.Option.{Option, none, some}
use Rattle.std.proofs.Math.ListN.{get_elem?}
use Rattle.lists.specs.List.{filter, any, up_to, has}
use Rattle.planning.specs.Table.{Task, step, job, same, Table, job_of, body_of}

-- what a node may hold: "the sets of steps and of jobs it may hold", as rising lists
pub record Label : Type 0 where
  pub steps : List ℕ
  pub jobs : List ℕ

-- A place is a node with the part (subtree) below it; `Places` is a list of them. A slot has room for at most one step of the plan: it
-- is the paper's leaf, while an inner node without children is none. "a slot has no children"
mutual
  pub data Place : Type 0 where
    slot : Label → Place
    inner : Label → Places → Place

  pub data Places : Type 0 where
    stop : Places
    also : Place → Places → Places

-- the methods of these jobs, in rising number
abbrev pub methods_of : Table → List ℕ → List ℕ
methods_of T js = filter (λ m. has js (job_of T m)) (up_to (length T.methods))

-- "the longest body among" these methods
abbrev pub longest : Table → List ℕ → ℕ
longest T [] = 0
longest T (m ∷ ms) = max (length (body_of T m)) (longest T ms)

abbrev pub one_if_any : List ℕ → ℕ
one_if_any [] = 0
one_if_any (s ∷ ss) = 1

-- "An inner node has as many children as the longest body among all methods of the jobs it may hold, and at least one if it may hold
-- a step." "An inner node may have no children."
unfoldable pub child_count : Table → Label → ℕ
child_count T L = max (one_if_any L.steps) (longest T (methods_of T L.jobs))

-- is there a name, and is it t?
abbrev pub is : Option Task → Task → Bool
is none t = false
is (some u) t = same u t

-- "the ith name of each method of each job the node may hold": is t one of them? i counts from 0 here
abbrev pub named : Table → Label → ℕ → Task → Bool
named T L i t = any (λ m. is (get_elem? (body_of T m) i) t) (methods_of T L.jobs)

-- "Child i may hold the ith name of each method of each job the node may hold; child 1 may also hold the node's steps." i counts from 0
-- here, so that document 01's child 1 is child 0
unfoldable pub child_label : Table → Label → ℕ → Label
child_label T L i = record {
  steps = filter (λ s. named T L i (step s) || (eqb i 0 && has L.steps s)) (up_to (length T.steps));
  jobs = filter (λ j. named T L i (job j)) (up_to T.jobs);
}

-- inner where there is a job among js, the jobs that the node may hold, and otherwise a slot
abbrev pub inner_if : List ℕ → Label → Places → Place
inner_if [] L ps = slot L
inner_if (j ∷ js) L ps = inner L ps

-- the places of these labels, one after the other
abbrev pub row : (Label → Place) → List Label → Places
row f [] = stop
row f (L ∷ Ls) = also (f L) (row f Ls)

-- "A node that may hold a job and lies above the table's depth K is inner. Every other node is a slot, even a node at depth K where
-- only jobs could come": the place of a node that may hold L and lies d above depth K
unfoldable pub place : Table → ℕ → Label → Place
place T zero L = slot L
place T (suc d) L = inner_if L.jobs L (row (λ M. place T d M) (map (child_label T L) (up_to (child_count T L))))

-- "Node 0 is the root, at depth 0, and may hold the root job."
abbrev pub root_label : Table → Label
root_label T = record { steps = []; jobs = T.root ∷ [] }

abbrev pub root_place : Table → Place
root_place T = place T T.depth (root_label T)

-- how many nodes a part has
abbrev mutual
  pub nodes : Place → ℕ
  nodes (slot L) = 1
  nodes (inner L ps) = suc (nodes_of ps)

  pub nodes_of : Places → ℕ
  nodes_of stop = 0
  nodes_of (also p ps) = nodes p + nodes_of ps

-- how many children these are
abbrev pub count : Places → ℕ
count stop = 0
count (also p ps) = suc (count ps)
