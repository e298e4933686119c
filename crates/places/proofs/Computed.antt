-- Small tables computed: the places of the clauses in order, and how many clauses there are.
-- By computation.
use mathlib.Core.Path.{◌≡◌, refl}
use mathlib.Core.List.{[], ◌∷◌}
use lib.ListN.{length}
use Rattle.planning.specs.Table.{Table, job}
use Rattle.planning.specs.Place.{child_count, child_label, place}
use Rattle.planning.specs.Record.{records}
use Rattle.planning.specs.Clause.{formula}
use Rattle.planning.specs.Marked.{table, by, lift, shown, serve_and_lift_deeper}
use Rattle.places.specs.Nest.{left}
use Rattle.places.specs.ClausePlace.{root, both, methods_of, job_of_method, body_task, inherited, up, start, effect, fall, rise, shape, source_of}
use Rattle.places.specs.Cursor.{places_left, begin}
use Rattle.places.specs.Total.{clause_count}

-- document 01's table
shown_places : places_left (source_of shown (records shown)) begin ≡
    root ∷ methods_of 0 0 ∷ job_of_method 0 0 ∷ body_task 0 0 0 ∷ up 0 3 ∷ start 0 ∷ effect 3 5 ∷ fall 0 0 ∷ rise 0 0 ∷ []
unfolding left shape place child_count child_label
shown_places = refl

shown_count : clause_count (source_of shown (records shown)) ≡ 9
unfolding place child_count child_label
shown_count = refl

-- methods serve and lift, depth 2: node 0 has variables 1 to 3, node 1 has 4 to 7, the slot has 8
deeper_places : places_left (source_of serve_and_lift_deeper (records serve_and_lift_deeper)) begin ≡
    root
    ∷ both 2 3 ∷ methods_of 0 0 ∷ job_of_method 0 0 ∷ job_of_method 0 1 ∷ body_task 0 0 0 ∷ body_task 0 1 0 ∷ up 0 4 ∷ up 0 5
    ∷ both 4 5 ∷ both 6 7 ∷ methods_of 1 0 ∷ job_of_method 1 0 ∷ job_of_method 1 1 ∷ body_task 1 0 0 ∷ body_task 1 1 0 ∷ inherited 1 0 ∷ up 1 8
    ∷ start 0 ∷ effect 8 10 ∷ fall 0 0 ∷ rise 0 0 ∷ []
unfolding left shape place child_count child_label
deeper_places = refl

-- one method serve,serve,serve, depth 5: 364 nodes
abbrev three_serves : Table
three_serves = table lift (by (job 0 ∷ job 0 ∷ job 0 ∷ []) ∷ []) [] 5

three_nodes : length (records three_serves) ≡ 364
unfolding place child_count child_label
three_nodes = refl

three_count : clause_count (source_of three_serves (records three_serves)) ≡ length (formula three_serves)
unfolding place child_count child_label
three_count = refl
