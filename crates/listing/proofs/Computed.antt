-- Small tables computed: document 01's example, a step that is handed down, two steps.
-- By computation.
use mathlib.Core.Path.{◌≡◌, refl}
use mathlib.Core.Bool.{true, false}
use mathlib.Core.List.{[], ◌∷◌}
use Rattle.lists.specs.Text.{bytes}
use Rattle.planning.specs.Table.{Table, step}
use Rattle.planning.specs.Tree.{alone, split, end, next}
use Rattle.planning.specs.Place.{child_count, child_label, place}
use Rattle.planning.specs.Model.{value}
use Rattle.planning.specs.Marked.{table, by, lift, shown, serve_and_lift_deeper}
use Rattle.listing.specs.Listing.{Names, listing}
use Rattle.listing.specs.Walk.{walked, value_of}

-- "two lines: `J`, 0, `serve`, 0; then `S`, 1, `lift`; tabs between"
abbrev named : Names
named = record { steps = bytes "lift" ∷ []; jobs = bytes "serve" ∷ [] }

shown_listing : listing named (split 0 0 (next (alone 0) end)) ≡ bytes "J\t0\tserve\t0\nS\t1\tlift\n"
shown_listing = refl

shown_walked : walked shown named (value (true ∷ true ∷ true ∷ false ∷ true ∷ [])) ≡ bytes "J\t0\tserve\t0\nS\t1\tlift\n"
unfolding place child_count child_label
shown_walked = refl

-- the same from values as they are lent
shown_lent : walked shown named (value_of (1 ∷ 1 ∷ 1 ∷ 0 ∷ 1 ∷ [])) ≡ bytes "J\t0\tserve\t0\nS\t1\tlift\n"
unfolding place child_count child_label
shown_lent = refl

-- methods serve and lift, depth 2: node 0 has variables 1 to 3, node 1, which is inner, has 4 to 7, the slot has 8. Method lift at node 0:
-- the step is true at node 1 too, which hands it down, and is listed once
handed_down : walked serve_and_lift_deeper named (value_of (1 ∷ 0 ∷ 1 ∷ 1 ∷ 0 ∷ 0 ∷ 0 ∷ 1 ∷ 0 ∷ 1 ∷ [])) ≡ bytes "J\t0\tserve\t1\nS\t1\tlift\n"
unfolding place child_count child_label
handed_down = refl

-- method serve at node 0 and method lift at node 1
two_jobs : walked serve_and_lift_deeper named (value_of (1 ∷ 1 ∷ 0 ∷ 0 ∷ 1 ∷ 0 ∷ 1 ∷ 1 ∷ 0 ∷ 1 ∷ [])) ≡ bytes "J\t0\tserve\t0\nJ\t1\tserve\t1\nS\t1\tlift\n"
unfolding place child_count child_label
two_jobs = refl

-- body lift,lift
abbrev two_lifts : Table
two_lifts = table lift (by (step 0 ∷ step 0 ∷ []) ∷ []) [] 1

two_steps : walked two_lifts named (value_of (1 ∷ 1 ∷ 1 ∷ 1 ∷ 0 ∷ 1 ∷ 1 ∷ [])) ≡ bytes "J\t0\tserve\t0\nS\t1\tlift\nS\t2\tlift\n"
unfolding place child_count child_label
two_steps = refl
