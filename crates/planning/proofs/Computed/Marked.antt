-- The ten marked tables.
-- Each fact is computed.
use mathlib.Core.Path.{◌≡◌, refl}
use mathlib.Core.Bool.{Bool, true}
use mathlib.Core.List.{List, []}
use Rattle.lists.specs.List.{Every}
use Rattle.planning.specs.Tree.{Tree, alone, split, end, next, tree_steps, initial, run}
use Rattle.planning.specs.Place.{child_count, child_label, place}
use Rattle.planning.specs.Variable.{fact_var, first_fact_var}
use Rattle.planning.specs.Model.{value, Model, Gives}
use Rattle.planning.specs.Text.{text}
use Rattle.planning.specs.Accepted.{Accepted}
use Rattle.planning.specs.Marked.{Models, shown, deeper, empty_body, without_methods, serve_and_lift, serve_and_lift_deeper, twice, needs_open, needs_open_at_start, sets_and_clears, ten, shown_text, Marked}
use Rattle.planning.proofs.Computed.Try.{tried, of_found, of_tree}
use Rattle.planning.proofs.Computed.Test.{all_accepted}

-- the exact counts of models, each apart from the others, so that a false one is told by its name
shown_models : Models shown 1
unfolding place child_label child_count
shown_models = tried shown 1 refl

deeper_models : Models deeper 1
unfolding place child_label child_count
deeper_models = tried deeper 1 refl

empty_models : Models empty_body 1
unfolding place child_label child_count
empty_models = tried empty_body 1 refl

none_models : Models without_methods 0
unfolding place child_label child_count
none_models = tried without_methods 0 refl

both_models : Models serve_and_lift 1
unfolding place child_label child_count
both_models = tried serve_and_lift 1 refl

both_deeper_models : Models serve_and_lift_deeper 2
unfolding place child_label child_count
both_deeper_models = tried serve_and_lift_deeper 2 refl

twice_models : Models twice 2
unfolding place child_label child_count
twice_models = tried twice 2 refl

needs_models : Models needs_open 0
unfolding place child_label child_count
needs_models = tried needs_open 0 refl

needs_start_models : Models needs_open_at_start 1
unfolding place child_label child_count
needs_start_models = tried needs_open_at_start 1 refl

clears_models : Models sets_and_clears 1
unfolding place child_label child_count
clears_models = tried sets_and_clears 1 refl

shown_text_lem : text shown ≡ shown_text
unfolding place child_label child_count
shown_text_lem = refl

empty_steps : (vs : List Bool) (t : Tree) → Model empty_body vs → Gives empty_body vs t → tree_steps t ≡ []
unfolding place child_label child_count
empty_steps vs t m g = of_found empty_body (λ us. (u : Tree) → Gives empty_body us u → tree_steps u ≡ [])
    (λ u e. of_tree (λ x. tree_steps x ≡ []) (split 0 0 end) u e refl, tt) vs m t g

clears_after : (vs : List Bool) (t : Tree) → Model sets_and_clears vs → Gives sets_and_clears vs t → run sets_and_clears (tree_steps t) (initial sets_and_clears) 0 ≡ true
unfolding place child_label child_count
clears_after vs t m g = of_found sets_and_clears (λ us. (u : Tree) → Gives sets_and_clears us u → run sets_and_clears (tree_steps u) (initial sets_and_clears) 0 ≡ true)
    (λ u e. of_tree (λ x. run sets_and_clears (tree_steps x) (initial sets_and_clears) 0 ≡ true) (split 0 0 (next (alone 0) end)) u e refl, tt) vs m t g

clears_boundary : (vs : List Bool) → Model sets_and_clears vs → value vs (fact_var sets_and_clears (first_fact_var sets_and_clears) 1 0) ≡ true
unfolding place child_label child_count
clears_boundary = of_found sets_and_clears (λ us. value us (fact_var sets_and_clears (first_fact_var sets_and_clears) 1 0) ≡ true) (refl, tt)

accepted : Every Accepted ten
unfolding place child_label child_count
accepted = all_accepted ten refl

pub marked : Marked
unfolding place child_label child_count
marked = record {
  accepted = accepted;
  shown_text_lem = shown_text_lem;
  shown_models = shown_models;
  deeper_formula = refl;
  deeper_variables = refl;
  deeper_models = deeper_models;
  empty_variables = refl;
  empty_clauses = refl;
  empty_models = empty_models;
  empty_steps = empty_steps;
  none_variables = refl;
  none_clauses = refl;
  none_models = none_models;
  both_models = both_models;
  both_deeper_models = both_deeper_models;
  twice_models = twice_models;
  needs_models = needs_models;
  needs_start_models = needs_start_models;
  clears_models = clears_models;
  clears_after = clears_after;
  clears_boundary = clears_boundary;
}
