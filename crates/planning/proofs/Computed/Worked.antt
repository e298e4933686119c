-- Further small tables, one for each rule that the marked tables do not put to the test, with the exact counts of their models; and
-- records, and edges of heights, places and text calls. Each fact is computed.
use mathlib.Core.Path.{◌≡◌, refl}
use mathlib.Core.List.{List, [], ◌∷◌}
use Prim.Native.Nat.{ℕ}
use Rattle.planning.specs.Table.{Task, step, job, Method, Table, no_step}
use Rattle.planning.specs.Tree.{split, end, height}
use Rattle.planning.specs.Place.{child_count, child_label, place}
use Rattle.planning.specs.Record.{Record, records}
use Rattle.planning.specs.Text.{bytes_used, next_line}
use Rattle.planning.specs.Marked.{Models, table, by, lift, shown, serve_and_lift}
use Rattle.planning.proofs.Computed.Try.{tried}

-- no fact; the steps do nothing. Methods of job 0, the root, and of job 1
abbrev factless : ℕ → List Method → ℕ → Table
factless jobs methods depth = record { facts = 0; steps = no_step ∷ no_step ∷ []; jobs = jobs; methods = methods; start = []; root = 0; depth = depth }

abbrev by_one : List Task → Method
by_one body = record { of = 1; body = body }

abbrev node : (depth parent children : ℕ) → (steps jobs : List ℕ) → Record
node d u c ss js = record { depth = d; parent = u; children = c; label = record { steps = ss; jobs = js } }

-- Models ---------------------------------------------------------------------------------------------------------------------
-- 2(a) at a slot: one of two steps, and not both
abbrev either_step : Table
either_step = factless 1 (by (step 0 ∷ []) ∷ by (step 1 ∷ []) ∷ []) 1

pub either_models : Models either_step 2
unfolding place child_label child_count
either_models = tried either_step 2 refl

-- 2(e), the negated rest: beside an empty body the child holds nothing
abbrev empty_or_step : Table
empty_or_step = factless 1 (by [] ∷ by (step 0 ∷ []) ∷ []) 1

pub empty_or_models : Models empty_or_step 2
unfolding place child_label child_count
empty_or_models = tried empty_or_step 2 refl

-- 2(f): a step that is handed down, beside a job with two names in its body
abbrev step_beside_two : Table
step_beside_two = factless 2 (by (step 0 ∷ []) ∷ by (job 1 ∷ []) ∷ by_one (step 0 ∷ step 0 ∷ []) ∷ []) 2

pub beside_models : Models step_beside_two 2
unfolding place child_label child_count
beside_models = tried step_beside_two 2 refl

-- 2(g): below a node that holds nothing nothing is held
abbrev empty_or_job : Table
empty_or_job = factless 2 (by [] ∷ by (job 1 ∷ []) ∷ by_one (step 0 ∷ []) ∷ []) 2

pub below_models : Models empty_or_job 2
unfolding place child_label child_count
below_models = tried empty_or_job 2 refl

-- rule 4: a fact that no step touches stays true, or stays false
abbrev idle : List ℕ → Table
idle start = table no_step (by (step 0 ∷ []) ∷ []) start 1

pub stays_true_models : Models (idle (0 ∷ [])) 1
unfolding place child_label child_count
stays_true_models = tried (idle (0 ∷ [])) 1 refl

pub stays_false_models : Models (idle []) 1
unfolding place child_label child_count
stays_false_models = tried (idle []) 1 refl

-- rule 4 at the last of two slots: lift sets what the second step needs
abbrev lift_then_need : Table
lift_then_need = record {
  facts = 1;
  steps = lift ∷ record { needs = 0 ∷ []; sets = []; clears = [] } ∷ [];
  jobs = 1;
  methods = by (step 0 ∷ step 1 ∷ []) ∷ by (step 1 ∷ step 0 ∷ []) ∷ by (step 0 ∷ []) ∷ [];
  start = [];
  root = 0;
  depth = 1;
}

pub then_models : Models lift_then_need 2
unfolding place child_label child_count
then_models = tried lift_then_need 2 refl

-- Records --------------------------------------------------------------------------------------------------------------------
-- a job at depth K is kept, though it has no variable
pub at_depth_records : records serve_and_lift ≡ node 0 0 1 [] (0 ∷ []) ∷ node 1 0 0 (0 ∷ []) (0 ∷ []) ∷ []
unfolding place child_label child_count
at_depth_records = refl

-- two children with two each: numbers go down before they go on
abbrev two_pairs : Table
two_pairs = factless 2 (by (job 1 ∷ job 1 ∷ []) ∷ by_one (step 0 ∷ step 1 ∷ []) ∷ []) 2

pub pair_records : records two_pairs ≡ node 0 0 2 [] (0 ∷ [])
    ∷ node 1 0 2 [] (1 ∷ []) ∷ node 2 1 0 (0 ∷ []) [] ∷ node 2 1 0 (1 ∷ []) []
    ∷ node 1 0 2 [] (1 ∷ []) ∷ node 2 4 0 (0 ∷ []) [] ∷ node 2 4 0 (1 ∷ []) []
    ∷ []
unfolding place child_label child_count
pair_records = refl

-- Heights, places, text calls ------------------------------------------------------------------------------------------------
-- "or 1 where the body is empty"
pub empty_height : height (split 0 0 end) ≡ 1
empty_height = refl

-- the header of the table shown has 10 bytes, and the first clause 4: a buffer takes a line that just fits, and none that does not
pub just_fits : next_line shown 0 14 ≡ 2
unfolding place child_label child_count
just_fits = refl

pub one_short : next_line shown 0 13 ≡ 1
unfolding place child_label child_count
one_short = refl

-- the last line, and past it
pub last_line : bytes_used shown 9 1024 ≡ 9
unfolding place child_label child_count
last_line = refl

pub past_the_end : next_line shown 9 1024 ≡ 10
unfolding place child_label child_count
past_the_end = refl
