-- A small table in words, and what it holds.
-- By computation.
use mathlib.Core.Path.{◌≡◌, refl}
use mathlib.Core.List.{List, [], ◌∷◌, ◌++◌}
use Prim.Native.Nat.{ℕ}
use lib.ListN.{length, replicate}
use Rattle.planning.specs.Table.{Step, Method, step, job, no_step, step_of, body_of}
use Rattle.table.specs.Layout.{table_words, table_in, name_parts_in}

-- 3 facts, 2 steps, 2 jobs, 1 method; root 1, depth 4; facts 0 and 2 at the start
abbrev counts : List ℕ
counts = 3 ∷ 2 ∷ 2 ∷ 1 ∷ 1 ∷ 4 ∷ 5 ∷ []

-- step 0 needs fact 0, sets fact 1 and clears fact 2; step 1 sets facts 0 and 1; nothing for the other 62
abbrev steps : List ℕ
steps = (1 ∷ 2 ∷ 4 ∷ 0 ∷ 3 ∷ 0 ∷ []) ++ replicate 186 0

-- method 0 is one of job 1; its body is step 1, then job 1, the task behind the two steps and job 0; nothing for the other 127
abbrev methods : List ℕ
methods = (1 ∷ 2 ∷ 1 ∷ 3 ∷ []) ++ replicate 1276 0

-- where the names of three facts, two steps and two jobs stand
abbrev names : List ℕ
names = (2 ∷ 4 ∷ 9 ∷ 4 ∷ 16 ∷ 3 ∷ 22 ∷ 5 ∷ 40 ∷ 4 ∷ 60 ∷ 2 ∷ 65 ∷ 7 ∷ []) ++ replicate 370 0

abbrev small : List ℕ
small = counts ++ steps ++ methods ++ names

small_words : length small ≡ table_words
small_words = refl

-- field by field
facts_held : (table_in small).facts ≡ 3
unfolding table_in
facts_held = refl

-- no more than the most
facts_capped : (table_in (65 ∷ [])).facts ≡ 64
unfolding table_in
facts_capped = refl

steps_held : ◌≡◌ {A = List Step} (table_in small).steps
    (record { needs = 0 ∷ []; sets = 1 ∷ []; clears = 2 ∷ [] } ∷ record { needs = []; sets = 0 ∷ 1 ∷ []; clears = [] } ∷ [])
unfolding table_in
steps_held = refl

jobs_held : (table_in small).jobs ≡ 2
unfolding table_in
jobs_held = refl

methods_held : ◌≡◌ {A = List Method} (table_in small).methods (record { of = 1; body = step 1 ∷ job 1 ∷ [] } ∷ [])
unfolding table_in
methods_held = refl

start_held : (table_in small).start ≡ 0 ∷ 2 ∷ []
unfolding table_in
start_held = refl

root_held : (table_in small).root ≡ 1
unfolding table_in
root_held = refl

depth_held : (table_in small).depth ≡ 4
unfolding table_in
depth_held = refl

-- past the last there is nothing
step_past : step_of (table_in small) 2 ≡ no_step
unfolding table_in
step_past = refl

body_past : body_of (table_in small) 1 ≡ []
unfolding table_in
body_past = refl

-- the jobs' names stand behind the facts' and the steps'
names_held : (name_parts_in small).jobs ≡ record { start = 60; size = 2 } ∷ record { start = 65; size = 7 } ∷ []
unfolding name_parts_in
names_held = refl
