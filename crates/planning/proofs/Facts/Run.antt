-- Doing steps: states that agree on every fact of the table are alike, and runs can be joined and parted.
-- By recursion on the steps. Of the reader's promises only this is used: a step needs facts of the table alone.
use mathlib.Core.Path.{◌≡◌, refl, sym, ◌∙◌}
use mathlib.Core.Bool.{true}
use mathlib.Core.List.{List, [], ◌∷◌, ◌++◌}
use Prim.Native.Nat.{ℕ, ◌<◌}
use Rattle.lists.specs.List.{◌∈◌, Every}
use Rattle.lists.proofs.Bool.{and_l, and_r, and_in}
use Rattle.lists.proofs.Member.{all_in, all_out}
use Rattle.lists.proofs.Every.{every_get_d}
use Rattle.lists.proofs.Rising.{rising_range}
use Rattle.planning.specs.Table.{Step, Table, no_step, step_of, StepIn}
use Rattle.planning.specs.Tree.{State, ready, after, run, can}

-- the promise that is used
abbrev pub NeedsIn : Table → Type 0
NeedsIn T = (s f : ℕ) → f ∈ (step_of T s).needs → f < T.facts

pub needs_in : (T : Table) → Every (StepIn T) T.steps → NeedsIn T
needs_in T h s f m = (rising_range 0 T.facts (step_of T s).needs
    (every_get_d (StepIn T) T.steps no_step h (record { needs = tt; sets = tt; clears = tt }) s).needs f m).1

abbrev pub Agree : Table → State → State → Type 0
Agree T st su = (f : ℕ) → f < T.facts → st f ≡ su f

pub after_agree : (s : Step) (st su : State) (f : ℕ) → st f ≡ su f → after s st f ≡ after s su f
after_agree s st su f e = rw e

module _ (T : Table) (needed : NeedsIn T) where
  ready_agree : (s : ℕ) (st su : State) → Agree T st su → ready (step_of T s) st ≡ true → ready (step_of T s) su ≡ true
  ready_agree s st su e h = all_in su (step_of T s).needs (λ f m. sym (e f (needed s f m)) ∙ all_out st (step_of T s).needs h f m)

  pub can_agree : (ss : List ℕ) (st su : State) → Agree T st su → can T ss st ≡ true → can T ss su ≡ true
  can_agree [] st su e h = refl
  can_agree (s ∷ ss) st su e h =
      and_in (ready (step_of T s) su) (can T ss (after (step_of T s) su))
      (ready_agree s st su e (and_l (ready (step_of T s) st) (can T ss (after (step_of T s) st)) h))
      (can_agree ss (after (step_of T s) st) (after (step_of T s) su) (λ f u. after_agree (step_of T s) st su f (e f u)) (and_r (ready (step_of T s) st) (can T ss (after (step_of T s) st)) h))

module _ (T : Table) where
  pub run_agree : (ss : List ℕ) (st su : State) → Agree T st su → Agree T (run T ss st) (run T ss su)
  run_agree [] st su e f u = e f u
  run_agree (s ∷ ss) st su e f u = run_agree ss (after (step_of T s) st) (after (step_of T s) su) (λ g w. after_agree (step_of T s) st su g (e g w)) f u

  pub run_append : (a b : List ℕ) (st : State) → run T (a ++ b) st ≡ run T b (run T a st)
  run_append [] b st = refl
  run_append (s ∷ a) b st = run_append a b (after (step_of T s) st)

  pub can_append : (a b : List ℕ) (st : State) → can T a st ≡ true → can T b (run T a st) ≡ true → can T (a ++ b) st ≡ true
  can_append [] b st p q = q
  can_append (s ∷ a) b st p q =
      let st' = after (step_of T s) st in
      and_in (ready (step_of T s) st) (can T (a ++ b) st') (and_l (ready (step_of T s) st) (can T a st') p) (can_append a b st' (and_r (ready (step_of T s) st) (can T a st') p) q)

  pub can_left : (a b : List ℕ) (st : State) → can T (a ++ b) st ≡ true → can T a st ≡ true
  can_left [] b st p = refl
  can_left (s ∷ a) b st p =
      let st' = after (step_of T s) st in
      and_in (ready (step_of T s) st) (can T a st') (and_l (ready (step_of T s) st) (can T (a ++ b) st') p) (can_left a b st' (and_r (ready (step_of T s) st) (can T (a ++ b) st') p))

  pub can_right : (a b : List ℕ) (st : State) → can T (a ++ b) st ≡ true → can T b (run T a st) ≡ true
  can_right [] b st p = p
  can_right (s ∷ a) b st p = can_right a b (after (step_of T s) st) (and_r (ready (step_of T s) st) (can T (a ++ b) (after (step_of T s) st)) p)
