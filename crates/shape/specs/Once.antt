-- Inside the encoding, nothing to believe: that a table is accepted, and has this index, can be shown in one way only: so a value may carry it.
-- Assumes nothing.
use Rattle.std.specs.Prelude.{List, [], ◌∷◌, ℕ, suc, ◌≤◌, length}
use Rattle.std.specs.Coded.{×_prop, Unit-prop, le_prop, Coded-set, coded_ℕ, coded_list}
use Rattle.lists.specs.List.{Every, Rising}
use Rattle.planning.specs.Table.{Table, Task, step, job, Step, Method, TaskIn, StepIn, MethodIn, Sound, Limits}
use Rattle.planning.specs.Accepted.{Accepted}
use Rattle.index.specs.Index.{index_of}
use Rattle.shape.specs.Shape.{Indexed}

pub Every-prop : {A : Type 0} (P : A → Type 0) → ((a : A) → IsProp (P a)) → (xs : List A) → IsProp (Every P xs)
Every-prop P h [] = Unit-prop
Every-prop P h (x ∷ xs) = ×_prop (h x) (Every-prop P h xs)

Rising-prop : (k n : ℕ) (xs : List ℕ) → IsProp (Rising k n xs)
Rising-prop k n [] = Unit-prop
Rising-prop k n (x ∷ xs) = λ p q. λ i. (le_prop p.0 q.0 i, le_prop p.1 q.1 i, Rising-prop (suc x) n xs p.2 q.2 i)

TaskIn-prop : (T : Table) (t : Task) → IsProp (TaskIn T t)
TaskIn-prop T (step s) = le_prop
TaskIn-prop T (job j) = le_prop

StepIn-prop : (T : Table) (s : Step) → IsProp (StepIn T s)
StepIn-prop T s p q = λ i. record {
  needs = Rising-prop 0 T.facts s.needs p.needs q.needs i;
  sets = Rising-prop 0 T.facts s.sets p.sets q.sets i;
  clears = Rising-prop 0 T.facts s.clears p.clears q.clears i;
}

MethodIn-prop : (T : Table) (m : Method) → IsProp (MethodIn T m)
MethodIn-prop T m p q = λ i. record {
  of = le_prop p.of q.of i;
  body = Every-prop (TaskIn T) (TaskIn-prop T) m.body p.body q.body i;
}

Sound-prop : (T : Table) → IsProp (Sound T)
Sound-prop T p q = λ i. record {
  steps = Every-prop (StepIn T) (StepIn-prop T) T.steps p.steps q.steps i;
  methods = Every-prop (MethodIn T) (MethodIn-prop T) T.methods p.methods q.methods i;
  start = Rising-prop 0 T.facts T.start p.start q.start i;
  root = le_prop p.root q.root i;
  depth = le_prop p.depth q.depth i;
}

Limits-prop : (T : Table) → IsProp (Limits T)
Limits-prop T p q = λ i. record {
  facts = le_prop p.facts q.facts i;
  steps = le_prop p.steps q.steps i;
  jobs = le_prop p.jobs q.jobs i;
  methods = le_prop p.methods q.methods i;
  bodies = Every-prop (λ (m : Method). length m.body ≤ 8) (λ m. le_prop) T.methods p.bodies q.bodies i;
  depth = le_prop p.depth q.depth i;
}

pub Accepted-prop : (T : Table) → IsProp (Accepted T)
Accepted-prop T p q = λ i. record {
  sound = Sound-prop T p.sound q.sound i;
  limits = Limits-prop T p.limits q.limits i;
  few_nodes = le_prop p.few_nodes q.few_nodes i;
  few_variables = le_prop p.few_variables q.few_variables i;
}

pub Indexed-prop : (T : Table) (ix : List ℕ) → IsProp (Indexed T ix)
Indexed-prop T ix p q = λ i. record {
  accepted = Accepted-prop T p.accepted q.accepted i;
  index = Coded-set (coded_list coded_ℕ) ix (index_of T) p.index q.index i;
}
