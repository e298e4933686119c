-- Fact variables: where they begin, and that there is room for each.
-- By the limits of an accepted table.
use mathlib.Core.Path.{◌≡◌, ap, ◌∙◌}
use mathlib.Core.List.{List}
use Prim.Native.Nat.{ℕ, ◌+◌, ◌*◌, ◌≤◌, ◌<◌}
use native.Mathlib.Nat.{mul-le-mul_right}
use native.Mathlib.Omega.{arith}
use Rattle.planning.specs.Table.{Table}
use Rattle.planning.specs.Variable.{fact_var}
use Rattle.places.proofs.Records.{vars_records}
use Rattle.index.specs.Index.{source, first_fact_in}
use Rattle.shape.specs.Shape.{Indexed}

module _ {T : Table} {ix : List ℕ} (i : Indexed T ix) where
  first_most : (source T).facts ≤ 8192
  first_most = omega (arith, vars_records T, i.accepted.few_variables)

  -- fact f at boundary b, from the first fact variable a and the number k of facts
  pub fact_room : {a k : ℕ} (b f : ℕ) → a ≡ first_fact_in ix → k ≡ T.facts → b ≤ 1024 → f < 64 → (b * k ≤ 65536) × (a + b * k + f < 100000)
  fact_room {a} {k} b f e g h l =
      let m : b * k ≤ 65536 = omega (arith, mul-le-mul_right {m = b} {n = 1024} k h, i.accepted.limits.facts) in
      (m, omega (arith, m, e ∙ ap first_fact_in i.index, first_most))

  pub fact_is : {a k : ℕ} (b f : ℕ) → a ≡ first_fact_in ix → k ≡ T.facts → b ≤ 1024 → f < 64
      → (a + b * k + f ≡ fact_var T (source T).facts b f) × (a + b * k + f < 100000)
  fact_is {a} {k} b f e g h l = (rw (e, g, i.index), (fact_room b f e g h l).1)
