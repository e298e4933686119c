use mathlib.Core.Path.{refl, sym, ◌∙◌}
use mathlib.Core.List.{List}
use Prim.Native.Nat.{ℕ}
use Rattle.std.proofs.Common.{Bor}
use Rattle.std.proofs.lemmas.Result.{err_from_is_err_and}
use Rattle.rows.specs.Words.{fact_words}
use Rattle.rows.proofs.Counts.{asked_err, facts_few}
use Rattle.rows.proofs.FactList.{adding_first, adding_out, adding_twice, adding_more, adding_done}
use Rattle.rows.proofs.Names.{left_first, left_more}
use Rattle.rows.proofs.fact_set.Goals as goal

pub loop-left-init : goal.loop-left-init
loop-left-init c = adding_first fact_words _ _ _ (left_first (λ (x : Bor (List ℕ)). x.now) c.names_of-left.result c.names_of-left.ensures)

pub returns-in_err-fact : goal.returns-in_err-fact
returns-in_err-fact c =
    let p = err_from_is_err_and c.from_residual.result c.from_residual.ensures.1 in
    let q = left_more (λ (x : Bor (List ℕ)). x.now) c.loop-left.left c.split_first.result.1 c.in-Some.names c.split_first.result.0.now c.in-Some.is
    c.split_first.ensures.parts in
    let n = c.in_err-fact.ensures in
    asked_err _ _ p.1 p.2 (adding_out c.loop-left.invariant q n.0, n.1)

pub returns-then-has : goal.returns-then-has
returns-then-has c =
    let q = left_more (λ (x : Bor (List ℕ)). x.now) c.loop-left.left c.split_first.result.1 c.in-Some.names c.split_first.result.0.now c.in-Some.is
    c.split_first.ensures.parts in
    let n = c.in_ok-fact.ensures in
    (adding_twice c.loop-left.invariant q n (sym c.has.ensures ∙ c.if-has.true), refl)

pub loop-left-preserved : goal.loop-left-preserved
loop-left-preserved c =
    let q = left_more (λ (x : Bor (List ℕ)). x.now) c.loop-left.left c.split_first.result.1 c.in-Some.names c.split_first.result.0.now c.in-Some.is
    c.split_first.ensures.parts in
    let n = c.in_ok-fact.ensures in
    rw c.insert.ensures (adding_more c.loop-left.invariant q n (facts_few c.args.o.now.shape.shaped) (sym c.has.ensures ∙ c.if-has.false))

pub returns : goal.returns
returns c = adding_done (facts_few c.args.o.now.shape.shaped) (rw c.in_default.is at c.loop-left.invariant)
