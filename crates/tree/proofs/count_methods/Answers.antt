-- The chain's count is that of the methods kept.
use Rattle.std.proofs.Common.{◌≡◌, ◌∙◌, ap, length, rules, tests, arith}
use Rattle.std.proofs.lemmas.Iterator.{YieldsList-from_range}
use Rattle.std.proofs.lemmas.Iterator.Consumers.{YieldsList-at, YieldsList-from_filter, count_from_yields_List}
use Rattle.table.specs.Layout.{table_in}
use Rattle.planning.specs.Place.{methods_of}
use Rattle.tree.specs.Visit.{members_in}
use Rattle.tree.proofs.Chains.{one_of, kept_methods, few_methods}
use Rattle.tree.proofs.count_methods.Goals as goal

pub returns : goal.returns
returns c =
    let T = table_in c.args.ws.now in
    let w = c.args.jobs in
    let e : c.count.result ≡ length (methods_of T (members_in w)) =
    count_from_yields_List c.filter.result c.count.result c.count.ensures.ran
    (YieldsList-from_filter _ (one_of T w) (YieldsList-at c.filter.ensures.source (YieldsList-from_range 0 c.methods.result c.methods.result (cc) (omega arith)))
    c.filter.ensures.closure (λ x b q k. search (rules, tests)))
    ∙ ap length (kept_methods T w c.methods.ensures) in
    (e, omega (arith, e, few_methods T c.requires w))
