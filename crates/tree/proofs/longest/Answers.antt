-- The chain's greatest size is that of the longest body kept, or 0.
use Rattle.std.proofs.Common.{◌∙◌, ap, sym, length, max, map, rules, tests, arith}
use Rattle.std.specs.Prelude.{unwrap_or}
use Rattle.std.specs.List.{reduce}
use Rattle.std.proofs.lemmas.Iterator.{YieldsList-from_range, YieldsList-from_map}
use Rattle.std.proofs.lemmas.Iterator.Adapters.{option_map_id}
use Rattle.std.proofs.lemmas.Iterator.Consumers.{YieldsList-at, YieldsList-from_filter, max_from_yields_List}
use Rattle.table.specs.Layout.{table_in}
use Rattle.planning.specs.Table.{body_of}
use Rattle.planning.specs.Place.{methods_of}
use Rattle.tree.specs.Visit.{members_in}
use Rattle.tree.proofs.Chains.{one_of, kept_methods, most_of}
use Rattle.tree.proofs.longest.Goals as goal

pub returns : goal.returns
returns c =
    let T = table_in c.args.ws.now in
    let w = c.args.jobs in
    let h =
    max_from_yields_List c.map.result c.max.result c.max.ensures.ran
    (YieldsList-from_map _ (λ m. length (body_of T m)) (YieldsList-at c.map.ensures.source
    (YieldsList-from_filter _ (one_of T w) (YieldsList-at c.filter.ensures.source (YieldsList-from_range 0 c.methods.result c.methods.result (cc) (omega arith)))
    c.filter.ensures.closure (λ x b q k. search (rules, tests))))
    c.map.ensures.closure (λ x r q k. search rules)) in
    c.unwrap_or.ensures ∙ ap (λ o. unwrap_or o 0) (sym (option_map_id c.max.result) ∙ h)
    ∙ ap (λ ms. unwrap_or (reduce max (map (λ m. length (body_of T m)) ms)) 0) (kept_methods T w c.methods.ensures) ∙ most_of T (methods_of T (members_in w))
