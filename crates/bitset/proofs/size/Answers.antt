-- `bitset::size` meets its contract: the fold counts the members word by word.
-- Assumes nothing.
use Rattle.std.proofs.Common.{rules, tests, ℕ, ◌+◌, ◌%◌, ◌^◌, ◌∙◌}
use Rattle.std.proofs.lemmas.Iterator.{YieldsList-from_slice}
use Rattle.std.proofs.lemmas.Iterator.Consumers.{fold_from_yields_List}
use lib.Count.{ones}
use Rattle.bitset.proofs.Loops.{counted_fold}
use Rattle.bitset.proofs.size.Goals as goal

pub returns : goal.returns
returns c =
    let ws = c.args.ws.now in
    fold_from_yields_List _ (λ (n w : ℕ). (n + ones w) % 2 ^ 64) 0 c.fold.result c.fold.ensures.ran (YieldsList-from_slice ws cc) (λ a x b q k. search (rules, tests))
    ∙ counted_fold ws (λ i. c.type_inv.ws i)
