use mathlib.Core.Path.{◌∙◌}
use Rattle.table.specs.Layout.{table_in}
use Rattle.questions.proofs.Lent.{fits, laid_own}
use Rattle.questions.proofs.Accepted.lay.Goals as goal

pub scatter-requires : goal.scatter-requires
scatter-requires c =
    fits (table_in c.args.self.now.table) c.args.self.now.owned.records c.args.self.now.owned.counts.few c.requires

pub returns : goal.returns
returns c = c.scatter.ensures ∙ laid_own (table_in c.args.self.now.table) c.args.self.now.owned.records c.args.tree.now
