use mathlib.Core.Path.{◌∙◌}
use Rattle.table.specs.Layout.{table_in}
use Rattle.questions.proofs.Lent.{fits, compared}
use Rattle.questions.proofs.Accepted.is_own.Goals as goal

pub is_same-requires : goal.is_same-requires
is_same-requires c =
    fits (table_in c.args.self.now.table) c.args.self.now.owned.records c.args.self.now.owned.counts.few c.requires

pub returns : goal.returns
returns c = c.is_same.ensures ∙ compared (table_in c.args.self.now.table) c.args.self.now.owned.records c.args.tree.now
