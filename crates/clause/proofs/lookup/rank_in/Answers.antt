use mathlib.Core.List.{[], ◌∷◌}
use Rattle.clause.proofs.Tasks.{rank_is}
use Rattle.clause.proofs.lookup.rank_in.Goals as goal

pub returns : goal.returns
returns c = rank_is (c.args.w ∷ []) c.args.i c.rank.ensures
