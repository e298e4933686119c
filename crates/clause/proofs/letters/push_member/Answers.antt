use native.Mathlib.Omega.{arith}
use Rattle.clause.proofs.Pushed.{same_member}
use Rattle.clause.proofs.letters.push_member.Goals as goal

pub overflow_add-v : goal.overflow_add-v
overflow_add-v c = omega (arith, c.rank_in.ensures.1, c.requires.1)

pub push_if-requires : goal.push_if-requires
push_if-requires c = (c.requires.0, omega (arith, c.rank_in.ensures.1, c.requires.1))

pub returns : goal.returns
returns c = same_member c.args.out.now c.args.v c.holds.ensures c.rank_in.ensures.0 c.push_if.ensures
