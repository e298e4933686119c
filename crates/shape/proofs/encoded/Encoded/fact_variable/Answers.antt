use native.Mathlib.Omega.{arith}
use Rattle.shape.proofs.Facts.{fact_room, fact_is}
use Rattle.shape.proofs.encoded.Encoded.fact_variable.Goals as goal

pub overflow_add-result : goal.overflow_add-result
overflow_add-result c =
    omega (arith, (fact_room c.args.self.now.indexed c.args.b c.args.f c.first_fact.ensures c.facts.ensures c.requires.0 c.requires.1).1)

pub overflow_add-result-2 : goal.overflow_add-result-2
overflow_add-result-2 c =
    omega (arith, (fact_room c.args.self.now.indexed c.args.b c.args.f c.first_fact.ensures c.facts.ensures c.requires.0 c.requires.1).1)

pub returns : goal.returns
returns c = fact_is c.args.self.now.indexed c.args.b c.args.f c.first_fact.ensures c.facts.ensures c.requires.0 c.requires.1
