-- One table that has clauses of nearly every kind, with its whole formula: here the order of the clauses, and of the literals in each, is
-- held. The expected clauses are those of a test vector, which was not made from these definitions. Each fact is computed.
use mathlib.Core.Path.{◌≡◌, refl}
use mathlib.Core.List.{List, [], ◌∷◌}
use Rattle.planning.specs.Table.{step, job, Table}
use Rattle.planning.specs.Place.{child_count, child_label, place}
use Rattle.planning.specs.Variable.{variables}
use Rattle.planning.specs.Clause.{Clause, formula, pos as p, neg as n}

abbrev rich : Table
rich = record {
  facts = 4;
  steps =
      record { needs = 3 ∷ []; sets = 0 ∷ 3 ∷ []; clears = [] }
      ∷ record { needs = 1 ∷ 3 ∷ []; sets = 2 ∷ 3 ∷ []; clears = [] }
      ∷ record { needs = []; sets = 0 ∷ 2 ∷ []; clears = 0 ∷ 3 ∷ [] }
      ∷ record { needs = 0 ∷ 1 ∷ 3 ∷ []; sets = 2 ∷ []; clears = 0 ∷ 2 ∷ [] }
      ∷ record { needs = 0 ∷ 1 ∷ 2 ∷ 3 ∷ []; sets = 0 ∷ 2 ∷ 3 ∷ []; clears = 0 ∷ 3 ∷ [] }
      ∷ [];
  jobs = 3;
  methods =
      record { of = 1; body = step 2 ∷ step 2 ∷ [] }
      ∷ record { of = 2; body = step 4 ∷ [] }
      ∷ record { of = 2; body = job 1 ∷ [] }
      ∷ record { of = 0; body = step 1 ∷ [] }
      ∷ record { of = 1; body = job 0 ∷ [] }
      ∷ record { of = 2; body = step 4 ∷ [] }
      ∷ record { of = 0; body = job 0 ∷ job 2 ∷ [] }
      ∷ [];
  start = 0 ∷ 1 ∷ 2 ∷ 3 ∷ [];
  root = 2;
  depth = 3;
}

abbrev rich_formula : List Clause
rich_formula =
    (p 1 ∷ []) ∷ (n 2 ∷ n 3 ∷ []) ∷ (n 2 ∷ n 4 ∷ []) ∷ (n 3 ∷ n 4 ∷ []) ∷ (n 1 ∷ p 2 ∷ p 3 ∷ p 4 ∷ []) ∷ (n 2 ∷ p 1 ∷ [])
    ∷ (n 3 ∷ p 1 ∷ []) ∷ (n 4 ∷ p 1 ∷ []) ∷ (n 2 ∷ p 5 ∷ []) ∷ (n 3 ∷ p 6 ∷ []) ∷ (n 4 ∷ p 5 ∷ []) ∷ (p 1 ∷ n 5 ∷ [])
    ∷ (p 1 ∷ n 6 ∷ []) ∷ (n 5 ∷ n 6 ∷ []) ∷ (n 7 ∷ n 8 ∷ []) ∷ (n 6 ∷ p 7 ∷ p 8 ∷ []) ∷ (n 7 ∷ p 6 ∷ []) ∷ (n 8 ∷ p 6 ∷ [])
    ∷ (n 7 ∷ p 9 ∷ []) ∷ (n 7 ∷ p 17 ∷ []) ∷ (n 8 ∷ p 11 ∷ []) ∷ (n 8 ∷ n 17 ∷ []) ∷ (n 5 ∷ p 10 ∷ []) ∷ (n 5 ∷ n 17 ∷ [])
    ∷ (p 5 ∷ p 6 ∷ n 9 ∷ []) ∷ (p 5 ∷ p 6 ∷ n 10 ∷ []) ∷ (p 5 ∷ p 6 ∷ n 11 ∷ []) ∷ (p 5 ∷ p 6 ∷ n 17 ∷ [])
    ∷ (n 9 ∷ n 10 ∷ []) ∷ (n 9 ∷ n 11 ∷ []) ∷ (n 10 ∷ n 11 ∷ []) ∷ (n 12 ∷ n 13 ∷ []) ∷ (n 11 ∷ p 12 ∷ p 13 ∷ [])
    ∷ (n 12 ∷ p 11 ∷ []) ∷ (n 13 ∷ p 11 ∷ []) ∷ (n 12 ∷ p 14 ∷ []) ∷ (n 13 ∷ []) ∷ (n 13 ∷ []) ∷ (n 9 ∷ p 15 ∷ [])
    ∷ (n 10 ∷ p 16 ∷ []) ∷ (p 9 ∷ p 10 ∷ p 11 ∷ n 14 ∷ []) ∷ (p 9 ∷ p 10 ∷ p 11 ∷ n 15 ∷ [])
    ∷ (p 9 ∷ p 10 ∷ p 11 ∷ n 16 ∷ []) ∷ (n 14 ∷ n 15 ∷ []) ∷ (n 14 ∷ n 16 ∷ []) ∷ (n 15 ∷ n 16 ∷ []) ∷ (p 18 ∷ [])
    ∷ (p 19 ∷ []) ∷ (p 20 ∷ []) ∷ (p 21 ∷ []) ∷ (n 14 ∷ p 19 ∷ []) ∷ (n 14 ∷ p 21 ∷ []) ∷ (n 14 ∷ p 24 ∷ [])
    ∷ (n 14 ∷ p 25 ∷ []) ∷ (n 15 ∷ p 22 ∷ []) ∷ (n 15 ∷ p 24 ∷ []) ∷ (n 15 ∷ n 25 ∷ []) ∷ (n 16 ∷ p 18 ∷ [])
    ∷ (n 16 ∷ p 19 ∷ []) ∷ (n 16 ∷ p 20 ∷ []) ∷ (n 16 ∷ p 21 ∷ []) ∷ (n 16 ∷ p 22 ∷ []) ∷ (n 16 ∷ p 24 ∷ [])
    ∷ (n 16 ∷ p 25 ∷ []) ∷ (n 18 ∷ p 22 ∷ []) ∷ (p 18 ∷ n 22 ∷ p 15 ∷ p 16 ∷ []) ∷ (n 19 ∷ p 23 ∷ []) ∷ (p 19 ∷ n 23 ∷ [])
    ∷ (n 20 ∷ p 24 ∷ []) ∷ (p 20 ∷ n 24 ∷ p 14 ∷ p 15 ∷ p 16 ∷ []) ∷ (n 21 ∷ p 25 ∷ p 15 ∷ [])
    ∷ (p 21 ∷ n 25 ∷ p 14 ∷ p 16 ∷ []) ∷ (n 22 ∷ p 26 ∷ []) ∷ (p 22 ∷ n 26 ∷ []) ∷ (n 23 ∷ p 27 ∷ []) ∷ (p 23 ∷ n 27 ∷ [])
    ∷ (n 24 ∷ p 28 ∷ []) ∷ (p 24 ∷ n 28 ∷ []) ∷ (n 25 ∷ p 29 ∷ []) ∷ (p 25 ∷ n 29 ∷ []) ∷ (n 17 ∷ p 30 ∷ [])
    ∷ (n 17 ∷ p 32 ∷ []) ∷ (n 17 ∷ n 33 ∷ []) ∷ (n 26 ∷ p 30 ∷ []) ∷ (p 26 ∷ n 30 ∷ p 17 ∷ []) ∷ (n 27 ∷ p 31 ∷ [])
    ∷ (p 27 ∷ n 31 ∷ []) ∷ (n 28 ∷ p 32 ∷ []) ∷ (p 28 ∷ n 32 ∷ p 17 ∷ []) ∷ (n 29 ∷ p 33 ∷ p 17 ∷ []) ∷ (p 29 ∷ n 33 ∷ [])
    ∷ []

pub rich_formula_lem : formula rich ≡ rich_formula
unfolding place child_label child_count
rich_formula_lem = refl

pub rich_variables : variables rich ≡ 33
unfolding place child_label child_count
rich_variables = refl
