use Rattle.solver.specs.Line.{SATISFIABLE, UNSATISFIABLE, UNKNOWN}
use Rattle.cells.proofs.Letters.{compared, word_satisfiable, word_unsatisfiable, word_unknown, word_none, word_in_lem}
use Rattle.cells.proofs.kind.read_word.Goals as goal
use Rattle.cells.proofs.kind.read_word.Goals.{then-eq-2-via-then-eq-2, then-eq-2-via-else-eq-2+then-eq-3}

pub returns-then-eq : goal.returns-then-eq
returns-then-eq c =
    let bs = c.args.word.now in
    word_in_lem (word_satisfiable bs (compared bs _ SATISFIABLE c.eq.ensures c.as_slice.ensures) c.if-eq.true)

pub returns-then-eq-2 : goal.returns-then-eq-2
returns-then-eq-2 c =
    let bs = c.args.word.now in
    let first = compared bs _ SATISFIABLE c.eq.ensures c.as_slice.ensures in
    let second = compared bs _ UNSATISFIABLE c.eq-2.ensures c.as_slice-2.ensures in
    word_in_lem (elim c.then-eq-2.branch [
      | then-eq-2-via-then-eq-2 w ↦ word_unsatisfiable bs first c.if-eq.false second w.if-eq-2.true
      | then-eq-2-via-else-eq-2+then-eq-3 w ↦ word_unknown bs first c.if-eq.false second w.if-eq-2.false
          (compared bs _ UNKNOWN w.eq-else-eq-2.ensures w.as_slice-else-eq-2.ensures) w.if-eq-3.true
    ])

pub returns : goal.returns
returns c =
    let bs = c.args.word.now in
    word_in_lem (word_none bs
    (compared bs _ SATISFIABLE c.eq.ensures c.as_slice.ensures) c.if-eq.false
    (compared bs _ UNSATISFIABLE c.eq-2.ensures c.as_slice-2.ensures) c.if-eq-2.false
    (compared bs _ UNKNOWN c.eq-else-eq-2.ensures c.as_slice-else-eq-2.ensures) c.if-eq-3.false)
