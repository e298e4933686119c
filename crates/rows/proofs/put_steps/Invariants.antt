use lib.ListN.{length}
use Rattle.lines.specs.Bytes.{LF}
use Rattle.lines.specs.Parts.{ended}
use Rattle.outline.specs.Index.{bytes_of}
use Rattle.outline.specs.Names.{fact, declared}
use Rattle.rows.specs.Uses.{uses_facts}
use Rattle.rows.specs.Words.{step_words}
use Rattle.rows.specs.Answers.{sections_of}
use Rattle.rows.proofs.StepLines.{Step, step_keeps}
use Rattle.rows.proofs.Walk.{Walking}
use Rattle.rows.proofs.put_steps.Given as goal

abbrev pub invariant-loop-line : goal.invariant-loop-line
invariant-loop-line l =
    let facts = declared (sections_of l.o) fact in
    Walking step_words (uses_facts facts) (Step facts) (step_keeps facts) (bytes_of (sections_of l.o).steps) (ended LF l.text) l.out l.at l.met

abbrev pub decreases-loop-line : goal.decreases-loop-line
decreases-loop-line l = length l.text
