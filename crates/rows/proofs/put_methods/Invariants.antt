use lib.ListN.{length}
use Rattle.lines.specs.Bytes.{LF}
use Rattle.lines.specs.Parts.{ended}
use Rattle.outline.specs.Index.{bytes_of}
use Rattle.outline.specs.Names.{job, task, declared}
use Rattle.rows.specs.Uses.{uses_tasks}
use Rattle.rows.specs.Words.{method_words}
use Rattle.rows.specs.Answers.{sections_of}
use Rattle.rows.proofs.MethodLines.{Method, method_keeps}
use Rattle.rows.proofs.Walk.{Walking}
use Rattle.rows.proofs.put_methods.Given as goal

abbrev pub invariant-loop-line : goal.invariant-loop-line
invariant-loop-line l =
    let jobs = declared (sections_of l.o) job in
    let tasks = declared (sections_of l.o) task in
    Walking method_words (uses_tasks jobs tasks) (Method jobs tasks) (method_keeps jobs tasks) (bytes_of (sections_of l.o).methods)
    (ended LF l.text) l.out l.at l.met

abbrev pub decreases-loop-line : goal.decreases-loop-line
decreases-loop-line l = length l.text
