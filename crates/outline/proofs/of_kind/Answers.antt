use Rattle.std.proofs.Common.{arith}
use Rattle.outline.proofs.ByKind.{names_within, fact_names, step_names, job_names, task_names}
use Rattle.outline.proofs.of_kind.Goals as goal

pub returns-in-Fact : goal.returns-in-Fact
returns-in-Fact c = record { within = λ s u. names_within s u (omega arith) _ 0 (omega arith); names = λ s u. rw c.in-Fact.is (fact_names s u (omega arith)) }

pub returns-in-Step : goal.returns-in-Step
returns-in-Step c = record { within = λ s u. names_within s u (omega arith) _ _ (omega arith); names = λ s u. rw c.in-Step.is (step_names s u (omega arith)) }

pub returns-in-Job : goal.returns-in-Job
returns-in-Job c = record { within = λ s u. names_within s u (omega arith) _ _ (omega arith); names = λ s u. rw c.in-Job.is (job_names s u (omega arith)) }

pub returns-in-Task : goal.returns-in-Task
returns-in-Task c = record { within = λ s u. names_within s u (omega arith) _ _ (omega arith); names = λ s u. rw c.in-Task.is (task_names s u (omega arith)) }
