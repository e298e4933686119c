use Rattle.shape.proofs.Structs.{in_node}
use Rattle.clause.proofs.Tasks.{step_lits, job_lits}
use Rattle.clause.proofs.Pushed.{same_lits}
use Rattle.clause.proofs.letters.push_task.Goals as goal

pub returns-in-Step : goal.returns-in-Step
returns-in-Step c = rw c.in-Step.is (
    same_lits c.args.out.now (step_lits (in_node c.args.node.now) c.step_set.result c.in-Step.s c.step_set.ensures c.own_variable.ensures.0)
    c.push_member.ensures
    )

pub returns-in-Job : goal.returns-in-Job
returns-in-Job c = rw c.in-Job.is (
    same_lits c.args.out.now (job_lits (in_node c.args.node.now) c.job_set.result c.in-Job.j c.job_set.ensures c.job_variable.ensures.0)
    c.push_member-in-Job.ensures
    )
