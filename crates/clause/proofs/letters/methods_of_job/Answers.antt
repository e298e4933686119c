use native.Mathlib.Omega.{arith}
use Rattle.shape.proofs.Nodes.{few_jobs}
use Rattle.shape.proofs.Structs.{in_node}
use Rattle.clause.proofs.letters.methods_of_job.Goals as goal

pub job_variable-requires : goal.job_variable-requires
job_variable-requires c = omega (arith, c.requires.1, few_jobs (in_node c.args.node.now))
