use native.Mathlib.Omega.{arith}
use Rattle.shape.proofs.Nodes.{few, few_jobs, job_is}
use Rattle.shape.proofs.Structs.{in_node}
use Rattle.shape.proofs.node.Node.job.Goals as goal

pub job_variable-requires : goal.job_variable-requires
job_variable-requires c = omega (arith, c.requires, few_jobs (in_node c.args.self.now))

pub meaning-requires : goal.meaning-requires
meaning-requires c = (few c.args.self.now.encoded.indexed, c.job_variable.ensures.1, c.job_variable.ensures.2)

pub returns : goal.returns
returns c = job_is (in_node c.args.self.now) c.args.x c.requires c.job_variable.ensures.0 c.meaning.ensures
