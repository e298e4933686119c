-- By the sizes of the two sets and the count of the methods.
use Rattle.indexing.proofs.Nodes.{own_count, step_count, job_count, method_count}
use Rattle.indexing.proofs.Structs.{here}
use Rattle.indexing.proofs.node.Node.own.Goals as goal

pub returns : goal.returns
returns c =
    let t = here c.args.self.now in
    own_count t (step_count t c.word.ensures c.size.ensures.0) (job_count t c.jobs-jobs.ensures c.size-2.ensures.0)
    (method_count t c.jobs-jobs.ensures c.count_methods.ensures.0)
