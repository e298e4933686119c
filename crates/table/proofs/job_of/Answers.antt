use Rattle.table.proofs.Lookup.{job_told}
use Rattle.table.proofs.job_of.Goals as goal

pub returns : goal.returns
returns c = job_told c.args.ws.now c.args.m _ c.method_word.ensures
