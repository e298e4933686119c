-- `programs::procedure_text` meets its contract: a refusal, or the listing.
-- Assumes nothing.
use Rattle.programs.proofs.Writing.{procedure_refused, procedure_listed}
use Rattle.programs.proofs.procedure_text.Goals as goal

pub returns-in-Err : goal.returns-in-Err
returns-in-Err c =
    procedure_refused c.args.file.now c.args.reply.now c.args.text.now c.requires (rw c.in-Err.is at c.list_answer.ensures.0)
    c.list_answer.ensures.1 c.put_refused.ensures

pub returns-in-Ok : goal.returns-in-Ok
returns-in-Ok c =
    procedure_listed c.args.file.now c.args.reply.now c.args.text.now c.requires (rw c.in-Ok.is at c.list_answer.ensures.0)
    c.list_answer.ensures.1
