use Rattle.answer.proofs.Showing.{listable, showed}
use Rattle.answer.proofs.list_by.Goals as goal

pub write-requires : goal.write-requires
write-requires g c =
    (rw c.encoded-e.ensures (listable c.args.accepted.now.owned c.args.values.now c.requires.2), c.requires.3)

pub returns-then-is_model : goal.returns-then-is_model
returns-then-is_model g c =
    showed c.args.accepted.now.owned c.args.values.now c.requires.2 c.args.text.now (rw c.encoded-e.ensures at c.is_model.ensures) c.if-is_model.true
    (rw c.encoded-e.ensures at c.write.ensures)
