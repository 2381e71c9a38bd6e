use Rattle.sequence.proofs.Pouched.{taken_at}
use Rattle.sequence.proofs.pouches.take.Goals as goal

pub returns : goal.returns
returns c = taken_at c.args.pouch.now c.args.place c.if-place-pouch.false c.take.result c.take.ensures.value c.take.new.self c.take.ensures.after
