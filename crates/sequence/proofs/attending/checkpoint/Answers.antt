use Rattle.workbench.specs.Workbenches.{state}
use Rattle.sequence.proofs.Asked.{checkpoint_set, checkpoint_refused}
use Rattle.sequence.proofs.attending.checkpoint.Goals as goal

pub returns-in-Ok : goal.returns-in-Ok
returns-in-Ok g c =
    let (inside, free) = c.if-not-is_free.ensures in
    let told = c.in-Ok.ensures in
    checkpoint_set (state c.args.workbench.now) (state c.checkpoint.new.self) c.args.pouch.now c.args.place c.in-Ok.ticket inside free told.ticket told.served c.put.new.pouch c.put.ensures

pub returns-in-Err : goal.returns-in-Err
returns-in-Err g c =
    let (inside, free) = c.if-not-is_free.ensures in
    checkpoint_refused (state c.args.workbench.now) (state c.checkpoint.new.self) c.args.pouch.now c.args.place c.in-Err.fault inside free c.in-Err.ensures.served
