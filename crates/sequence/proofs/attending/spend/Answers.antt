use Rattle.std.proofs.Common.{List, set, Some, None, Option, Ok, Err, refl, ap, ◌∙◌, inr}
use Rattle.std.proofs.lemmas.List.{set-set}
use Rattle.workbench.specs.declared.workbench.Ticket.{Ticket}
use Rattle.requests.specs.declared.kinds.Reply.TheVariants.{Answered}
use Rattle.sequence.proofs.attending.spend.Goals as goal

pub returns-in-Ok : goal.returns-in-Ok
returns-in-Ok g c =
    let (inside, there, taken) = c.in-Some.ensures in
    inr (
      c.in-Some.ticket,
      inside,
      there,
      Ok c.in-Ok.answer,
      record { shown = _; shows = refl; left = _; met = c.in-Ok.ensures; leaves = refl },
      ap (λ (q : List (Option Ticket)). (Answered (Ok c.in-Ok.answer), q)) taken,
    )

pub returns-in-Err : goal.returns-in-Err
returns-in-Err g c =
    let (inside, there, taken) = c.in-Some.ensures in
    inr (
      c.in-Some.ticket,
      inside,
      there,
      Err (c.in-Err.ticket, c.in-Err.fault),
      record { shown = _; shows = refl; left = _; met = c.in-Err.ensures; leaves = refl },
      ap (λ (q : List (Option Ticket)). (Answered (Err c.in-Err.fault), q))
          (c.put.ensures ∙ ap (λ (q : List (Option Ticket)). set q c.args.place (Some c.in-Err.ticket)) taken ∙ set-set c.args.pouch.now c.args.place None (Some c.in-Err.ticket)),
    )
