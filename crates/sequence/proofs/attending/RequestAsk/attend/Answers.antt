use Rattle.std.proofs.Common.{Ok, Err, refl, rules}
use Rattle.workbench_model.specs.Models.Call.{commit, rollback}
use Rattle.requests.specs.declared.kinds.Request.TheVariants.{Commit, Rollback}
use Rattle.requests.specs.declared.kinds.GuidedRequest.TheVariants.{Plain}
use Rattle.sequence.proofs.Asked.{ticket_spent}
use Rattle.sequence.proofs.attending.RequestAsk.attend.Goals as goal

pub returns-in-Commit : goal.returns-in-Commit
returns-in-Commit g c =
    let i = c.in-Commit.place in
    rw c.in-Commit.is
    (ticket_spent c.args.workbench.now c.args.pouch.now i (Plain (Commit i)) commit refl (λ a. refl)
    _ _ (λ v w ticket o met. search rules) _ _ _ c.spend.ensures)

pub returns-in-Rollback : goal.returns-in-Rollback
returns-in-Rollback g c =
    let i = c.in-Rollback.place in
    rw c.in-Rollback.is
    (ticket_spent c.args.workbench.now c.args.pouch.now i (Plain (Rollback i)) rollback refl (λ a. refl)
    _ _ (λ v w ticket. elim [ Ok a ↦ λ met. search rules | Err e ↦ λ met. search rules ]) _ _ _ c.spend-in-Rollback.ensures)
