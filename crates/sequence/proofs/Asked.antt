-- Requests that name a place of the pouch.
use Rattle.std.proofs.Common.{◌≡◌, ℕ, ◌<◌, cond, List, length, get_or, set, Some, None, Option, Ok, Err, sym, refl, ap, ◌∙◌, subst, inl, inr}
use Rattle.std.specs.Borrow.{MutBor}
use Rattle.std.specs.Fn.{Once}
use Rattle.std.specs.List.{slice_get}
use Rattle.transition.specs.declared.faults.Fault.{Fault}
use Rattle.transition.specs.Meaning.{Meaning}
use Rattle.transition.specs.declared.system.System.{Ghosts}
use Rattle.workbench_model.specs.declared.answers.Answer.TheVariants.{CheckpointSet}
use Rattle.workbench_model.specs.Models.{Call}
use Rattle.workbench_model.specs.Models.Call.{checkpoint}
use Rattle.workbench_model.specs.States.{State, Served}
use Rattle.workbench.specs.declared.workbench.Ticket.{Ticket}
use Rattle.workbench.specs.declared.workbench.Workbench.{Workbench}
use Rattle.workbench.specs.Workbenches.{state, Serves, answer_beside, HandedBack}
use Rattle.requests.specs.declared.kinds.Request.TheVariants.{Checkpoint}
use Rattle.requests.specs.declared.kinds.GuidedRequest.{GuidedRequest}
use Rattle.requests.specs.declared.kinds.GuidedRequest.TheVariants.{Plain}
use Rattle.requests.specs.declared.kinds.Reply.{Reply}
use Rattle.requests.specs.declared.kinds.Reply.TheVariants.{Answered, NoTicket}
use Rattle.requests.specs.Desks.{desk, for_ticket, asked, accepted, pouch_after, Attended}
use Rattle.requests.proofs.Going.{attended, without_ticket}
use Rattle.sequence.specs.Pouches.{epochs}
use Rattle.sequence.specs.Attending.{Attends}
use Rattle.sequence.specs.Spending.{Spending, spent, Spent}
use Rattle.sequence.proofs.Pouched.{asks_ticket, asks_no_ticket, asks_place, epochs_set, put_back}

-- a checkpoint, whose ticket goes to a place
module _ {M : Meaning} (s t : State M) (p : List (Option Ticket)) (i : ℕ) where
  pub checkpoint_set : (ticket : Ticket) → i < length p → get_or p i None ≡ None → ticket.epoch ≡ s.model.epoch → Served M s checkpoint (Ok CheckpointSet) t →
      (q : List (Option Ticket)) → q ≡ set p i (Some ticket) → Attended M s (epochs p) (Plain (Checkpoint i)) (Answered (Ok CheckpointSet)) t (epochs q)
  checkpoint_set ticket h e same served q f =
      attended s (epochs p) (Plain (Checkpoint i)) checkpoint (Ok CheckpointSet) t (epochs q) (asks_place p i h e) served
      (ap (λ (n : ℕ). set (epochs p) i (Some n)) (sym same) ∙ sym (epochs_set p i (Some ticket)) ∙ ap epochs (sym f))

  pub checkpoint_refused : (f : Fault) → i < length p → get_or p i None ≡ None → Served M s checkpoint (Err f) t → Attended M s (epochs p) (Plain (Checkpoint i)) (Answered (Err f)) t (epochs p)
  checkpoint_refused f h e served = attended s (epochs p) (Plain (Checkpoint i)) checkpoint (Err f) t (epochs p) (asks_place p i h e) served refl

-- what a workbench answers to a call that takes a ticket, by what comes of the ticket
pub record Spends {X : Type 0} {B : Ghosts X} (call : ℕ → Call) (b : Workbench X B) (ticket : Ticket) (o : Spending) (d : Workbench X B) : Type 0 where
  pub served : Serves b (call ticket.epoch) (answer_beside (λ a. a) o) d
  pub back : HandedBack ticket o

-- a request r for the ticket at a place, which makes a call, and spends the ticket where it is accepted
module _ {X : Type 0} {B : Ghosts X} (b : Workbench X B) (p : List (Option Ticket)) (i : ℕ) (r : GuidedRequest) (call : ℕ → Call)
    (asks : asked (epochs p) r ≡ for_ticket call (slice_get (epochs p) i)) (spends : (a : Reply) → pouch_after (desk (state b) (epochs p)) r a ≡ cond (accepted a) (set (epochs p) i None) (epochs p)) where
  abbrev Left : Reply × Workbench X B × List (Option Ticket) → Type 0
  Left (a, d, q) = Attends b p r a d q

  after_call : (ticket : Ticket) → i < length p → get_or p i None ≡ Some ticket → (o : Spending) (d : Workbench X B) → Spends call b ticket o d → Attends b p r (spent p i o).0 d (spent p i o).1
  after_call ticket h e (Ok a) d o =
      attended (state b) (epochs p) r (call ticket.epoch) (Ok a) (state d) (epochs (set p i None)) (asks ∙ asks_ticket p i call ticket h e) o.served
      (spends (Answered (Ok a)) ∙ sym (epochs_set p i None))
  after_call ticket h e (Err (back, why)) d o =
      attended (state b) (epochs p) r (call ticket.epoch) (Err why) (state d) (epochs (set p i (Some back))) (asks ∙ asks_ticket p i call ticket h e) o.served
      (spends (Answered (Err why)) ∙ sym (ap epochs (put_back p i ticket back e o.back)))

  pub ticket_spent : {F : Type 0} (g : Once F (MutBor (Workbench X B) × (Ticket × Unit {0})) (Spending × (MutBor (Workbench X B) × Unit {0}))) (f : F) →
      ((v w : MutBor (Workbench X B)) (ticket : Ticket) (o : Spending) → g.post f (v, (ticket, tt)) (o, (w, tt)) → Spends call v.now ticket o w.now) →
      (a : Reply) (d : Workbench X B) (q : List (Option Ticket)) → Spent g f b p i a d q → Attends b p r a d q
  ticket_spent g f h a d q (inl (none, said, stays, same)) =
      subst Left (λ k. (sym said k, sym stays k, sym same k)) (without_ticket (state b) (epochs p) r (asks ∙ asks_no_ticket p i call none) (spends NoTicket))
  ticket_spent g f h a d q (inr (ticket, inside, there, o, called, told)) =
      subst (λ (x : Reply × List (Option Ticket)). Left (x.0, d, x.1)) (sym told)
      (after_call ticket inside there o d
      (subst (λ (x : Workbench X B × Workbench X B). Spends call x.0 ticket o x.1) (λ k. (called.shows k, called.leaves k)) (h called.shown called.left ticket o called.met)))
