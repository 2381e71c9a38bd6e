-- What becomes of a ticket that a call takes from a pouch.
use Rattle.std.specs.Prelude.{◌≡◌, ℕ, ◌<◌, ◌⊎◌, List, length, Some, None, Option, Ok, Err, Result, slice_index_or, slice_set}
use Rattle.std.specs.List.{slice_get}
use Rattle.std.specs.Borrow.{MutBor}
use Rattle.std.specs.Fn.{Once}
use Rattle.transition.specs.declared.faults.Fault.{Fault}
use Rattle.workbench_model.specs.declared.answers.Answer.{Answer}
use Rattle.workbench.specs.declared.workbench.Ticket.{Ticket}
use Rattle.requests.specs.declared.kinds.Reply.{Reply}
use Rattle.requests.specs.declared.kinds.Reply.TheVariants.{Answered, NoTicket}

-- what a call answers that takes a ticket, or the ticket again and why it was refused
abbrev pub Spending : Type 0
Spending = Result Answer (Ticket × Fault)

-- the reply to such a call, and the pouch afterwards: a refused ticket lies at its place again
abbrev pub spent : List (Option Ticket) → ℕ → Spending → Reply × List (Option Ticket)
spent p i (Ok a) = (Answered (Ok a), slice_set p i None)
spent p i (Err (ticket, why)) = (Answered (Err why), slice_set p i (Some ticket))

module _ {F W : Type 0} (g : Once F (MutBor W × (Ticket × Unit {0})) (Spending × (MutBor W × Unit {0}))) (f : F) where
  -- the call of f on a workbench b with a ticket may give r and leave the workbench d
  pub record CalledWithTicket (b : W) (ticket : Ticket) (r : Spending) (d : W) : Type 0 where
    pub shown : MutBor W
    pub shows : shown.now ≡ b
    pub left : MutBor W
    pub met : g.post f (shown, (ticket, tt)) (r, (left, tt))
    pub leaves : left.now ≡ d

  -- no ticket lay there, and all is as it was; or f was called with the ticket that did
  abbrev pub Spent : W → List (Option Ticket) → ℕ → Reply → W → List (Option Ticket) → Type 0
  Spent b p i a d q =
      (((slice_get p i ≡ None) ⊎ (slice_get p i ≡ Some None)) × (a ≡ NoTicket) × (d ≡ b) × (q ≡ p))
      ⊎ ((ticket : Ticket) × (i < length p) × (slice_index_or p i None ≡ Some ticket) × (r : Spending) × CalledWithTicket b ticket r d × ((a, q) ≡ spent p i r))
