-- Requests on a workbench with a pouch, seen through the model.
use Rattle.std.specs.Prelude.{◌≡◌, ◌<◌, ◌≤◌, List, length, take, drop, Ok, Err, Option, Result}
use Rattle.treebank.specs.declared.refusals.Refusal.TheVariants.{BufferTooSmall}
use Rattle.transition.specs.declared.faults.Fault.{Fault}
use Rattle.transition.specs.Meaning.{fault}
use Rattle.transition.specs.declared.system.System.{Ghosts}
use Rattle.workbench.specs.declared.workbench.Workbench.{Workbench}
use Rattle.workbench.specs.declared.workbench.Ticket.{Ticket}
use Rattle.workbench.specs.Workbenches.{state}
use Rattle.requests.specs.declared.kinds.GuidedRequest.{GuidedRequest}
use Rattle.requests.specs.declared.kinds.Reply.{Reply}
use Rattle.requests.specs.Desks.{Attended}
use Rattle.requests.specs.Sequences.{AttendedAll, Ran}
use Rattle.sequence.specs.Pouches.{epochs}

-- Of a workbench on a system X; B has what the system means, its configuration and where it starts.

-- a workbench b with a pouch p answered a request, and both were left, as the model says
abbrev pub Attends : {X : Type 0} {B : Ghosts X} → Workbench X B → List (Option Ticket) → GuidedRequest → Reply → Workbench X B → List (Option Ticket) → Type 0
Attends {B = B} b p r a d q = Attended B.meaning (state b) (epochs p) r a (state d) (epochs q)

-- and so with requests in turn; the replies lie first in the lent ones, and the later ones are as they were
abbrev pub AttendsAll : {X : Type 0} {B : Ghosts X} → Workbench X B → List (Option Ticket) → List GuidedRequest → List Reply → List Reply → Workbench X B → List (Option Ticket) → Type 0
AttendsAll {B = B} b p rs before after d q =
    AttendedAll B.meaning (state b) (epochs p) rs (take (length rs) after) (state d) (epochs q) × (drop (length rs) after ≡ drop (length rs) before)

-- too few replies were lent, and nothing happened
abbrev pub TooFew : List (Option Ticket) → List GuidedRequest → List Reply → Fault → List Reply → List (Option Ticket) → Type 0
TooFew p rs before why after q = (length before < length rs) × (why ≡ fault BufferTooSmall 0) × (after ≡ before) × (q ≡ p)

abbrev pub ServedAll : {X : Type 0} {B : Ghosts X} → Workbench X B → List (Option Ticket) → List GuidedRequest → List Reply → Result Unit Fault → List Reply → Workbench X B → List (Option Ticket) → Type 0
ServedAll b p rs before (Ok u) after d q = (length rs ≤ length before) × AttendsAll b p rs before after d q
ServedAll b p rs before (Err why) after d q = TooFew p rs before why after q × (d ≡ b)

-- a new workbench on the system x
abbrev pub RanOn : {X : Type 0} {B : Ghosts X} → Type 0 → X → List (Option Ticket) → List GuidedRequest → List Reply → Result (Workbench X B) (X × Fault) → List Reply → List (Option Ticket) → Type 0
RanOn {B = B} reliable x p rs before (Ok d) after q =
    (length rs ≤ length before) × Ran B.meaning (B.start x) reliable (epochs p) rs (take (length rs) after) (state d) (epochs q) × (drop (length rs) after ≡ drop (length rs) before)
RanOn reliable x p rs before (Err (y, why)) after q = (y ≡ x) × TooFew p rs before why after q
