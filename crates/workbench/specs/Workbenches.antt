-- A workbench seen through the model.
use Rattle.std.specs.Prelude.{◌≡◌, ℕ, Bool, cond, ◌⊎◌, List, None, Ok, Err, Option, Result, ◌≢◌, ◌==◌}
use Rattle.std.specs.Result.{result_map_both}
use Rattle.treebank.specs.declared.moves.Move.{Move}
use Rattle.treebank.specs.declared.rows.Row.{Row}
use Rattle.treebank.specs.declared.refusals.Refusal.TheVariants.{ForeignMove, Finished}
use Rattle.treebank.specs.Tables.{GoodTable}
use Rattle.transition.specs.declared.faults.Fault.{Fault}
use Rattle.transition.specs.declared.system.System.{Ghosts}
use Rattle.transition.specs.Meaning.{Verdict, fault}
use Rattle.workbench_model.specs.declared.answers.Answer.{Answer}
use Rattle.workbench_model.specs.Models.{Model, Call}
use Rattle.workbench_model.specs.Serving.{Outcome}
use Rattle.workbench_model.specs.States.{State, holding, Served, WentBack}
use Rattle.workbench_model.specs.Lasting.{Led}
use Rattle.workbench.specs.declared.workbench.Workbench.{Workbench}
use Rattle.workbench.specs.declared.workbench.Ticket.{Ticket}

-- Of a workbench on a system X; B has what the system means, its configuration and where it starts.

-- what it holds
abbrev pub state : {X : Type 0} {B : Ghosts X} → Workbench X B → State B.meaning
state {B = B} b = holding b.words.count b.epoch b.history b.checkpoint (B.conf b.system) (B.start b.system)

-- of it the model's part
abbrev pub model_of : {X : Type 0} {B : Ghosts X} → Workbench X B → Model
model_of b = (state b).model

-- it answered the call, and was left, as the model says
abbrev pub Serves : {X : Type 0} {B : Ghosts X} → Workbench X B → Call → Outcome → Workbench X B → Type 0
Serves {B = B} b call a d = Served B.meaning (state b) call a (state d)

-- it went back to where the first k moves led
abbrev pub GoneBack : {X : Type 0} {B : Ghosts X} → Workbench X B → ℕ → Workbench X B → Type 0
GoneBack {B = B} b k d = WentBack B.meaning (state b) k (state d)

-- with reliable advice it told of a good table whether it can be reached, and where it can, reached it
abbrev pub ReachTold : {X : Type 0} {B : Ghosts X} → Type 0 → Workbench X B → List Row → Outcome → Workbench X B → Type 0
ReachTold {B = B} reliable b w a d = reliable → GoodTable b.words.count w → Led B.meaning w (B.conf b.system) a (B.conf d.system)

-- the arc of an accepted step is what the verdict said
abbrev pub Drawn : {X : Type 0} {B : Ghosts X} → Workbench X B → Move → Verdict → Type 0
Drawn {B = B} b m (Ok a) = B.meaning.verdict (B.conf b.system) m ≡ Ok a
Drawn b m (Err why) = Unit {0}

-- what a result says of the call: the answer that an accepted one stands for, and why one was refused
abbrev pub answer_of : {A : Type 0} → (A → Answer) → Result A Fault → Outcome
answer_of f r = result_map_both f (λ why. why) r

abbrev pub answer_beside : {A : Type 0} → (A → Answer) → Result A (Ticket × Fault) → Outcome
answer_beside f r = result_map_both f (λ e. e.1) r

-- how many moves the checkpoint notes, if the ticket's epoch is the sentence's
abbrev pub noted_for : Model → ℕ → Option ℕ
noted_for b t = cond (b.epoch == t) b.checkpoint None

-- a ticket that is handed out has the epoch
abbrev pub HandedOut : ℕ → Result Ticket Fault → Type 0
HandedOut e (Ok ticket) = ticket.epoch ≡ e
HandedOut e (Err why) = Unit {0}

-- a refused ticket is the one that was handed in
abbrev pub HandedBack : {A : Type 0} → Ticket → Result A (Ticket × Fault) → Type 0
HandedBack t (Ok x) = Unit {0}
HandedBack t (Err (ticket, why)) = ticket ≡ t

-- why a step is refused, by the system's own fault and whether the sentence is finished
abbrev pub StepFault : Bool → Fault → Fault → Type 0
StepFault end f r = ((f.refusal ≡ ForeignMove) × (r ≡ fault ForeignMove 0)) ⊎ ((f.refusal ≢ ForeignMove) × (r ≡ cond end (fault Finished 0) f))
