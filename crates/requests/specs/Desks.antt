-- A workbench beside a pouch of tickets, and what a request does there.
use Rattle.std.specs.Prelude.{◌≡◌, ℕ, Bool, false, cond, List, [], ◌∷◌, Some, None, Option, is_ok, slice_set}
use Rattle.std.specs.List.{slice_get}
use Rattle.transition.specs.Meaning.{Meaning}
use Rattle.workbench_model.specs.Models.{Model, Call, new_model}
use Rattle.workbench_model.specs.Models.Call.{load, step, undo, checkpoint, commit, rollback, derive}
use Rattle.workbench_model.specs.Serving.{serve}
use Rattle.workbench_model.specs.States.{State, Sound}
use Rattle.requests.specs.declared.kinds.Request.{Request}
use Rattle.requests.specs.declared.kinds.Request.TheVariants.{Load, Step, Undo, Checkpoint, Commit, Rollback}
use Rattle.requests.specs.declared.kinds.GuidedRequest.{GuidedRequest}
use Rattle.requests.specs.declared.kinds.GuidedRequest.TheVariants.{Plain, Derive}
use Rattle.requests.specs.declared.kinds.Reply.{Reply}
use Rattle.requests.specs.declared.kinds.Reply.TheVariants.{Answered, NoTicket, NoRoom}

-- the places of a pouch, each empty or with the epoch of the ticket that lies there
abbrev pub Pouch : Type 0
Pouch = List (Option ℕ)

pub record Desk : Type 0 where
  pub model : Model
  pub pouch : Pouch

abbrev pub new_desk : Pouch → Desk
new_desk p = record { model = new_model; pouch = p }

-- what a request comes to: a call, or none where it names no ticket or no room for one
pub data Asked : Type 0 where
  calls : Call → Asked
  no_ticket : Asked
  no_room : Asked

-- a call for the ticket at a place, if one lies there
abbrev pub for_ticket : (ℕ → Call) → Option (Option ℕ) → Asked
for_ticket call None = Asked.no_ticket
for_ticket call (Some None) = Asked.no_ticket
for_ticket call (Some (Some t)) = Asked.calls (call t)

-- a checkpoint for an empty place, if there is such a place
abbrev pub for_place : Option (Option ℕ) → Asked
for_place None = Asked.no_room
for_place (Some None) = Asked.calls checkpoint
for_place (Some (Some t)) = Asked.no_room

abbrev pub asked_plainly : Pouch → Request → Asked
asked_plainly p (Load n e) = Asked.calls (load n e)
asked_plainly p (Step m) = Asked.calls (step m)
asked_plainly p Undo = Asked.calls undo
asked_plainly p (Checkpoint i) = for_place (slice_get p i)
asked_plainly p (Commit i) = for_ticket commit (slice_get p i)
asked_plainly p (Rollback i) = for_ticket rollback (slice_get p i)

abbrev pub asked : Pouch → GuidedRequest → Asked
asked p (Plain r) = asked_plainly p r
asked p (Derive w) = Asked.calls (derive w.now)

-- a call was made, and was not refused
abbrev pub accepted : Reply → Bool
accepted (Answered a) = is_ok a
accepted NoTicket = false
accepted NoRoom = false

-- an accepted checkpoint puts a ticket of the epoch at its place, an accepted commit or rollback takes one away
abbrev pub pouch_plainly : Desk → Request → Reply → Pouch
pouch_plainly d (Load n e) a = d.pouch
pouch_plainly d (Step m) a = d.pouch
pouch_plainly d Undo a = d.pouch
pouch_plainly d (Checkpoint i) a = cond (accepted a) (slice_set d.pouch i (Some d.model.epoch)) d.pouch
pouch_plainly d (Commit i) a = cond (accepted a) (slice_set d.pouch i None) d.pouch
pouch_plainly d (Rollback i) a = cond (accepted a) (slice_set d.pouch i None) d.pouch

abbrev pub pouch_after : Desk → GuidedRequest → Reply → Pouch
pouch_after d (Plain r) a = pouch_plainly d r a
pouch_after d (Derive w) a = d.pouch

-- a call is served; where there is none, nothing changes
abbrev pub attend : (M : Meaning) → (ℕ → M.Config) → Model → Asked → Reply × Model
attend M start b (Asked.calls call) = (Answered (serve M start b call).0, (serve M start b call).1)
attend M start b Asked.no_ticket = (NoTicket, b)
attend M start b Asked.no_room = (NoRoom, b)

-- the reply to a request, and the desk afterwards
abbrev pub reply : (M : Meaning) → (ℕ → M.Config) → Desk → GuidedRequest → Reply
reply M start d r = (attend M start d.model (asked d.pouch r)).0

abbrev pub next_desk : (M : Meaning) → (ℕ → M.Config) → Desk → GuidedRequest → Desk
next_desk M start d r = record {
  model = (attend M start d.model (asked d.pouch r)).1;
  pouch = pouch_after d r (reply M start d r);
}

-- requests served one after the other
abbrev pub replies : (M : Meaning) → (ℕ → M.Config) → Desk → List GuidedRequest → List Reply
replies M start d [] = []
replies M start d (r ∷ rs) = reply M start d r ∷ replies M start (next_desk M start d r) rs

abbrev pub desk_after : (M : Meaning) → (ℕ → M.Config) → Desk → List GuidedRequest → Desk
desk_after M start d [] = d
desk_after M start d (r ∷ rs) = desk_after M start (next_desk M start d r) rs

-- the model's part of a workbench, with the pouch
abbrev pub desk : {M : Meaning} → State M → Pouch → Desk
desk s p = record { model = s.model; pouch = p }

-- a request was answered, and left workbench and pouch, as the model says
pub record Attended (M : Meaning) (s : State M) (p : Pouch) (r : GuidedRequest) (a : Reply) (t : State M) (q : Pouch) : Type 0 where
  pub is : reply M s.start (desk s p) r ≡ a
  pub left : next_desk M s.start (desk s p) r ≡ desk t q
  pub same : t.start ≡ s.start
  pub sound : Sound M s → Sound M t
