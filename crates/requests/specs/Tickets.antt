-- Which tickets lie in a pouch: that depends on loads, checkpoints, commits and rollbacks alone, and on no move.
use Rattle.std.specs.Prelude.{ℕ, Bool, true, false, cond, ◌&&◌, ◌||◌, List, [], ◌∷◌, is_some, Some, None, Option, ◌==◌, nat_lt, slice_set}
use Rattle.std.specs.List.{slice_get}
use Rattle.requests.specs.declared.kinds.Request.{Request}
use Rattle.requests.specs.declared.kinds.Request.TheVariants.{Load, Step, Undo, Checkpoint, Commit, Rollback}
use Rattle.requests.specs.declared.kinds.GuidedRequest.{GuidedRequest}
use Rattle.requests.specs.declared.kinds.GuidedRequest.TheVariants.{Plain, Derive}
use Rattle.requests.specs.Desks.{Pouch, Desk}

-- the epoch, whether a checkpoint stands, and the pouch
pub record Tickets : Type 0 where
  pub epoch : ℕ
  pub stands : Bool
  pub pouch : Pouch

abbrev pub tickets_of : Desk → Tickets
tickets_of d = record { epoch = d.model.epoch; stands = is_some d.model.checkpoint; pouch = d.pouch }

-- a new ticket at a place that is empty, while no checkpoint stands
abbrev pub handed_out : Tickets → ℕ → Option (Option ℕ) → Tickets
handed_out t i None = t
handed_out t i (Some None) = cond t.stands t (record { epoch = t.epoch; stands = true; pouch = slice_set t.pouch i (Some t.epoch) })
handed_out t i (Some (Some e)) = t

-- a ticket of the epoch is spent, while a checkpoint stands
abbrev pub handed_in : Tickets → ℕ → Option (Option ℕ) → Tickets
handed_in t i None = t
handed_in t i (Some None) = t
handed_in t i (Some (Some e)) = cond (t.stands && t.epoch == e) (record { epoch = t.epoch; stands = false; pouch = slice_set t.pouch i None }) t

abbrev pub tickets_plainly : Tickets → Request → Tickets
tickets_plainly t (Load n e) = cond (t.stands || nat_lt 100 n) t (record { epoch = e; stands = false; pouch = t.pouch })
tickets_plainly t (Step m) = t
tickets_plainly t Undo = t
tickets_plainly t (Checkpoint i) = handed_out t i (slice_get t.pouch i)
tickets_plainly t (Commit i) = handed_in t i (slice_get t.pouch i)
tickets_plainly t (Rollback i) = handed_in t i (slice_get t.pouch i)

abbrev pub tickets_next : Tickets → GuidedRequest → Tickets
tickets_next t (Plain r) = tickets_plainly t r
tickets_next t (Derive w) = t

abbrev pub tickets_after : Tickets → List GuidedRequest → Tickets
tickets_after t [] = t
tickets_after t (r ∷ rs) = tickets_after (tickets_next t r) rs
