-- No move changes which tickets lie in a pouch.
use Rattle.std.proofs.Common.{◌≡◌, ℕ, Bool, true, false, cond, not, ◌||◌, ltb, List, [], ◌∷◌, set, is_some, Some, None, Option, refl, ap, ◌∙◌}
use Rattle.std.specs.List.{slice_get}
use Rattle.treebank.specs.declared.refusals.Refusal.TheVariants.{TooManyWords, CheckpointStands, NoSuchCheckpoint}
use Rattle.transition.specs.declared.faults.Fault.{Fault}
use Rattle.transition.specs.Meaning.{Meaning}
use Rattle.workbench_model.specs.declared.answers.Answer.{Answer}
use Rattle.workbench_model.specs.declared.answers.Answer.TheVariants.{Loaded, CheckpointSet}
use Rattle.workbench_model.specs.Models.{Model, Call}
use Rattle.workbench_model.specs.Models.Call.{load, step, undo, checkpoint, commit, rollback, derive}
use Rattle.workbench_model.specs.Serving.{refuse_if, refusal, report, change, unless, does_fit}
use Rattle.requests.specs.declared.kinds.Request.TheVariants.{Load, Step, Undo, Checkpoint, Commit, Rollback}
use Rattle.requests.specs.declared.kinds.GuidedRequest.{GuidedRequest}
use Rattle.requests.specs.declared.kinds.GuidedRequest.TheVariants.{Plain, Derive}
use Rattle.requests.specs.declared.kinds.Reply.TheVariants.{Answered}
use Rattle.requests.specs.Desks.{Pouch, Desk, for_ticket, for_place, attend, accepted, next_desk, desk_after}
use Rattle.requests.specs.Tickets.{Tickets, tickets_of, handed_out, handed_in, tickets_next, tickets_after}

abbrev tickets : ℕ → Bool → Pouch → Tickets
tickets e b p = record { epoch = e; stands = b; pouch = p }

-- a call that leaves epoch and checkpoint, whether it is refused or not
quiet : (o : Option Fault) (b d : Model) (a : Answer) (p : Pouch) → d.epoch ≡ b.epoch → is_some d.checkpoint ≡ is_some b.checkpoint →
    tickets (unless o b a d).1.epoch (is_some (unless o b a d).1.checkpoint) p ≡ tickets b.epoch (is_some b.checkpoint) p
quiet None b d a p e f = λ i. tickets (e i) (f i) p
quiet (Some x) b d a p e f = refl

-- a load, by the two tests
loads : (s many : Bool) (b d : Model) (a : Answer) (p : Pouch) (n e : ℕ) → is_some b.checkpoint ≡ s → d.epoch ≡ e → is_some d.checkpoint ≡ false →
    (let o = refuse_if s CheckpointStands (refuse_if many TooManyWords None) in
    tickets (unless o b a d).1.epoch (is_some (unless o b a d).1.checkpoint) p ≡ cond (s || many) (tickets b.epoch s p) (tickets e false p))
loads true many b d a p n e f g h = λ i. tickets b.epoch (f i) p
loads false true b d a p n e f g h = λ i. tickets b.epoch (f i) p
loads false false b d a p n e f g h = λ i. tickets (g i) (h i) p

-- a checkpoint for an empty place, by whether one stands
hands_out : (s : Bool) (b d : Model) (p : Pouch) (i : ℕ) → is_some b.checkpoint ≡ s → d.epoch ≡ b.epoch → is_some d.checkpoint ≡ true →
    (let r = unless (refuse_if s CheckpointStands None) b CheckpointSet d in
    tickets r.1.epoch (is_some r.1.checkpoint) (cond (accepted (Answered r.0)) (set p i (Some b.epoch)) p)
    ≡ cond s (tickets b.epoch s p) (tickets b.epoch true (set p i (Some b.epoch))))
hands_out true b d p i e f g = λ k. tickets b.epoch (e k) p
hands_out false b d p i e f g = λ k. tickets (f k) (g k) (set p i (Some b.epoch))

-- a call that spends a ticket, by whether the ticket fits
hands_in : (fit : Bool) (b d : Model) (a : Answer) (p : Pouch) (i : ℕ) → d.epoch ≡ b.epoch → is_some d.checkpoint ≡ false →
    (let r = unless (refuse_if (not fit) NoSuchCheckpoint None) b a d in
    tickets r.1.epoch (is_some r.1.checkpoint) (cond (accepted (Answered r.0)) (set p i None) p)
    ≡ cond fit (tickets b.epoch false (set p i None)) (tickets b.epoch (is_some b.checkpoint) p))
hands_in true b d a p i f g = λ k. tickets (f k) (g k) (set p i None)
hands_in false b d a p i f g = refl

module _ (M : Meaning) (start : ℕ → M.Config) where
  next_out : (d : Desk) (i : ℕ) (x : Option (Option ℕ)) →
      (let r = attend M start d.model (for_place x) in
      tickets r.1.epoch (is_some r.1.checkpoint) (cond (accepted r.0) (set d.pouch i (Some d.model.epoch)) d.pouch) ≡ handed_out (tickets_of d) i x)
  next_out d i None = refl
  next_out d i (Some None) = hands_out (is_some d.model.checkpoint) d.model (change M start d.model checkpoint) d.pouch i refl refl refl
  next_out d i (Some (Some e)) = refl

  next_in : (d : Desk) (i : ℕ) (x : Option (Option ℕ)) (call : ℕ → Call) → ((e : ℕ) → refusal M start d.model (call e) ≡ refuse_if (not (does_fit d.model e)) NoSuchCheckpoint None) →
      ((e : ℕ) → (change M start d.model (call e)).epoch ≡ d.model.epoch) →
      ((e : ℕ) → is_some (change M start d.model (call e)).checkpoint ≡ false) →
      (let r = attend M start d.model (for_ticket call x) in
      tickets r.1.epoch (is_some r.1.checkpoint) (cond (accepted r.0) (set d.pouch i None) d.pouch) ≡ handed_in (tickets_of d) i x)
  next_in d i None call why same gone = refl
  next_in d i (Some None) call why same gone = refl
  next_in d i (Some (Some e)) call why same gone =
      ap (λ (o : Option Fault). (let r = unless o d.model (report M start d.model (call e)) (change M start d.model (call e)) in
      tickets r.1.epoch (is_some r.1.checkpoint) (cond (accepted (Answered r.0)) (set d.pouch i None) d.pouch))) (why e)
      ∙ hands_in (does_fit d.model e) d.model (change M start d.model (call e)) (report M start d.model (call e)) d.pouch i (same e) (gone e)

  next_tickets : (d : Desk) (r : GuidedRequest) → tickets_of (next_desk M start d r) ≡ tickets_next (tickets_of d) r
  next_tickets d (Plain (Load n e)) = loads (is_some d.model.checkpoint) (ltb 100 n) d.model (change M start d.model (load n e)) Loaded d.pouch n e refl refl refl
  next_tickets d (Plain (Step m)) = quiet (refusal M start d.model (step m)) d.model (change M start d.model (step m)) (report M start d.model (step m)) d.pouch refl refl
  next_tickets d (Plain Undo) = quiet (refusal M start d.model undo) d.model (change M start d.model undo) (report M start d.model undo) d.pouch refl refl
  next_tickets d (Plain (Checkpoint i)) = next_out d i (slice_get d.pouch i)
  next_tickets d (Plain (Commit i)) = next_in d i (slice_get d.pouch i) commit (λ e. refl) (λ e. refl) (λ e. refl)
  next_tickets d (Plain (Rollback i)) = next_in d i (slice_get d.pouch i) rollback (λ e. refl) (λ e. refl) (λ e. refl)
  next_tickets d (Derive w) =
      quiet (refusal M start d.model (derive w.now)) d.model (change M start d.model (derive w.now)) (report M start d.model (derive w.now)) d.pouch refl refl

  pub after_tickets : (d : Desk) (rs : List GuidedRequest) → tickets_of (desk_after M start d rs) ≡ tickets_after (tickets_of d) rs
  after_tickets d [] = refl
  after_tickets d (r ∷ rs) = after_tickets (next_desk M start d r) rs ∙ ap (λ (t : Tickets). tickets_after t rs) (next_tickets d r)
