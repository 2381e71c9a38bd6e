-- Requests served one after the other, seen from inside a loop.
use Rattle.std.proofs.Common.{◌≡◌, ℕ, ◌+◌, ◌<◌, ◌≤◌, List, [], ◌∷◌, ◌++◌, length, get_or, take, drop, set, sym, refl, ap, ◌∙◌, subst, ap₂, append_assoc, append-nil}
use Rattle.std.proofs.lemmas.List.{at_drop_more, at_drop_all, take_more_set}
use Rattle.transition.specs.Meaning.{Meaning}
use Rattle.transition.specs.Laws.{Laws}
use Rattle.guidance.specs.Guides.{Guides}
use Rattle.workbench_model.specs.Models.{Model, Call, new_model}
use Rattle.workbench_model.specs.Serving.{Outcome}
use Rattle.workbench_model.specs.States.{State, Sound, Served}
use Rattle.requests.specs.declared.kinds.GuidedRequest.{GuidedRequest}
use Rattle.requests.specs.declared.kinds.Reply.{Reply}
use Rattle.requests.specs.declared.kinds.Reply.TheVariants.{Answered, NoTicket}
use Rattle.requests.specs.Desks.{Pouch, Desk, new_desk, desk, Asked, asked, attend, pouch_after, reply, next_desk, replies, desk_after, Attended}
use Rattle.requests.specs.Tickets.{tickets_of, tickets_after}
use Rattle.requests.specs.Sequences.{SequenceLaw, AttendedAll, Ran}
use Rattle.requests.proofs.Lasting.{sequence_law}
use Rattle.requests.proofs.Ticketed.{after_tickets}

module _ {M : Meaning} (s : State M) (p : Pouch) (r : GuidedRequest) where
  -- what attending to a request comes to, by its parts
  by_parts : (a : Reply) (t : State M) (q : Pouch) → attend M s.start s.model (asked p r) ≡ (a, t.model) → pouch_after (desk s p) r a ≡ q → t.start ≡ s.start → (Sound M s → Sound M t) → Attended M s p r a t q
  by_parts a t q whole e same sound =
      let told : reply M s.start (desk s p) r ≡ a = ap (λ (x : Reply × Model). x.0) whole in
      let model : (attend M s.start s.model (asked p r)).1 ≡ t.model = ap (λ (x : Reply × Model). x.1) whole in
      let pouch : pouch_after (desk s p) r (reply M s.start (desk s p) r) ≡ q = ap (pouch_after (desk s p) r) told ∙ e in
      record { is = told; left = λ i. record { model = model i; pouch = pouch i }; same = same; sound = sound }

  -- a request that is a call
  pub attended : (call : Call) (a : Outcome) (t : State M) (q : Pouch) → asked p r ≡ Asked.calls call → Served M s call a t → pouch_after (desk s p) r (Answered a) ≡ q → Attended M s p r (Answered a) t q
  attended call a t q e served f =
      by_parts (Answered a) t q (ap (attend M s.start s.model) e ∙ ap (λ (x : Outcome × Model). (Answered x.0, x.1)) served.is) f served.same served.sound

  -- a request that is none
  pub without_ticket : asked p r ≡ Asked.no_ticket → pouch_after (desk s p) r NoTicket ≡ p → Attended M s p r NoTicket s p
  without_ticket e f = by_parts NoTicket s p (ap (attend M s.start s.model) e) f refl (λ sound. sound)

-- after i requests, what is to come gives what is still missing
pub record Going (M : Meaning) (s : State M) (p : Pouch) (rs : List GuidedRequest) (i : ℕ) (told : List Reply) (t : State M) (q : Pouch) : Type 0 where
  pub is : take i told ++ replies M s.start (desk t q) (drop i rs) ≡ replies M s.start (desk s p) rs
  pub left : desk_after M s.start (desk t q) (drop i rs) ≡ desk_after M s.start (desk s p) rs
  pub same : t.start ≡ s.start
  pub sound : Sound M s → Sound M t

pub going_none : {M : Meaning} (s : State M) (p : Pouch) (rs : List GuidedRequest) (told : List Reply) → Going M s p rs 0 told s p
going_none s p rs told = record { is = refl; left = refl; same = refl; sound = λ sound. sound }

pub going_more : {M : Meaning} (s : State M) (p : Pouch) (rs : List GuidedRequest) (i : ℕ) (told : List Reply) (t u : State M) (q v : Pouch) (δ : GuidedRequest) (a : Reply) →
    i < length rs → i < length told → Attended M t q (get_or rs i δ) a u v → Going M s p rs i told t q → Going M s p rs (i + 1) (set told i a) u v
going_more {M} s p rs i told t u q v δ a h k step o =
    let r : GuidedRequest = get_or rs i δ in
    let here : reply M s.start (desk t q) r ≡ a = subst (λ (x : ℕ → M.Config). reply M x (desk t q) r ≡ a) o.same step.is in
    let next : next_desk M s.start (desk t q) r ≡ desk u v = subst (λ (x : ℕ → M.Config). next_desk M x (desk t q) r ≡ desk u v) o.same step.left in
    let more : drop i rs ≡ r ∷ drop (i + 1) rs = at_drop_more (λ (x : List GuidedRequest). x) rs i δ h in
    let rest : replies M s.start (desk t q) (drop i rs) ≡ a ∷ replies M s.start (desk u v) (drop (i + 1) rs) =
    ap (replies M s.start (desk t q)) more ∙ ap₂ (λ (x : Reply) (y : Desk). x ∷ replies M s.start y (drop (i + 1) rs)) here next in
    record {
      is = ap (λ (xs : List Reply). xs ++ replies M s.start (desk u v) (drop (i + 1) rs)) (take_more_set told i a k)
          ∙ append_assoc (take i told) (a ∷ []) (replies M s.start (desk u v) (drop (i + 1) rs))
          ∙ ap (λ (xs : List Reply). take i told ++ xs) (sym rest) ∙ o.is;
      left = ap (λ (y : Desk). desk_after M s.start y (drop (i + 1) rs)) (sym next) ∙ ap (desk_after M s.start (desk t q)) (sym more) ∙ o.left;
      same = step.same ∙ o.same;
      sound = λ sound. step.sound (o.sound sound);
    }

pub going_done : {M : Meaning} (s : State M) (p : Pouch) (rs : List GuidedRequest) (i : ℕ) (told : List Reply) (t : State M) (q : Pouch) → length rs ≤ i → Going M s p rs i told t q → AttendedAll M s p rs (take i told) t q
going_done {M} s p rs i told t q h o =
    let left : desk_after M s.start (desk s p) rs ≡ desk t q = sym o.left ∙ at_drop_all (desk_after M s.start (desk t q)) rs i h in
    record {
      is = sym o.is ∙ ap (λ (xs : List Reply). take i told ++ xs) (at_drop_all (replies M s.start (desk t q)) rs i h) ∙ append-nil (take i told);
      left = left;
      tickets = sym (after_tickets M s.start (desk s p) rs) ∙ ap tickets_of left;
      same = o.same;
      sound = o.sound;
    }

-- on a new workbench
pub ran_new : {M : Meaning} {start : ℕ → M.Config} (reliable : Type 0) → Laws M start → (reliable → Guides M start) →
    (s : State M) (p : Pouch) (rs : List GuidedRequest) (told : List Reply) (t : State M) (q : Pouch) → s.model ≡ new_model → s.start ≡ start → Sound M s → AttendedAll M s p rs told t q → Ran M start reliable p rs told t q
ran_new {M} {start} reliable laws guides s p rs told t q new same sound all =
    let is : replies M start (new_desk p) rs ≡ told = ap₂ (λ (x : ℕ → M.Config) (b : Model). replies M x (record { model = b; pouch = p }) rs) (sym same) (sym new) ∙ all.is in
    record {
      is = is;
      left = ap₂ (λ (x : ℕ → M.Config) (b : Model). desk_after M x (record { model = b; pouch = p }) rs) (sym same) (sym new) ∙ all.left;
      tickets = ap (λ (b : Model). tickets_after (tickets_of (record { model = b; pouch = p })) rs) (sym new) ∙ all.tickets;
      same = all.same ∙ same;
      sound = all.sound sound;
      law = subst (SequenceLaw M start reliable p rs) is (sequence_law reliable laws guides p rs);
    }
