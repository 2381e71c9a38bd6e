-- The law of every sequence of requests.
use Rattle.std.proofs.Common.{◌≡◌, ℕ, zero, suc, ◌+◌, List, [], ◌∷◌, length, take, Some, sym, refl, ap, ◌∙◌, subst, add-one, arith}
use Rattle.std.specs.List.{slice_get}
use Rattle.transition.specs.Meaning.{Meaning}
use Rattle.transition.specs.Laws.{Laws}
use Rattle.guidance.specs.Guides.{Guides}
use Rattle.workbench_model.specs.Models.{Model, config}
use Rattle.workbench_model.specs.Models.Call.{derive}
use Rattle.workbench_model.specs.Serving.{serve}
use Rattle.workbench_model.specs.Lasting.{Lawful, Tally, no_moves, Balanced, Led}
use Rattle.workbench_model.proofs.Kept.{new_lawful, serve_lawful, serve_balanced, lawful_ceiling, lawful_forest, derive_led}
use Rattle.requests.specs.declared.kinds.GuidedRequest.{GuidedRequest}
use Rattle.requests.specs.declared.kinds.GuidedRequest.TheVariants.{Derive}
use Rattle.requests.specs.declared.kinds.Reply.{Reply}
use Rattle.requests.specs.Desks.{Pouch, Desk, new_desk, Asked, asked, attend, reply, next_desk, replies, desk_after}
use Rattle.requests.specs.Sequences.{count_reply, counted, Standing, model_at, SequenceLaw}

module _ {M : Meaning} {start : ℕ → M.Config} (laws : Laws M start) where
  -- one request, whether it is a call or none
  attend_lawful : (b : Model) (o : Asked) → Lawful M start b → Lawful M start (attend M start b o).1
  attend_lawful b (Asked.calls call) h = serve_lawful laws b call h
  attend_lawful b Asked.no_ticket h = h
  attend_lawful b Asked.no_room h = h

  attend_balanced : (b : Model) (o : Asked) (t : Tally) → Lawful M start b → Balanced t b → Balanced (count_reply t (attend M start b o).0) (attend M start b o).1
  attend_balanced b (Asked.calls call) t h q = serve_balanced laws b call t h q
  attend_balanced b Asked.no_ticket t h q = q
  attend_balanced b Asked.no_room t h q = q

  -- all requests
  after_lawful : (rs : List GuidedRequest) (d : Desk) → Lawful M start d.model → Lawful M start (desk_after M start d rs).model
  after_lawful [] d h = h
  after_lawful (r ∷ rs) d h = after_lawful rs (next_desk M start d r) (attend_lawful d.model (asked d.pouch r) h)

  after_balanced : (rs : List GuidedRequest) (d : Desk) (t : Tally) → Lawful M start d.model → Balanced t d.model → Balanced (counted t (replies M start d rs)) (desk_after M start d rs).model
  after_balanced [] d t h q = q
  after_balanced (r ∷ rs) d t h q =
      after_balanced rs (next_desk M start d r) (count_reply t (reply M start d r)) (attend_lawful d.model (asked d.pouch r) h) (attend_balanced d.model (asked d.pouch r) t h q)

  new_after : (p : Pouch) (rs : List GuidedRequest) → Lawful M start (desk_after M start (new_desk p) rs).model
  new_after p rs = after_lawful rs (new_desk p) (new_lawful laws)

  standing : (p : Pouch) (rs : List GuidedRequest) → Standing M start (desk_after M start (new_desk p) rs).model (replies M start (new_desk p) rs)
  standing p rs =
      let b = (desk_after M start (new_desk p) rs).model in
      let h = new_after p rs in
      record {
        run = (h.few, h.run);
        forest = lawful_forest laws b h;
        balance = after_balanced rs (new_desk p) no_moves (new_lawful laws) refl;
        ceiling = lawful_ceiling laws b h;
      }

-- the replies to the first requests are the first replies
module _ (M : Meaning) (start : ℕ → M.Config) where
  replies_take : (k : ℕ) (d : Desk) (rs : List GuidedRequest) → replies M start d (take k rs) ≡ take k (replies M start d rs)
  replies_take zero d rs = refl
  replies_take (suc k) d [] = refl
  replies_take (suc k) d (r ∷ rs) = ap (λ (xs : List Reply). reply M start d r ∷ xs) (replies_take k (next_desk M start d r) rs)

  replies_length : (d : Desk) (rs : List GuidedRequest) → length (replies M start d rs) ≡ length rs
  replies_length d [] = refl
  replies_length d (r ∷ rs) = ap suc (replies_length (next_desk M start d r) rs)

  replies_nth : (k : ℕ) (d : Desk) (rs : List GuidedRequest) (r : GuidedRequest) → slice_get rs k ≡ Some r →
      (slice_get (replies M start d rs) k ≡ Some (reply M start (desk_after M start d (take k rs)) r))
      × (desk_after M start d (take (suc k) rs) ≡ next_desk M start (desk_after M start d (take k rs)) r)
  replies_nth k d [] r e = let z : ◌≡◌ {A = ℕ} 0 1 = cc in let x : ⊥ = omega arith in absurd x
  replies_nth zero d (x ∷ rs) r e =
      let i : x ≡ r = cc in
      (ap (λ (y : GuidedRequest). Some (reply M start d y)) i, ap (next_desk M start d) i)
  replies_nth (suc k) d (x ∷ rs) r e = replies_nth k (next_desk M start d x) rs r e

pub sequence_law : {M : Meaning} {start : ℕ → M.Config} (reliable : Type 0) → Laws M start → (reliable → Guides M start) → (p : Pouch) (rs : List GuidedRequest) →
    SequenceLaw M start reliable p rs (replies M start (new_desk p) rs)
sequence_law {M} {start} reliable laws guides p rs = record {
  each = replies_length M start (new_desk p) rs;
  standing = λ k. subst (Standing M start (model_at M start p rs k)) (replies_take M start k (new_desk p) rs) (standing laws p (take k rs));
  led = λ r k w e good.
      (let d = desk_after M start (new_desk p) (take k rs) in
      let (told, next) = replies_nth M start k (new_desk p) rs (Derive w) e in
      let b : (serve M start d.model (derive w.now)).1 ≡ model_at M start p rs (k + 1) =
      sym (ap (λ (x : Desk). x.model) (ap (λ (i : ℕ). desk_after M start (new_desk p) (take i rs)) (add-one k) ∙ next)) in (
        (serve M start d.model (derive w.now)).0,
        told,
        subst (λ (x : Model). Led M w.now (config M start d.model) (serve M start d.model (derive w.now)).0 (config M start x)) b
            (derive_led laws (guides r) d.model w.now (new_after laws p (take k rs)) good),
      ));
}
