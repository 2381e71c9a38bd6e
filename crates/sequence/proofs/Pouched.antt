-- Places of a pouch, and the epochs there.
use Rattle.std.proofs.Common.{◌≡◌, ℕ, ◌<◌, ◌⊎◌, List, length, get_or, set, Some, None, Option, sym, ap, ◌∙◌, inl, inr}
use Rattle.std.specs.Option.{option_map}
use Rattle.std.specs.List.{slice_get}
use Rattle.std.proofs.lemmas.Option.{slice_get-get_or, slice_get-map}
use Rattle.std.proofs.lemmas.List.{map-set, set-get_or}
use Rattle.workbench.specs.declared.workbench.Ticket.{Ticket}
use Rattle.workbench_model.specs.Models.{Call}
use Rattle.workbench_model.specs.Models.Call.{checkpoint}
use Rattle.requests.specs.Desks.{Asked, for_ticket, for_place}
use Rattle.sequence.specs.Pouches.{epoch_of, epochs, Taken}

at : (p : List (Option Ticket)) (i : ℕ) (x : Option Ticket) → i < length p → get_or p i None ≡ x → slice_get (epochs p) i ≡ Some (epoch_of x)
at p i x h e = slice_get-map epoch_of p i ∙ ap (option_map epoch_of) (slice_get-get_or p i None h) ∙ ap (λ (y : Option Ticket). Some (epoch_of y)) e

module _ (p : List (Option Ticket)) (i : ℕ) where
  pub taken_at : i < length p → (x : Option Ticket) → x ≡ get_or p i None → (y : Option Ticket) → y ≡ None → Taken p i x (set p i y)
  taken_at h None e y f = (inr (slice_get-get_or p i None h ∙ ap (λ (x : Option Ticket). Some x) (sym e)), ap (set p i) (f ∙ e) ∙ set-get_or p i None)
  taken_at h (Some t) e y f = (h, sym e, ap (set p i) f)

  pub asks_ticket : (call : ℕ → Call) (t : Ticket) → i < length p → get_or p i None ≡ Some t → for_ticket call (slice_get (epochs p) i) ≡ Asked.calls (call t.epoch)
  asks_ticket call t h e = ap (for_ticket call) (at p i (Some t) h e)

  pub asks_no_ticket : (call : ℕ → Call) → (slice_get p i ≡ None) ⊎ (slice_get p i ≡ Some None) → for_ticket call (slice_get (epochs p) i) ≡ Asked.no_ticket
  asks_no_ticket call (inl e) = ap (for_ticket call) (slice_get-map epoch_of p i ∙ ap (option_map epoch_of) e)
  asks_no_ticket call (inr e) = ap (for_ticket call) (slice_get-map epoch_of p i ∙ ap (option_map epoch_of) e)

  pub asks_place : i < length p → get_or p i None ≡ None → for_place (slice_get (epochs p) i) ≡ Asked.calls checkpoint
  asks_place h e = ap for_place (at p i None h e)

  pub epochs_set : (x : Option Ticket) → epochs (set p i x) ≡ set (epochs p) i (epoch_of x)
  epochs_set x = map-set epoch_of p i x

  -- a ticket that was taken out lies there again
  pub put_back : (t u : Ticket) → get_or p i None ≡ Some t → u ≡ t → set p i (Some u) ≡ p
  put_back t u e f = ap (set p i) (ap (λ (x : Ticket). Some x) f ∙ sym e) ∙ set-get_or p i None
