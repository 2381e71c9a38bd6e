-- Tickets in a pouch.
use Rattle.std.specs.Prelude.{◌≡◌, ℕ, ◌<◌, Bool, true, false, ◌⊎◌, List, map, length, Some, None, Option, slice_index_or, slice_set}
use Rattle.std.specs.List.{slice_get}
use Rattle.workbench.specs.declared.workbench.Ticket.{Ticket}
use Rattle.requests.specs.Desks.{Pouch}

-- the epoch of the ticket at a place
abbrev pub epoch_of : Option Ticket → Option ℕ
epoch_of None = None
epoch_of (Some t) = Some t.epoch

abbrev pub epochs : List (Option Ticket) → Pouch
epochs p = map epoch_of p

-- there is such a place and it is empty, or not
abbrev pub Free : List (Option Ticket) → ℕ → Bool → Type 0
Free p i true = (i < length p) × (slice_index_or p i None ≡ None)
Free p i false = (slice_get p i ≡ None) ⊎ ((t : Ticket) × (slice_get p i ≡ Some (Some t)))

-- the ticket that lay at the place was taken out; or none lay there, and all is as it was
abbrev pub Taken : List (Option Ticket) → ℕ → Option Ticket → List (Option Ticket) → Type 0
Taken p i (Some t) q = (i < length p) × (slice_index_or p i None ≡ Some t) × (q ≡ slice_set p i None)
Taken p i None q = ((slice_get p i ≡ None) ⊎ (slice_get p i ≡ Some None)) × (q ≡ p)
