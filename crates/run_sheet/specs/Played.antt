-- One line of a run sheet, played on a system.
use Rattle.std.specs.Prelude.{◌≡◌, ℕ, ◌⊎◌, List, Ok, Err, Option, Result}
use Rattle.treebank.specs.declared.arcs.Arc.{Arc}
use Rattle.treebank.specs.declared.moves.Move.{Move}
use Rattle.treebank.specs.declared.refusals.Refusal.{Refusal}
use Rattle.transition.specs.declared.faults.Fault.{Fault}
use Rattle.transition.specs.Meaning.{Meaning, fault}
use Rattle.transition.specs.Making.{Made}
use Rattle.run_sheet.specs.Says.{move_said}

-- the text said a move and the system made it; or the text said none, or the system refused it, and nothing changed
abbrev pub Played : {S : Type 0} (M : Meaning) → (S → M.Config) → S → List ℕ → Result (Move × Option Arc) Fault → S → Type 0
Played M conf s text (Ok (m, a)) t = (move_said text ≡ Ok m) × Made M conf s m (Ok a) t
Played M conf s text (Err f) t =
    ((why : Refusal) × (move_said text ≡ Err why) × (f ≡ fault why 0) × (t ≡ s))
    ⊎ ((m : Move) × (move_said text ≡ Ok m) × Made M conf s m (Err f) t)
