-- The lines behind the heading, made on a workbench.
use Rattle.std.specs.Prelude.{◌≡◌, ℕ, List, [], length, drop, Ok, Err, Result}
use Rattle.transition.specs.Meaning.{Meaning}
use Rattle.workbench_model.specs.Serving.{with_moves}
use Rattle.workbench_model.specs.States.{State, Sound}
use Rattle.sheets_theory.specs.declared.faults.SheetFault.{SheetFault}
use Rattle.sheets_theory.specs.Replays.{replayed}

-- nothing but the moves may differ
pub record Kept (M : Meaning) (s t : State M) : Type 0 where
  pub rest : with_moves t.model [] ≡ with_moves s.model []
  pub same : t.start ≡ s.start
  pub sound : Sound M s → Sound M t

-- all lines were made, or those before a fault
abbrev pub LinesTold : {M : Meaning} → State M → List ℕ → Result ℕ SheetFault → State M → Type 0
LinesTold {M} s text (Ok k) t = (replayed M s.start s.model 2 (drop 5 text) ≡ Ok t.model) × (k ≡ length t.model.moves) × Kept M s t
LinesTold {M} s text (Err f) t = (replayed M s.start s.model 2 (drop 5 text) ≡ Err f) × Kept M s t
