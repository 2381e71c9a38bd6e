-- Replay on a workbench, seen through the model.
use Rattle.std.specs.Prelude.{◌≡◌, ℕ, List, length, Ok, Err, Result}
use Rattle.transition.specs.Meaning.{Meaning}
use Rattle.workbench_model.specs.States.{State, Sound}
use Rattle.sheets_theory.specs.declared.faults.SheetFault.{SheetFault}
use Rattle.sheets_theory.specs.Replays.{replay_model}
use Rattle.sheets_theory.specs.RoundTrips.{SaysExactly}

-- the sheet was accepted as the model accepts it, and the answer is how many moves it added; what was sound still is
pub record Accepted (M : Meaning) (s : State M) (text : List ℕ) (k : ℕ) (t : State M) : Type 0 where
  pub is : replay_model M s.start s.model text ≡ Ok t.model
  pub count : k ≡ length t.model.moves
  pub exact : SaysExactly M.number s.model text t.model
  pub same : t.start ≡ s.start
  pub sound : Sound M s → Sound M t

-- the sheet was refused as the model refuses it, and model and start are as before, and where the moves standing led to the configuration, all is
pub record RefusedSheet (M : Meaning) (s : State M) (text : List ℕ) (f : SheetFault) (t : State M) : Type 0 where
  pub is : replay_model M s.start s.model text ≡ Err f
  pub model : t.model ≡ s.model
  pub same : t.start ≡ s.start
  pub unchanged : Sound M s → t ≡ s
  pub sound : Sound M s → Sound M t

abbrev pub ReplayTold : {M : Meaning} → State M → List ℕ → Result ℕ SheetFault → State M → Type 0
ReplayTold {M} s text (Ok k) t = Accepted M s text k t
ReplayTold {M} s text (Err f) t = RefusedSheet M s text f t
