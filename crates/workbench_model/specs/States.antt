-- A workbench beside its model.
use Rattle.std.specs.Prelude.{◌≡◌, ℕ, ◌≤◌, List, length, take, Some, None, Option}
use Rattle.treebank.specs.declared.moves.Move.{Move}
use Rattle.transition.specs.Meaning.{Meaning}
use Rattle.transition.specs.Runs.{Run}
use Rattle.workbench_model.specs.Models.{Model, Call, config}
use Rattle.workbench_model.specs.Serving.{Outcome, with_moves, serve}

-- what a workbench holds: the model's part, the configuration, and where the system starts
pub record State (M : Meaning) : Type 0 where
  pub model : Model
  pub at : M.Config
  pub start : ℕ → M.Config

-- of these words, under this epoch, with these moves and this checkpoint
abbrev pub holding : {M : Meaning} → ℕ → ℕ → List Move → Option ℕ → M.Config → (ℕ → M.Config) → State M
holding words epoch moves checkpoint at start =
    record { model = record { words = words; epoch = epoch; moves = moves; checkpoint = checkpoint }; at = at; start = start }

-- the checkpoint is no longer than the list of moves
abbrev pub Within : Option ℕ → ℕ → Type 0
Within None n = Unit {0}
Within (Some k) n = k ≤ n

-- the moves standing, each permitted in its turn, lead from the start to the configuration
pub record Sound (M : Meaning) (s : State M) : Type 0 where
  pub few : s.model.words ≤ 100
  pub run : Run M (s.start s.model.words) s.model.moves s.at
  pub within : Within s.model.checkpoint (length s.model.moves)

-- a call was answered, and left the workbench, as the model says; the moves standing lead to the configuration again
pub record Served (M : Meaning) (s : State M) (call : Call) (a : Outcome) (t : State M) : Type 0 where
  pub is : serve M s.start s.model call ≡ (a, t.model)
  pub same : t.start ≡ s.start
  pub sound : Sound M s → Sound M t

-- the moves behind the first k are gone, and the configuration is the one that those give
pub record WentBack (M : Meaning) (s : State M) (k : ℕ) (t : State M) : Type 0 where
  pub model : t.model ≡ with_moves s.model (take k s.model.moves)
  pub same : t.start ≡ s.start
  pub at : Sound M s → t.at ≡ config M s.start t.model
