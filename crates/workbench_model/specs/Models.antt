-- A workbench as a plain machine.
use Rattle.std.specs.Prelude.{ℕ, List, [], None, Option}
use Rattle.treebank.specs.declared.moves.Move.{Move}
use Rattle.treebank.specs.declared.rows.Row.{Row}
use Rattle.transition.specs.Meaning.{Meaning}
use Rattle.transition.specs.Runs.{after}

-- the moves standing, oldest first; a checkpoint is a length of that list
pub record Model : Type 0 where
  pub words : ℕ
  pub epoch : ℕ
  pub moves : List Move
  pub checkpoint : Option ℕ

abbrev pub new_model : Model
new_model = record { words = 0; epoch = 0; moves = []; checkpoint = None }

-- the configuration that the moves standing give
abbrev pub config : (M : Meaning) → (ℕ → M.Config) → Model → M.Config
config M start b = after M (start b.words) b.moves

-- a call with what it takes; of a ticket that is its epoch
pub data Call : Type 0 where
  load : ℕ → ℕ → Call
  step : Move → Call
  undo : Call
  checkpoint : Call
  commit : ℕ → Call
  rollback : ℕ → Call
  derive : List Row → Call
