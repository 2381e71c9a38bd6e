-- A sheet says exactly the moves that it adds, and what was written reads back.
use Rattle.std.specs.Prelude.{◌≡◌, ℕ, List, [], take, None, Ok, Err, Result}
use Rattle.transition.specs.declared.faults.Fault.{Fault}
use Rattle.transition.specs.Meaning.{Meaning}
use Rattle.workbench_model.specs.Models.{Model, config}
use Rattle.workbench_model.specs.Serving.{with_moves}
use Rattle.workbench_model.specs.States.{State, Sound}
use Rattle.workbench_model.specs.Rows.{config_rows}
use Rattle.sheets_theory.specs.Sheets.{sheet_text}
use Rattle.sheets_theory.specs.Replays.{replay_model}

-- a sheet accepted on b that left d: writing the moves of d gives the same bytes
pub record SaysExactly (number : ℕ) (b : Model) (text : List ℕ) (d : Model) : Type 0 where
  pub bytes : text ≡ sheet_text number b.words d.moves
  -- no moves and no checkpoint stood, and only the moves are new
  pub none : b.moves ≡ []
  pub free : b.checkpoint ≡ None
  pub left : d ≡ with_moves b d.moves

-- with so many words, no moves and no checkpoint; the epoch is free
pub record NewlyLoaded (n : Model) (count : ℕ) : Type 0 where
  pub words : n.words ≡ count
  pub none : n.moves ≡ []
  pub free : n.checkpoint ≡ None

-- replayed on n, the text gives the moves and the rows of s, and the configuration to which those moves led
pub record Gives (M : Meaning) (s : State M) (text : List ℕ) (start : ℕ → M.Config) (n : Model) : Type 0 where
  pub moves : replay_model M start n text ≡ Ok (with_moves n s.model.moves)
  pub configuration : Sound M s → config M start (with_moves n s.model.moves) ≡ s.at
  pub rows : config_rows M (config M start (with_moves n s.model.moves)) n.words ≡ config_rows M s.at s.model.words

-- and so on every newly loaded model of as many words that starts alike
abbrev pub ReadsBack : {M : Meaning} → State M → List ℕ → Type 0
ReadsBack {M} s text = (start : ℕ → M.Config) (n : Model) → start ≡ s.start → NewlyLoaded n s.model.words → Gives M s text start n

-- what was written reads back
abbrev pub WroteBack : {M : Meaning} → State M → Result ℕ Fault → List ℕ → Type 0
WroteBack s (Ok k) after = ReadsBack s (take k after)
WroteBack s (Err why) after = Unit {0}
